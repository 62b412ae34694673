-- What the squared distance to a block means: the least over the positions of the block, marked or not.
use Rattle.std.specs.Prelude.{ℕ, ◌+◌, ◌^◌, ◌≤◌, ◌<◌, ◌≡◌}
use Rattle.searching.specs.Distance.{squared_distance, block_distance}

-- a position of a block, by its code
pub record Position (level code p : ℕ) : Type 0 where
  pub starts : code ≤ p
  pub ends : p < code + 4 ^ level

pub record NearestPosition (place level code : ℕ) : Type 0 where
  pub least : (p : ℕ) → Position level code p → block_distance place level code ≤ squared_distance place p
  pub position : ℕ
  pub is_position : Position level code position
  pub reached : squared_distance place position ≡ block_distance place level code
