-- The way from the root of a tree down to one of its blocks, with what stands beside it.
use Rattle.std.specs.Prelude.{ℕ, List, [], ◌∷◌}
use Rattle.pktree.specs.Elements.{◌⧺◌, block_at, empty}
use Rattle.store.specs.Placed.{Placed}

-- a block that was passed: its slot, level and code, and its elements before and after the one that was entered
pub record Frame : Type 0 where
  pub slot : ℕ
  pub level : ℕ
  pub code : ℕ
  pub before : Placed
  pub after : Placed

-- room for a way: its blocks have levels from 01's highest, 16, down, each lower than the one before
abbrev pub path_length : ℕ
path_length = 17

-- the tree in which the block of this slot, level and code with these elements stands at the end of the way, the last frame first
abbrev pub plug : List Frame → ℕ → ℕ → ℕ → Placed → Placed
plug [] slot level code es = block_at slot level code es empty
plug (f ∷ way) slot level code es = plug way f.slot f.level f.code (f.before ⧺ block_at slot level code es f.after)
