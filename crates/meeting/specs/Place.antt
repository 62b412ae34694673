-- The place of a search, and the distances from it.
use Rattle.std.specs.Prelude.{ℕ, ◌+◌, ◌*◌, ◌<◌, ◌≡◌}
use Rattle.morton.specs.Code.{code_of}
use Rattle.searching.specs.Distance.{squared_distance, block_distance}
use Rattle.meeting.specs.declared.place.Place.{Place}

abbrev pub place_code : Place → ℕ
place_code place = code_of place.x place.y

pub record PlaceOf (code : ℕ) (place : Place) : Type 0 where
  pub code_is : place_code place ≡ code

-- 2 ^ 33: a squared distance is below it
abbrev pub beyond : ℕ
beyond = 8589934592

pub record Squared (dx dy r : ℕ) : Type 0 where
  pub is : r ≡ dx * dx + dy * dy
  pub below : r < beyond

pub record ToPixel (place : Place) (code r : ℕ) : Type 0 where
  pub is : r ≡ squared_distance (place_code place) code
  pub below : r < beyond

pub record ToBlock (place : Place) (level code r : ℕ) : Type 0 where
  pub is : r ≡ block_distance (place_code place) level code
  pub below : r < beyond
