-- The first of 01's sample panels, searched: m = 3, k = 3, marked codes 0, 1, 2 and 60, so blocks 3/0 and 1/0.
use Rattle.std.specs.Prelude.{ℕ, ◌≡◌, refl, Bool, true, false, List, [], ◌∷◌}
use Rattle.morton.specs.Code.{gather_bits}
use Rattle.pktree.specs.Panel.{Panel}
use Rattle.pktree.specs.Elements.{gather}
use Rattle.searching.specs.Distance.{squared_distance, block_distance}
use Rattle.searching.specs.Search.{continued}
use Rattle.searching.specs.Nearest.{Nearest}
use Rattle.searching.specs.NearestPromises.{nearest_on}

abbrev panel : Panel
panel = record { order = 3; k = 3 }

abbrev marked : List ℕ
marked = 0 ∷ 1 ∷ 2 ∷ 60 ∷ []

abbrev is : Bool → ℕ → ℕ → ℕ → ℕ → Bool → Nearest
is is_found code distance opened limit complete =
    record { is_found = is_found; code = code; distance = distance; opened = opened; limit = limit; complete = complete }

pub record SampleSearches : Type 0 where
  -- at (1, 1), code 3: the root alone shows 60, at (6, 6); the block 1/0 holds the place
  pub rough : nearest_on panel marked 3 1 ≡ is true 60 50 1 0 false
  -- then codes 1 and 2 are as near, and the lower wins
  pub lowest : nearest_on panel marked 3 2 ≡ is true 1 1 2 1 true
  pub more : nearest_on panel marked 3 9 ≡ is true 1 1 2 1 true
  -- at (7, 7), code 63: the block 1/0 is farther than 60
  pub far : nearest_on panel marked 63 9 ≡ is true 60 2 1 2 true
  -- at (4, 0), code 16: the block 1/0 is at squared distance 9 and 60 at 40; then code 1 is the nearest
  pub first_limit : nearest_on panel marked 16 1 ≡ is true 60 40 1 9 false
  pub then_pixel : nearest_on panel marked 16 2 ≡ is true 1 9 2 9 true
  -- nothing marked
  pub nothing : nearest_on panel [] 16 1 ≡ is false 0 0 1 0 true
  -- without the pixel 60 the root alone shows none
  pub no_pixel : nearest_on panel (0 ∷ 1 ∷ 2 ∷ []) 16 1 ≡ is false 0 0 1 9 false

pub sample_searches : SampleSearches
unfolding gather gather_bits squared_distance block_distance continued
sample_searches =
    record { rough = refl; lowest = refl; more = refl; far = refl; first_limit = refl; then_pixel = refl; nothing = refl; no_pixel = refl }
