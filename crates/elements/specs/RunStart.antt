-- The run of elements around a code, by the words of elements, two for each.
use Rattle.std.specs.Prelude.{ℕ, suc, ◌*◌, ◌/◌, ◌^◌, ◌≤◌, ◌<◌, ◌≡◌, List, get_or}

-- r is the first of the elements before `from` that lie, with all after them, in the block of this level around the code
pub record RunStart (elements : List ℕ) (from code level r : ℕ) : Type 0 where
  pub within : r ≤ from
  pub near : (i : ℕ) → r ≤ i → i < from → get_or elements (2 * i) 0 / 4 ^ level ≡ code / 4 ^ level
  pub ends : (i : ℕ) → suc i ≡ r → get_or elements (2 * i) 0 / 4 ^ level ≡ code / 4 ^ level → ⊥
