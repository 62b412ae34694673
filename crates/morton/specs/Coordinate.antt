-- A coordinate that a function hands back, with the bound that its callers need; and whether one lies between two others.
use Rattle.std.specs.Prelude.{◌≡◌, ℕ, ◌^◌, ◌<◌, ◌≤◌, Bool, ◌&&◌, nat_le}

-- 01: the side of the largest panel, so that a coordinate has at most 16 bits
abbrev pub largest_side : ℕ
largest_side = 65536

pub record Coordinate (value r : ℕ) : Type 0 where
  pub is : r ≡ value
  pub below : r < largest_side

-- both included, where they are in order
pub record Between (first last n : ℕ) (r : Bool) : Type 0 where
  pub says : first ≤ last → r ≡ (nat_le first n && nat_le n last)

-- on numbers of n bits, f ascends
abbrev pub Ascends : ℕ → (ℕ → ℕ) → Type 0
Ascends n f = (a b : ℕ) → b < 2 ^ n → a < b → f a < f b
