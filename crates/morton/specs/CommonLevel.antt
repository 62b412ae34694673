-- 01 "Panel, pixel, code": the smallest aligned block that holds two codes.
use Rattle.std.specs.Prelude.{◌≡◌, ℕ, ◌/◌, ◌^◌, ◌≤◌}

-- a and b lie in one aligned block of level i, in none of a lower level, and the panel has no level above 16
pub record CommonLevel (a b i : ℕ) : Type 0 where
  pub common : a / 4 ^ i ≡ b / 4 ^ i
  pub least : (j : ℕ) → a / 4 ^ j ≡ b / 4 ^ j → i ≤ j
  pub small : i ≤ 16
