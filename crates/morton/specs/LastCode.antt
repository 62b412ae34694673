-- The last code of a block: the codes of its pixels follow one another.
use Rattle.std.specs.Prelude.{◌≡◌, ℕ, ◌+◌, ◌-◌, ◌^◌, ◌≤◌}

pub record LastCode (level code r : ℕ) : Type 0 where
  pub is : 1 ≤ level → level ≤ 16 → code + 4 ^ level ≤ 4 ^ 16 → r ≡ code + (4 ^ level - 1)
