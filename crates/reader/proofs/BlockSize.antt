-- Codes and sizes of blocks, as the reader works them out.
use Prim.Native.Nat.{ℕ, zero, suc, ◌+◌, ◌-◌, ◌*◌, ◌/◌, ◌%◌, ◌^◌, ◌≤◌, ◌<◌}
use native.Mathlib.Omega.{arith}
use native.Mathlib.Nat.{div-mul-le_self}
use mathlib.Core.Path.{◌≡◌}
use Rattle.morton.proofs.Blocks.{four_pow, size_to}

-- a code without its bits below the level
pub shifted_code : (level code : ℕ) → code < 18446744073709551616 → code / 2 ^ (2 * level) * 2 ^ (2 * level) % 18446744073709551616 ≡ code / 4 ^ level * 4 ^ level
shifted_code level code h = rw (four_pow level) (omega (arith, div-mul-le_self code (4 ^ level)))

-- a block has four times the codes of its quarter
pub size_of_quarters : (level : ℕ) → 1 ≤ level → 4 ^ level ≡ 4 * 4 ^ (level - 1)
size_of_quarters zero h = absurd (omega arith)
size_of_quarters (suc level) h = let e : suc level - 1 ≡ level = omega arith in rw e (omega arith)

-- no panel has more than 2 ^ 32 pixels
pub panel_size : (order : ℕ) → order ≤ 16 → 0 + 4 ^ order ≤ 4294967296
panel_size order h = omega (arith, size_to order h)
