-- The laws of an axis: the bits that a coordinate has in a code ascend as it does, and a coordinate has at most 16.
use Rattle.std.proofs.Common.{◌≡◌, ℕ, zero, suc, ◌+◌, ◌*◌, ◌/◌, ◌%◌, ◌^◌, ◌<◌, ap, pow-suc, arith}
use native.Mathlib.Decide.{dec_lt}
use Rattle.morton.specs.Code.{spread_bits, gather_bits}
use Rattle.morton.specs.Coordinate.{Ascends}

pub spread_ascends : (n : ℕ) → Ascends n (spread_bits n)
unfolding spread_bits
spread_ascends zero a b hb h = absurd (omega arith)
spread_ascends (suc n) a b hb h = go (dec_lt (a / 2) (b / 2)) (spread_ascends n (a / 2) (b / 2) (omega (arith, pow-suc 2 n)))
  where
    go : Dec (a / 2 < b / 2) → (a / 2 < b / 2 → spread_bits n (a / 2) < spread_bits n (b / 2)) → 4 * spread_bits n (a / 2) + a % 2 < 4 * spread_bits n (b / 2) + b % 2
    go (yes p) f = omega (arith, f p)
    go (no p) f = let e : a / 2 ≡ b / 2 = omega arith in omega (arith, ap (spread_bits n) e)

pub odd_spread_ascends : (n : ℕ) → Ascends n (λ a. spread_bits n a * 2)
odd_spread_ascends n a b hb h = omega (arith, spread_ascends n a b hb h)

pub gather_below : (n c : ℕ) → gather_bits n c < 2 ^ n
unfolding gather_bits
gather_below zero c = omega arith
gather_below (suc n) c = omega (arith, pow-suc 2 n, gather_below n (c / 4))
