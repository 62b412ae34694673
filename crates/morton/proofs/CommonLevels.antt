-- The level of two codes, from the length in bits of their difference.
use Rattle.std.proofs.Common.{◌≡◌, ℕ, suc, ◌+◌, ◌-◌, ◌*◌, ◌/◌, ◌^◌, ◌<◌, ◌≤◌, sym, ap, ◌∙◌, lt_of_lt_of_le, div-lt_iff_lt-mul, pow-suc, lt_of_not-le, not-le_of_lt, arith, pow_pos, pow_mono}
use native.Mathlib.Nat.{div-eq_of_lt}
use lib.Bits.{bit_xor, xor_shr, xor_self, xor_lt, xor_add_and, and_le_l, and_le_r}
use lib.Count.{count_leading_zeros, leading_length}
use Rattle.morton.specs.CommonLevel.{CommonLevel}
use Rattle.morton.proofs.Blocks.{four_pow}

-- numbers that differ nowhere are equal
xor_zero : (a b : ℕ) → bit_xor a b ≡ 0 → a ≡ b
xor_zero a b e = omega (arith, xor_add_and a b, and_le_l a b, and_le_r a b)

-- the high parts are equal just where the difference is below
same_high : (a b i : ℕ) → bit_xor a b < 2 ^ i → a / 2 ^ i ≡ b / 2 ^ i
same_high a b i h = xor_zero (a / 2 ^ i) (b / 2 ^ i) (sym (xor_shr a b i) ∙ div-eq_of_lt h)

below_high : (a b i : ℕ) → a / 2 ^ i ≡ b / 2 ^ i → bit_xor a b < 2 ^ i
below_high a b i e =
    let z : bit_xor a b / 2 ^ i ≡ 0 = xor_shr a b i ∙ ap (λ (n : ℕ). bit_xor n (b / 2 ^ i)) e ∙ xor_self (b / 2 ^ i) in
    let p : bit_xor a b < 1 * 2 ^ i = (div-lt_iff_lt-mul (pow_pos i)).0 (omega (arith, z)) in
    omega (arith, p)

pub common_level_law : (a b : ℕ) → a < 2 ^ 32 → b < 2 ^ 32 → CommonLevel a b ((32 - count_leading_zeros 32 (bit_xor a b) + 1) / 2)
common_level_law a b ha hb = record { common = holds; least = least; small = omega (arith, s.1) }
  where
    d : ℕ
    d = bit_xor a b

    s : (m : ℕ) × (count_leading_zeros 32 d + m ≡ 32) × (d < 2 ^ m) × (2 ^ m ≤ 2 * d + 1)
    s = leading_length 32 d (xor_lt 32 a b ha hb)

    r : ℕ
    r = (32 - count_leading_zeros 32 d + 1) / 2

    long : s.0 ≤ 2 * r
    long = omega (arith, s.1)

    holds : a / 4 ^ r ≡ b / 4 ^ r
    holds = rw (← four_pow r) (same_high a b (2 * r) (lt_of_lt_of_le s.2 (pow_mono long)))

    least : (j : ℕ) → a / 4 ^ j ≡ b / 4 ^ j → r ≤ j
    least j e =
        let f : bit_xor a b < 2 ^ (2 * j) = below_high a b (2 * j) (rw (← four_pow j) at e) in
        let g : 2 ^ s.0 < 2 ^ suc (2 * j) = omega (arith, f, s.3, pow-suc 2 (2 * j)) in
        let k : s.0 < suc (2 * j) = lt_of_not-le (λ q. not-le_of_lt g (pow_mono q)) in
        omega (arith, k, s.1)
