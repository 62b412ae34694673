-- A number below 2 ^ 32 and its four bytes, each told by the other.
use Prim.Native.Nat.{ℕ, ◌+◌, ◌*◌, ◌/◌, ◌%◌, ◌<◌}
use native.Mathlib.Omega.{arith}
use native.Mathlib.Nat.{div-div-eq-div-mul}
use mathlib.Core.Path.{◌≡◌, ap, sym, ◌∙◌}
use mathlib.Core.List.{[], ◌∷◌}
use Rattle.pktree.specs.Image.{four_bytes}
use Rattle.pktree.proofs.Images.{top_byte}

-- one digit after another, from the low one on
digits_join : (n q1 q2 q3 r0 r1 r2 : ℕ) → n ≡ 256 * q1 + r0 → q1 ≡ 256 * q2 + r1 → q2 ≡ 256 * q3 + r2
    → r0 + 256 * r1 + 65536 * r2 + 16777216 * q3 ≡ n
digits_join n q1 q2 q3 r0 r1 r2 a b c = omega arith

last_digit : (q : ℕ) → q < 256 → q % 256 ≡ q
last_digit q h = omega arith

split : (n : ℕ) → n ≡ 256 * (n / 256) + n % 256
split n = omega arith

over_65536 : (n : ℕ) → n / 65536 ≡ n / 256 / 256
over_65536 n = sym (div-div-eq-div-mul n 256 256)

over_16777216 : (n : ℕ) → n / 16777216 ≡ n / 256 / 256 / 256
over_16777216 n = sym (div-div-eq-div-mul n 65536 256) ∙ ap (λ (q : ℕ). q / 256) (over_65536 n)

-- a number is the sum of its four bytes
pub four_bytes_sum : (n : ℕ) → n < 4294967296 → n % 256 + 256 * (n / 256 % 256) + 65536 * (n / 65536 % 256) + 16777216 * (n / 16777216 % 256) ≡ n
four_bytes_sum n h =
    let q1 : ℕ = n / 256 in
    let q2 : ℕ = q1 / 256 in
    rw (over_65536 n, over_16777216 n, last_digit (n / 256 / 256 / 256) (top_byte n h))
    (digits_join n q1 q2 (q2 / 256) (n % 256) (q1 % 256) (q2 % 256) (split n) (split q1) (split q2))

low_digit : (b q : ℕ) → b < 256 → (b + 256 * q) % 256 ≡ b
low_digit b q h = omega arith

high_digits : (b q : ℕ) → b < 256 → (b + 256 * q) / 256 ≡ q
high_digits b q h = omega arith

-- four bytes are those of their sum
pub sum_four_bytes : (a b c d : ℕ) → a < 256 → b < 256 → c < 256 → d < 256
    → four_bytes (a + 256 * b + 65536 * c + 16777216 * d) ≡ a ∷ b ∷ c ∷ d ∷ []
sum_four_bytes a b c d ha hb hc hd =
    let n : ℕ = a + 256 * b + 65536 * c + 16777216 * d in
    let e0 : n ≡ a + 256 * (b + 256 * (c + 256 * d)) = omega arith in
    let q1 : n / 256 ≡ b + 256 * (c + 256 * d) = ap (λ (x : ℕ). x / 256) e0 ∙ high_digits a (b + 256 * (c + 256 * d)) ha in
    let q2 : n / 65536 ≡ c + 256 * d = over_65536 n ∙ ap (λ (x : ℕ). x / 256) q1 ∙ high_digits b (c + 256 * d) hb in
    let q3 : n / 16777216 ≡ d = over_16777216 n ∙ ap (λ (x : ℕ). x / 256) (sym (over_65536 n) ∙ q2) ∙ high_digits c d hc in
    let r0 : n % 256 ≡ a = ap (λ (x : ℕ). x % 256) e0 ∙ low_digit a (b + 256 * (c + 256 * d)) ha in
    let r1 : n / 256 % 256 ≡ b = ap (λ (x : ℕ). x % 256) q1 ∙ low_digit b (c + 256 * d) hb in
    let r2 : n / 65536 % 256 ≡ c = ap (λ (x : ℕ). x % 256) q2 ∙ low_digit c d hc in
    let r3 : n / 16777216 % 256 ≡ d = ap (λ (x : ℕ). x % 256) q3 ∙ last_digit d hd in
    cc (r0, r1, r2, r3)
