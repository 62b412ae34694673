-- The laws of codes: there and back, where each bit stands, and which codes are below 4 ^ m.
use Rattle.std.proofs.Common.{◌≡◌, ℕ, zero, suc, ◌+◌, ◌*◌, ◌/◌, ◌%◌, ◌^◌, ◌<◌, ◌↔◌, sym, refl, ap, ◌∙◌, ap₂, le_of_suc-le-suc, not-suc-le-zero, mod-eq_of_lt, zero-lt-suc, pow-suc, arith}
use native.Mathlib.Nat.{one-le-pow, pow-succ', div-div-eq-div-mul}
use lib.Arith.{mod-mul}
use lib.Bits.{bit_or, or_block, or_shifted_r}
use Rattle.morton.specs.Coordinate.{largest_side}
pub use Rattle.morton.specs.Axis.{gather_below}
use Rattle.morton.specs.Code.{spread_bits, gather_bits, interleave, code_of, x_of, y_of}

-- the lowest digit to the base b, and the rest
low_suc : (b x n : ℕ) → zero < b → x % b ^ suc n ≡ (x / b % b ^ n) * b + x % b
low_suc b x n h = ap (λ (e : ℕ). x % e) (pow-suc b n) ∙ mod-mul x (one-le-pow n b h) h

-- a shift by one digit to the base b first
pub div_suc : (b x n : ℕ) → x / b ^ suc n ≡ x / b / b ^ n
div_suc b x n = ap (λ (e : ℕ). x / e) (pow-succ' b n) ∙ sym (div-div-eq-div-mul x b (b ^ n))

even_bits_of_code : (n x y : ℕ) → gather_bits n (interleave n x y) ≡ x % 2 ^ n
unfolding gather_bits interleave
even_bits_of_code zero x y = omega arith
even_bits_of_code (suc n) x y =
    let c : ℕ = interleave n (x / 2) (y / 2) in
    let hi : (4 * c + 2 * (y % 2) + x % 2) / 4 ≡ c = omega arith in
    rw (hi, even_bits_of_code n (x / 2) (y / 2)) (omega (arith, low_suc 2 x n (zero-lt-suc 1)))

odd_bits_of_code : (n x y : ℕ) → gather_bits n (interleave n x y / 2) ≡ y % 2 ^ n
unfolding gather_bits interleave
odd_bits_of_code zero x y = omega arith
odd_bits_of_code (suc n) x y =
    let c : ℕ = interleave n (x / 2) (y / 2) in
    let hi : (4 * c + 2 * (y % 2) + x % 2) / 2 / 4 ≡ c / 2 = omega arith in
    rw (hi, odd_bits_of_code n (x / 2) (y / 2)) (omega (arith, low_suc 2 y n (zero-lt-suc 1)))

code_of_bits : (n c : ℕ) → interleave n (gather_bits n c) (gather_bits n (c / 2)) ≡ c % 4 ^ n
unfolding gather_bits interleave
code_of_bits zero c = omega arith
code_of_bits (suc n) c =
    let p : ℕ = gather_bits n (c / 4) in
    let q : ℕ = gather_bits n (c / 2 / 4) in
    let hp : (2 * p + c % 2) / 2 ≡ p = omega arith in
    let hq : (2 * q + c / 2 % 2) / 2 ≡ q = omega arith in
    let sw : c / 2 / 4 ≡ c / 4 / 2 = omega arith in
    rw (hp, hq, sw, code_of_bits n (c / 4)) (omega (arith, low_suc 4 c n (zero-lt-suc 3)))

-- there and back, on every pair of 16 bits and on every code of 32
pub x_of_code : (x y : ℕ) → x < largest_side → x_of (code_of x y) ≡ x
x_of_code x y h = even_bits_of_code 16 x y ∙ mod-eq_of_lt h

pub y_of_code : (x y : ℕ) → y < largest_side → y_of (code_of x y) ≡ y
y_of_code x y h = odd_bits_of_code 16 x y ∙ mod-eq_of_lt h

pub code_of_coordinates : (c : ℕ) → c < 4 ^ 16 → code_of (x_of c) (y_of c) ≡ c
code_of_coordinates c h = code_of_bits 16 c ∙ mod-eq_of_lt h

-- the bits' ranges
pub interleave_below : (n m x y : ℕ) → x < 2 ^ m → y < 2 ^ m → interleave n x y < 4 ^ m
unfolding interleave
interleave_below zero m x y hx hy = one-le-pow m 4 (zero-lt-suc 3)
interleave_below (suc n) zero x y hx hy = omega (arith, interleave_below n zero (x / 2) (y / 2) (omega arith) (omega arith))
interleave_below (suc n) (suc m) x y hx hy =
    omega (arith, pow-suc 4 m, interleave_below n m (x / 2) (y / 2) (omega (arith, pow-suc 2 m)) (omega (arith, pow-suc 2 m)))

pub spread_below : (n x : ℕ) → 3 * spread_bits n x < 4 ^ n
unfolding spread_bits
spread_below zero x = omega arith
spread_below (suc n) x = omega (arith, pow-suc 4 n, spread_below n (x / 2))

gather_within : (n m c : ℕ) → c < 4 ^ m → gather_bits n c < 2 ^ m
unfolding gather_bits
gather_within zero m c h = one-le-pow m 2 (zero-lt-suc 1)
gather_within (suc n) zero c h = omega (arith, gather_within n zero (c / 4) (omega arith))
gather_within (suc n) (suc m) c h = omega (arith, pow-suc 2 m, gather_within n m (c / 4) (omega (arith, pow-suc 4 m)))

-- a code is below 4 ^ m exactly when both coordinates are below 2 ^ m
pub code_below : (m c : ℕ) → c < 4 ^ 16 → (c < 4 ^ m) ↔ ((x_of c < 2 ^ m) × (y_of c < 2 ^ m))
code_below m c h = (
  (λ b. (gather_within 16 m c b, gather_within 16 m (c / 2) (omega arith))),
  (λ b. rw (code_of_coordinates c h) at (interleave_below 16 m (x_of c) (y_of c) b.0 b.1)),
)

pub code_of_below : (m x y : ℕ) → x < largest_side → y < largest_side → (code_of x y < 4 ^ m) ↔ ((x < 2 ^ m) × (y < 2 ^ m))
code_of_below m x y hx hy = (
  (λ b. (rw (x_of_code x y hx) at (gather_within 16 m (code_of x y) b), rw (y_of_code x y hy) at (gather_within 16 m (code_of x y / 2) (omega arith)))),
  (λ b. interleave_below 16 m x y b.0 b.1),
)

-- the code from the two coordinates spread
pub code_of_spread : (n x y : ℕ) → bit_or (spread_bits n x) (spread_bits n y * 2) ≡ interleave n x y
unfolding spread_bits interleave
code_of_spread zero x y = refl
code_of_spread (suc n) x y =
    let s : ℕ = spread_bits n (x / 2) in
    let t : ℕ = spread_bits n (y / 2) in
    let ex : 4 * s + x % 2 ≡ s * 2 ^ 2 + x % 2 = omega arith in
    let ey : (4 * t + y % 2) * 2 ≡ t * 2 * 2 ^ 2 + y % 2 * 2 = omega arith in
    ap₂ bit_or ex ey
    ∙ or_block 2 s (t * 2) (x % 2) (y % 2 * 2) (omega arith) (omega arith)
    ∙ ap₂ (λ (p q : ℕ). p * 4 + q) (code_of_spread n (x / 2) (y / 2)) (or_shifted_r (y % 2) 1 (x % 2) (omega arith))
    ∙ omega arith

-- bit i of x is bit 2i of the code, and bit i of y is bit 2i + 1
pub bit_of_x : (n i x y : ℕ) → i < n → interleave n x y / 4 ^ i % 2 ≡ x / 2 ^ i % 2
unfolding interleave
bit_of_x zero i x y h = absurd (not-suc-le-zero h)
bit_of_x (suc n) zero x y h = omega arith
bit_of_x (suc n) (suc i) x y h =
    let c : ℕ = interleave n (x / 2) (y / 2) in
    let hi : (4 * c + 2 * (y % 2) + x % 2) / 4 ≡ c = omega arith in
    rw (div_suc 4 _ i, div_suc 2 x i, hi) (bit_of_x n i (x / 2) (y / 2) (le_of_suc-le-suc h))

pub bit_of_y : (n i x y : ℕ) → i < n → interleave n x y / 4 ^ i / 2 % 2 ≡ y / 2 ^ i % 2
unfolding interleave
bit_of_y zero i x y h = absurd (not-suc-le-zero h)
bit_of_y (suc n) zero x y h = omega arith
bit_of_y (suc n) (suc i) x y h =
    let c : ℕ = interleave n (x / 2) (y / 2) in
    let hi : (4 * c + 2 * (y % 2) + x % 2) / 4 ≡ c = omega arith in
    rw (div_suc 4 _ i, div_suc 2 y i, hi) (bit_of_y n i (x / 2) (y / 2) (le_of_suc-le-suc h))
