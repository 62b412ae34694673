-- An aligned block of 4 ^ i codes is an aligned square of side 2 ^ i.
use Rattle.std.proofs.Common.{◌≡◌, ℕ, zero, suc, ◌+◌, ◌-◌, ◌*◌, ◌/◌, ◌%◌, ◌^◌, ◌<◌, ◌≤◌, sym, refl, ap, ◌∙◌, le_of_suc-le-suc, not-suc-le-zero, mod-eq_of_lt, zero-lt-suc, suc-mul, pow-suc, lt_of_not-le, div-one, arith, pow-add}
use native.Mathlib.Nat.{one-le-pow, div-eq_of_lt-le, pow-le-pow_right, div-div-eq-div-mul, sub-zero, suc-sub-suc}
use native.Mathlib.Decide.{dec_lt}
use Rattle.morton.specs.Code.{gather_bits, interleave}
use Rattle.morton.specs.CommonLevel.{CommonLevel}
use Rattle.morton.proofs.Codes.{div_suc}

-- two bits for each level
pub four_pow : (i : ℕ) → 2 ^ (2 * i) ≡ 4 ^ i
four_pow zero = refl
four_pow (suc i) =
    let e : 2 ^ (2 * suc i) ≡ 2 ^ suc (suc (2 * i)) = ap (λ (n : ℕ). 2 ^ n) (omega arith) in
    omega (arith, e, pow-suc 2 (suc (2 * i)), pow-suc 2 (2 * i), pow-suc 4 i, four_pow i)

-- no block has more than 2 ^ 32 codes
pub size_to : (level : ℕ) → level ≤ 16 → 4 ^ level ≤ 4294967296
size_to level h = pow-le-pow_right (omega arith) h

-- at level 16 none of 32 bits is shifted out
bits_left : (level : ℕ) → 1 ≤ level → level ≤ 16 → (32 - 2 * (level % 16)) % 32 ≡ 32 - 2 * level
bits_left level from to = go (dec_lt level 16)
  where
    go : Dec (level < 16) → (32 - 2 * (level % 16)) % 32 ≡ 32 - 2 * level
    go (yes h) = let e : level % 16 ≡ level = mod-eq_of_lt h in rw e (mod-eq_of_lt (omega arith))
    go (no h) = let e : level ≡ 16 = omega arith in rw e

-- of 32 set bits, those that a shift leaves are one less than the size of a block
pub low_bits : (level : ℕ) → 1 ≤ level → level ≤ 16 → 0xffff_ffff / 2 ^ ((32 - 2 * (level % 16)) % 32) ≡ 4 ^ level - 1
low_bits level from to =
    let left = bits_left level from to in
    let whole : 2 ^ (2 * level) * 2 ^ (32 - 2 * level) ≡ 2 ^ (2 * level + (32 - 2 * level)) = sym (pow-add 2 (2 * level) (32 - 2 * level)) in
    let all : 2 * level + (32 - 2 * level) ≡ 32 = omega arith in
    let bits : 4 ^ level * 2 ^ (32 - 2 * level) ≡ 2 ^ 32 = rw (← four_pow level, whole, all) in
    let one : 4 ^ level ≡ suc (4 ^ level - 1) = omega (arith, one-le-pow level 4 (zero-lt-suc 3)) in
    let less : 2 ^ 32 ≡ suc (4 ^ level - 1) * 2 ^ (32 - 2 * level) = sym bits ∙ ap (λ (n : ℕ). n * 2 ^ (32 - 2 * level)) one in
    let side = one-le-pow (32 - 2 * level) 2 (zero-lt-suc 1) in
    let split = suc-mul (4 ^ level - 1) (2 ^ (32 - 2 * level)) in
    rw left (div-eq_of_lt-le (2 ^ (32 - 2 * level)) (omega (arith, less, split, side)) (omega (arith, less, split, side)))

-- codes in one block are in one larger block
pub block_up : (a b : ℕ) {i j : ℕ} → i ≤ j → a / 4 ^ i ≡ b / 4 ^ i → a / 4 ^ j ≡ b / 4 ^ j
block_up a b {i} {j} h e =
    let p : 4 ^ j ≡ 4 ^ i * 4 ^ (j - i) = ap (λ (n : ℕ). 4 ^ n) (omega arith) ∙ pow-add 4 i (j - i) in
    rw (p, ← div-div-eq-div-mul a, ← div-div-eq-div-mul b, e)

-- a level is known by the block that holds both codes and the one below it that does not
pub common_level_is : {a b r : ℕ} (i : ℕ) → CommonLevel a b r → a / 4 ^ suc i ≡ b / 4 ^ suc i → (a / 4 ^ i ≡ b / 4 ^ i → ⊥) → r ≡ suc i
common_level_is {a} {b} {r} i l e f =
    let lo : i < r = lt_of_not-le (λ q. f (block_up a b q l.common)) in
    omega (arith, lo, l.least (suc i) e)

-- the block of a pixel is the pixel x / 2 ^ i, y / 2 ^ i of the coarser panel
pub block_of_code : (n i x y : ℕ) → i ≤ n → interleave n x y / 4 ^ i ≡ interleave (n - i) (x / 2 ^ i) (y / 2 ^ i)
unfolding interleave
block_of_code n zero x y h = rw (sub-zero n, div-one x, div-one y, div-one)
block_of_code zero (suc i) x y h = absurd (not-suc-le-zero h)
block_of_code (suc n) (suc i) x y h =
    let c : ℕ = interleave n (x / 2) (y / 2) in
    let hi : (4 * c + 2 * (y % 2) + x % 2) / 4 ≡ c = omega arith in
    rw (div_suc 4 _ i, div_suc 2 x i, div_suc 2 y i, hi, suc-sub-suc n i) (block_of_code n i (x / 2) (y / 2) (le_of_suc-le-suc h))

-- and back: the coordinates of the coarser panel are those of the block
pub gather_of_block : (n i c : ℕ) → i ≤ n → gather_bits n c / 2 ^ i ≡ gather_bits (n - i) (c / 4 ^ i)
unfolding gather_bits
gather_of_block n zero c h = rw (sub-zero n, div-one (gather_bits n c), div-one c)
gather_of_block zero (suc i) c h = absurd (not-suc-le-zero h)
gather_of_block (suc n) (suc i) c h =
    let g : ℕ = gather_bits n (c / 4) in
    let hi : (2 * g + c % 2) / 2 ≡ g = omega arith in
    rw (div_suc 2 _ i, div_suc 4 c i, hi, suc-sub-suc n i) (gather_of_block n i (c / 4) (le_of_suc-le-suc h))
