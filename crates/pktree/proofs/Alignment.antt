-- Aligned blocks: they nest, and each level has one that holds a given code.
use Prim.Native.Nat.{ℕ, zero, suc, ◌+◌, ◌*◌, ◌/◌, ◌^◌, ◌≤◌, ◌<◌}
use native.Mathlib.Omega.{arith}
use native.Mathlib.Nat.{one-le-pow, mul-le-mul_right, lt_of_mul-lt-mul_right, mul-div_cancel, pow-succ', div-eq_of_lt-le, div-mul-le_self, lt-div-mul-add, eq-or-lt_of_le}
use native.Mathlib.Decide.{dec_lt}
use mathlib.Core.Path.{◌≡◌, refl, ap}
use mathlib.Core.Logic.{◌⊎◌, inl, inr}
use Rattle.pktree.specs.Panel.{Aligned}

pub pow_pos : (i : ℕ) → 0 < 4 ^ i
pow_pos i = one-le-pow i 4 (omega arith)

pub aligned_multiple : (i c q : ℕ) → c ≡ q * 4 ^ i → Aligned i c
aligned_multiple i c q e = rw e (ap (λ (n : ℕ). n * 4 ^ i) (mul-div_cancel q (pow_pos i)))

pub aligned_root : (i : ℕ) → Aligned i 0
aligned_root i = aligned_multiple i 0 0 (omega arith)

pub aligned_plus : (i c p : ℕ) → Aligned i c → Aligned i (c + p * 4 ^ i)
aligned_plus i c p h = aligned_multiple i (c + p * 4 ^ i) (c / 4 ^ i + p) (omega arith)

pub aligned_next : (i c : ℕ) → Aligned i c → Aligned i (c + 4 ^ i)
aligned_next i c h = aligned_multiple i (c + 4 ^ i) (c / 4 ^ i + 1) (omega arith)

pub aligned_down : (i c : ℕ) → Aligned (suc i) c → Aligned i c
aligned_down i c h = aligned_multiple i c (4 * (c / 4 ^ suc i)) (omega (arith, ap (λ (n : ℕ). c / 4 ^ suc i * n) (pow-succ' 4 i)))

pub aligned_below : (i l c : ℕ) → i ≤ l → Aligned l c → Aligned i c
aligned_below i zero c h a = let e : i ≡ 0 = omega arith in rw e a
aligned_below i (suc l) c h a = go (eq-or-lt_of_le h) (aligned_below i l c)
  where
    go : (i ≡ suc l) ⊎ (i < suc l) → (i ≤ l → Aligned l c → Aligned i c) → Aligned i c
    go (inl e) ih = rw e a
    go (inr p) ih = ih (omega arith) (aligned_down l c a)

-- a block that starts below an edge of its own level or a higher one ends there or before
pub blocks_nest : (i l c d : ℕ) → i ≤ l → Aligned i c → Aligned l d → c < d → c + 4 ^ i ≤ d
blocks_nest i l c d h a b p =
    let b' : Aligned i d = aligned_below i l d h b in
    let q : c / 4 ^ i < d / 4 ^ i = lt_of_mul-lt-mul_right (4 ^ i) (omega arith) in
    omega (arith, mul-le-mul_right (4 ^ i) q)

-- the code of the block of level i that holds x
abbrev pub block_code : ℕ → ℕ → ℕ
block_code i x = x / 4 ^ i * 4 ^ i

pub block_code_aligned : (i x : ℕ) → Aligned i (block_code i x)
block_code_aligned i x = aligned_multiple i (block_code i x) (x / 4 ^ i) refl

pub block_code_le : (i x : ℕ) → block_code i x ≤ x
block_code_le i x = div-mul-le_self x (4 ^ i)

pub block_code_lt : (i x : ℕ) → x < block_code i x + 4 ^ i
block_code_lt i x = lt-div-mul-add (pow_pos i)

-- it stands in any block of level i or higher that holds x
pub block_inside : (i l x d : ℕ) → i ≤ l → Aligned l d → d ≤ x → x < d + 4 ^ l → (d ≤ block_code i x) × (block_code i x + 4 ^ i ≤ d + 4 ^ l)
block_inside i l x d h a p q = (
  go (dec_lt (block_code i x) d),
  blocks_nest i l (block_code i x) (d + 4 ^ l) h (block_code_aligned i x) (aligned_next l d a) (omega (arith, block_code_le i x)),
)
  where
    go : Dec (block_code i x < d) → d ≤ block_code i x
    go (yes t) = absurd (omega (arith, blocks_nest i l (block_code i x) d h (block_code_aligned i x) a t, block_code_lt i x))
    go (no t) = omega arith

-- it is the only one of its level that holds x
pub block_code_unique : (i x d : ℕ) → Aligned i d → d ≤ x → x < d + 4 ^ i → block_code i x ≡ d
block_code_unique i x d a p q = omega (arith, block_inside i i x d (omega arith) a p q)

pub block_of_block_code : (i l x : ℕ) → i ≤ l → block_code i x / 4 ^ l ≡ x / 4 ^ l
block_of_block_code i l x h =
    let n = block_inside i l x (block_code l x) h (block_code_aligned l x) (block_code_le l x) (block_code_lt l x) in
    div-eq_of_lt-le (4 ^ l) (omega arith) (omega (arith, pow_pos i))
