-- How many of some elements lie in an aligned block; an element counts once, be it a pixel or a block.
use Prim.Native.Nat.{ℕ, ◌+◌, ◌*◌, ◌/◌, ◌^◌, ◌≤◌, ◌<◌}
use native.Mathlib.Omega.{arith}
use native.Mathlib.Nat.{div-eq_of_lt-le, div-mul-le_self, lt-div-mul-add}
use mathlib.Core.Path.{◌≡◌, refl, ap, sym, ◌∙◌}
use mathlib.Core.Bool.{Bool, true, false}
use lib.Dec.{eqb}
use borrow.Author.Tests.{eq-eqb, ne_eqb, eqb-true}
use Rattle.pktree.specs.Elements.{ForestOf, empty, pixel, block_at, ◌⧺◌, size}
use Rattle.pktree.proofs.Alignment.{pow_pos, block_of_block_code}

abbrev pub indicator : Bool → ℕ
indicator true = 1
indicator false = 0

-- how many elements lie in the block of level l numbered q, whose codes are those from q * 4 ^ l on
abbrev pub count_in : {A : Type 0} → ℕ → ℕ → ForestOf A → ℕ
count_in l q empty = 0
count_in l q (pixel c f) = indicator (eqb (c / 4 ^ l) q) + count_in l q f
count_in l q (block_at u i c es f) = indicator (eqb (c / 4 ^ l) q) + count_in l q f

-- no block of level l holds k of the elements
abbrev pub Sparse : {A : Type 0} → ℕ → ℕ → ForestOf A → Type 0
Sparse k l f = (q : ℕ) → count_in l q f < k

pub count_in_join : {A : Type 0} (l q : ℕ) (f g : ForestOf A) → count_in l q (f ⧺ g) ≡ count_in l q f + count_in l q g
count_in_join l q empty g = omega arith
count_in_join l q (pixel c f) g = omega (arith, count_in_join l q f g)
count_in_join l q (block_at u i c es f) g = omega (arith, count_in_join l q f g)

pub indicator_le : (b : Bool) → indicator b ≤ 1
indicator_le true = omega arith
indicator_le false = omega arith

pub count_in_le : {A : Type 0} (l q : ℕ) (f : ForestOf A) → count_in l q f ≤ size f
count_in_le l q empty = omega arith
count_in_le l q (pixel c f) = omega (arith, count_in_le l q f, indicator_le (eqb (c / 4 ^ l) q))
count_in_le l q (block_at u i c es f) = omega (arith, count_in_le l q f, indicator_le (eqb (c / 4 ^ l) q))

pub indicator_in : (l q c : ℕ) → q * 4 ^ l ≤ c → c < q * 4 ^ l + 4 ^ l → indicator (eqb (c / 4 ^ l) q) ≡ 1
indicator_in l q c p r = rw (eq-eqb (c / 4 ^ l) q (div-eq_of_lt-le (4 ^ l) p (omega arith)))

pub indicator_low : (l q c : ℕ) → c < q * 4 ^ l → indicator (eqb (c / 4 ^ l) q) ≡ 0
indicator_low l q c p = rw (ne_eqb (c / 4 ^ l) q (λ e. omega (arith, div-mul-le_self c (4 ^ l), ap (λ (n : ℕ). n * 4 ^ l) e)))

pub indicator_high : (l q c : ℕ) → q * 4 ^ l + 4 ^ l ≤ c → indicator (eqb (c / 4 ^ l) q) ≡ 0
indicator_high l q c p = rw (ne_eqb (c / 4 ^ l) q (λ e. omega (arith, lt-div-mul-add {a = c} (pow_pos l), ap (λ (n : ℕ). n * 4 ^ l) e)))

-- fewer than k elements in all: fewer than k in each block
pub sparse_of_small : {A : Type 0} (k l : ℕ) (f : ForestOf A) → size f < k → Sparse k l f
sparse_of_small k l f h q = omega (arith, count_in_le l q f)

-- a lower level counts no more
indicator_mono : (a b : Bool) → (a ≡ true → b ≡ true) → indicator a ≤ indicator b
indicator_mono true b h = rw (h refl) (omega arith)
indicator_mono false b h = omega arith

wider : (j l q c : ℕ) → j ≤ l → indicator (eqb (c / 4 ^ j) q) ≤ indicator (eqb (c / 4 ^ l) (q * 4 ^ j / 4 ^ l))
wider j l q c h =
    indicator_mono (eqb (c / 4 ^ j) q) (eqb (c / 4 ^ l) (q * 4 ^ j / 4 ^ l))
    (λ e. let p : c / 4 ^ j ≡ q = eqb-true (c / 4 ^ j) q e in eq-eqb (c / 4 ^ l) (q * 4 ^ j / 4 ^ l) (sym (block_of_block_code j l c h) ∙ ap (λ (m : ℕ). m * 4 ^ j / 4 ^ l) p))

count_in_below : {A : Type 0} (j l q : ℕ) (f : ForestOf A) → j ≤ l → count_in j q f ≤ count_in l (q * 4 ^ j / 4 ^ l) f
count_in_below j l q empty h = omega arith
count_in_below j l q (pixel c f) h = omega (arith, wider j l q c h, count_in_below j l q f h)
count_in_below j l q (block_at u i c es f) h = omega (arith, wider j l q c h, count_in_below j l q f h)

pub sparse_below : {A : Type 0} (k j l : ℕ) (f : ForestOf A) → j ≤ l → Sparse k l f → Sparse k j f
sparse_below k j l f h p q = omega (arith, count_in_below j l q f h, p (q * 4 ^ j / 4 ^ l))
