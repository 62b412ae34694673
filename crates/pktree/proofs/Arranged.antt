-- Elements that stand in order, with every block among them right inside: what the local law asks of a block.
use Prim.Native.Nat.{ℕ, zero, suc, ◌+◌, ◌*◌, ◌^◌, ◌≤◌, ◌<◌}
use native.Mathlib.Omega.{arith}
use native.Mathlib.Decide.{dec_lt}
use mathlib.Core.Path.{◌≡◌, refl, ap₂, sym, ◌∙◌}
use mathlib.Core.Bool.{false, ◌||◌, or_assoc}
use mathlib.Core.List.{List, [], ◌∷◌, ◌++◌}
use lib.Dec.{eqb}
use borrow.Author.Tests.{ne_eqb}
use Rattle.pktree.specs.Panel.{Aligned}
use Rattle.pktree.specs.PixelSet.{member}
use Rattle.pktree.specs.Elements.{ForestOf, empty, pixel, block_at, ◌⧺◌, size}
use Rattle.pktree.specs.Tree.{pixels}
use Rattle.pktree.proofs.Forests.{pixels_join}
use Rattle.pktree.proofs.Alignment.{pow_pos, aligned_multiple, blocks_nest}
use Rattle.pktree.proofs.Counting.{count_in, Sparse, count_in_join, indicator_in, indicator_low, indicator_high}

-- the level of the quarters of a block
abbrev pub quarter_level : ℕ → ℕ
quarter_level zero = zero
quarter_level (suc level) = level

-- the elements ascend from `from` to `to` without overlap; each block among them is aligned, has a level from 1 to below n,
-- at least k elements, fewer than k in each of its quarters, and elements that are so themselves
abbrev pub Arranged : {A : Type 0} → ℕ → ℕ → ℕ → ℕ → ForestOf A → Type 0
Arranged k n from to empty = from ≤ to
Arranged k n from to (pixel c f) = (from ≤ c) × Arranged k n (suc c) to f
Arranged k n from to (block_at u i c es f) =
    (from ≤ c) × (i < n) × (1 ≤ i) × (k ≤ size es) × Aligned i c × Sparse k (quarter_level i) es × Arranged k i c (c + 4 ^ i) es × Arranged k n (c + 4 ^ i) to f

-- the local law, of the elements es of the block of this level and code: it is seen one block at a time
pub record LocallyRight {A : Type 0} (k level code : ℕ) (es : ForestOf A) : Type 0 where
  pub arranged : Arranged k level code (code + 4 ^ level) es
  pub sparse : Sparse k (quarter_level level) es

pub arranged_le : {A : Type 0} (k n from to : ℕ) (f : ForestOf A) → Arranged k n from to f → from ≤ to
arranged_le k n from to empty h = h
arranged_le k n from to (pixel c f) h = omega (arith, arranged_le k n (suc c) to f h.1)
arranged_le k n from to (block_at u i c es f) h = omega (arith, arranged_le k n (c + 4 ^ i) to f h.7)

pub arranged_lift : {A : Type 0} (k n n' from to : ℕ) (f : ForestOf A) → n ≤ n' → Arranged k n from to f → Arranged k n' from to f
arranged_lift k n n' from to empty l h = h
arranged_lift k n n' from to (pixel c f) l h = (h.0, arranged_lift k n n' (suc c) to f l h.1)
arranged_lift k n n' from to (block_at u i c es f) l h = (h.0, omega arith, h.2, h.3, h.4, h.5, h.6, arranged_lift k n n' (c + 4 ^ i) to f l h.7)

pub arranged_lower : {A : Type 0} (k n from' from to : ℕ) (f : ForestOf A) → from' ≤ from → Arranged k n from to f → Arranged k n from' to f
arranged_lower k n from' from to empty l h = omega arith
arranged_lower k n from' from to (pixel c f) l h = (omega arith, h.1)
arranged_lower k n from' from to (block_at u i c es f) l h = (omega arith, h.1, h.2, h.3, h.4, h.5, h.6, h.7)

pub arranged_upper : {A : Type 0} (k n from to to' : ℕ) (f : ForestOf A) → to ≤ to' → Arranged k n from to f → Arranged k n from to' f
arranged_upper k n from to to' empty l h = omega arith
arranged_upper k n from to to' (pixel c f) l h = (h.0, arranged_upper k n (suc c) to to' f l h.1)
arranged_upper k n from to to' (block_at u i c es f) l h = (h.0, h.1, h.2, h.3, h.4, h.5, h.6, arranged_upper k n (c + 4 ^ i) to to' f l h.7)

pub arranged_join : {A : Type 0} (k n a b d : ℕ) (f g : ForestOf A) → Arranged k n a b f → Arranged k n b d g → Arranged k n a d (f ⧺ g)
arranged_join k n a b d empty g h l = arranged_lower k n a b d g h l
arranged_join k n a b d (pixel c f) g h l = (h.0, arranged_join k n (suc c) b d f g h.1 l)
arranged_join k n a b d (block_at u i c es f) g h l = (h.0, h.1, h.2, h.3, h.4, h.5, h.6, arranged_join k n (c + 4 ^ i) b d f g h.7 l)

pub count_in_all : {A : Type 0} (k n l q from to : ℕ) (f : ForestOf A) → Arranged k n from to f → q * 4 ^ l ≤ from → to ≤ q * 4 ^ l + 4 ^ l → count_in l q f ≡ size f
count_in_all k n l q from to empty h p r = refl
count_in_all k n l q from to (pixel c f) h p r =
    omega (arith, indicator_in l q c (omega arith) (omega (arith, arranged_le k n (suc c) to f h.1)), count_in_all k n l q (suc c) to f h.1 (omega arith) r)
count_in_all k n l q from to (block_at u i c es f) h p r =
    omega (arith, indicator_in l q c (omega arith) (omega (arith, pow_pos i, arranged_le k n (c + 4 ^ i) to f h.7)), count_in_all k n l q (c + 4 ^ i) to f h.7 (omega arith) r)

pub count_in_after : {A : Type 0} (k n l q from to : ℕ) (f : ForestOf A) → Arranged k n from to f → q * 4 ^ l + 4 ^ l ≤ from → count_in l q f ≡ 0
count_in_after k n l q from to empty h p = refl
count_in_after k n l q from to (pixel c f) h p = omega (arith, indicator_high l q c (omega arith), count_in_after k n l q (suc c) to f h.1 (omega arith))
count_in_after k n l q from to (block_at u i c es f) h p = omega (arith, indicator_high l q c (omega arith), count_in_after k n l q (c + 4 ^ i) to f h.7 (omega arith))

pub count_in_before : {A : Type 0} (k n l q from to : ℕ) (f : ForestOf A) → Arranged k n from to f → to ≤ q * 4 ^ l → count_in l q f ≡ 0
count_in_before k n l q from to empty h p = refl
count_in_before k n l q from to (pixel c f) h p =
    omega (arith, indicator_low l q c (omega (arith, arranged_le k n (suc c) to f h.1)), count_in_before k n l q (suc c) to f h.1 p)
count_in_before k n l q from to (block_at u i c es f) h p =
    omega (arith, indicator_low l q c (omega (arith, pow_pos i, arranged_le k n (c + 4 ^ i) to f h.7)), count_in_before k n l q (c + 4 ^ i) to f h.7 p)

pub sparse_join : {A : Type 0} (k n l from d to : ℕ) (f g : ForestOf A) → Aligned l d → Arranged k n from d f → Arranged k n d to g → Sparse k l f → Sparse k l g → Sparse k l (f ⧺ g)
sparse_join k n l from d to f g a u v p r q = go (dec_lt (q * 4 ^ l) d)
  where
    go : Dec (q * 4 ^ l < d) → count_in l q (f ⧺ g) < k
    go (yes t) =
        let s : q * 4 ^ l + 4 ^ l ≤ d = blocks_nest l l (q * 4 ^ l) d (omega arith) (aligned_multiple l (q * 4 ^ l) q refl) a t in
        omega (arith, count_in_join l q f g, count_in_after k n l q d to g v s, p q)
    go (no t) = omega (arith, count_in_join l q f g, count_in_before k n l q from d f u (omega arith), r q)

-- which pixels stand there
pub member_append : (l r : List ℕ) (x : ℕ) → member (l ++ r) x ≡ (member l x || member r x)
member_append [] r x = refl
member_append (y ∷ l) r x = rw (member_append l r x) (sym (or_assoc (eqb y x) (member l x) (member r x)))

pub member_join : {A : Type 0} (f g : ForestOf A) (x : ℕ) → member (pixels (f ⧺ g)) x ≡ (member (pixels f) x || member (pixels g) x)
member_join f g x = rw (pixels_join f g) (member_append (pixels f) (pixels g) x)

pub member_after : {A : Type 0} (k n from to : ℕ) (f : ForestOf A) (x : ℕ) → Arranged k n from to f → x < from → member (pixels f) x ≡ false
member_after k n from to empty x h p = refl
member_after k n from to (pixel c f) x h p = rw (ne_eqb c x (omega arith)) (member_after k n (suc c) to f x h.1 (omega arith))
member_after k n from to (block_at u i c es f) x h p =
    member_append (pixels es) (pixels f) x
    ∙ ap₂ ◌||◌ (member_after k i c (c + 4 ^ i) es x h.6 (omega arith)) (member_after k n (c + 4 ^ i) to f x h.7 (omega arith))

pub member_before : {A : Type 0} (k n from to : ℕ) (f : ForestOf A) (x : ℕ) → Arranged k n from to f → to ≤ x → member (pixels f) x ≡ false
member_before k n from to empty x h p = refl
member_before k n from to (pixel c f) x h p =
    rw (ne_eqb c x (omega (arith, arranged_le k n (suc c) to f h.1))) (member_before k n (suc c) to f x h.1 p)
member_before k n from to (block_at u i c es f) x h p =
    member_append (pixels es) (pixels f) x
    ∙ ap₂ ◌||◌ (member_before k i c (c + 4 ^ i) es x h.6 (omega (arith, arranged_le k n (c + 4 ^ i) to f h.7))) (member_before k n (c + 4 ^ i) to f x h.7 p)

pub size_in_range : {A : Type 0} (k n from to : ℕ) (f : ForestOf A) → Arranged k n from to f → from + size f ≤ to
size_in_range k n from to empty h = omega arith
size_in_range k n from to (pixel c f) h = omega (arith, size_in_range k n (suc c) to f h.1)
size_in_range k n from to (block_at u i c es f) h = omega (arith, pow_pos i, size_in_range k n (c + 4 ^ i) to f h.7)
