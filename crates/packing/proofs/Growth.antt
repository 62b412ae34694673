-- The laws of elements that grow at their end: which blocks around the last code are to be packed, and that what is packed is right.
use Prim.Native.Nat.{ℕ, zero, suc, ◌+◌, ◌-◌, ◌*◌, ◌/◌, ◌^◌, ◌≤◌, ◌<◌}
use native.Mathlib.Omega.{arith}
use native.Mathlib.Nat.{le-div_iff_mul-le, div-mul-le_self}
use native.Mathlib.Decide.{dec_lt, dec_le, ℕ_discrete}
use mathlib.Core.Path.{◌≡◌, refl, ap, subst, sym, ◌∙◌}
use mathlib.Core.List.{List, ◌++◌, append-nil}
use lib.Dec.{eqb}
use borrow.Author.Tests.{eq-eqb, ne_eqb}
use Rattle.pktree.specs.Panel.{Aligned}
use Rattle.pktree.specs.PixelSet.{member}
use Rattle.pktree.specs.Elements.{ForestOf, empty, pixel, block_at, ◌⧺◌, size, unlabelled}
use Rattle.pktree.specs.Tree.{pixels}
use Rattle.pktree.proofs.Forests.{pixels_join, join_empty}
use Rattle.pktree.proofs.Alignment.{pow_pos, aligned_below, block_code, block_code_aligned, block_code_le, block_code_lt, block_of_block_code}
use Rattle.pktree.proofs.Counting.{indicator, count_in, Sparse, count_in_join, count_in_le}
use Rattle.pktree.proofs.Arranged.{quarter_level, Arranged, LocallyRight, arranged_upper, arranged_join, count_in_all, count_in_before, size_in_range}
use Rattle.pktree.proofs.LocalLaw.{local_is_gather}
use Rattle.pktree.proofs.Sizes.{size_gather_any}
use Rattle.pktree.proofs.Unlabelled.{size_unlabelled, local_unlabelled}
use Rattle.pktree.proofs.Regroup.{count_around, Run, find_run}
use Rattle.packing.specs.Growing.{UpTo, code_of_element, OnlyAround, Open}

pub div_mono : (j a c : ℕ) → a ≤ c → a / 4 ^ j ≤ c / 4 ^ j
div_mono j a c h = (le-div_iff_mul-le (pow_pos j)).1 (omega (arith, div-mul-le_self a (4 ^ j)))

-- a code between two codes of a block is in it
between_near : (j a c x : ℕ) → a ≤ c → c ≤ x → a / 4 ^ j ≡ x / 4 ^ j → c / 4 ^ j ≡ x / 4 ^ j
between_near j a c x p q e = omega (arith, div_mono j a c p, div_mono j c x q)

-- elements from a code of the block around x on, up to x, are all in that block
all_near : {A : Type 0} (k n from to j a x : ℕ) (f : ForestOf A) → a ≤ from → Arranged k n from to f → UpTo x f → a / 4 ^ j ≡ x / 4 ^ j → count_around j x f ≡ size f
all_near k n from to j a x empty p h u e = refl
all_near k n from to j a x (pixel c f) p h u e =
    omega (arith, ap indicator (eq-eqb (c / 4 ^ j) (x / 4 ^ j) (between_near j a c x (omega arith) u.0 e)), all_near k n (suc c) to j a x f (omega arith) h.1 u.1 e)
all_near k n from to j a x (block_at v i c es f) p h u e =
    omega (arith, ap indicator (eq-eqb (c / 4 ^ j) (x / 4 ^ j) (between_near j a c x (omega arith) u.0 e)), all_near k n (c + 4 ^ i) to j a x f (omega arith) h.7 u.1 e)

code_range : {A : Type 0} (k n from to x : ℕ) (f : ForestOf A) (s : ℕ) → Arranged k n from to f → UpTo x f → s < size f → (from ≤ code_of_element f s) × (code_of_element f s ≤ x)
code_range k n from to x empty s h u l = absurd (omega arith)
code_range k n from to x (pixel c f) zero h u l = (h.0, u.0)
code_range k n from to x (pixel c f) (suc s) h u l = let r = code_range k n (suc c) to x f s h.1 u.1 (omega arith) in (omega arith, r.1)
code_range k n from to x (block_at v i c es f) zero h u l = (h.0, u.0)
code_range k n from to x (block_at v i c es f) (suc s) h u l = let r = code_range k n (c + 4 ^ i) to x f s h.7 u.1 (omega arith) in (omega arith, r.1)

-- element s lies in the block around x: so do all from it on
pub many_around : {A : Type 0} (k n from to j x : ℕ) (f : ForestOf A) (s : ℕ) → Arranged k n from to f → UpTo x f → s < size f → code_of_element f s / 4 ^ j ≡ x / 4 ^ j
    → size f ≤ s + count_around j x f
many_around k n from to j x empty s h u l e = absurd (omega arith)
many_around k n from to j x (pixel c f) zero h u l e =
    omega (arith, ap indicator (eq-eqb (c / 4 ^ j) (x / 4 ^ j) e), all_near k n (suc c) to j c x f (omega arith) h.1 u.1 e)
many_around k n from to j x (pixel c f) (suc s) h u l e = omega (arith, many_around k n (suc c) to j x f s h.1 u.1 (omega arith) e)
many_around k n from to j x (block_at v i c es f) zero h u l e =
    omega (arith, ap indicator (eq-eqb (c / 4 ^ j) (x / 4 ^ j) e), all_near k n (c + 4 ^ i) to j c x f (omega arith) h.7 u.1 e)
many_around k n from to j x (block_at v i c es f) (suc s) h u l e = omega (arith, many_around k n (c + 4 ^ i) to j x f s h.7 u.1 (omega arith) e)

-- element s does not lie in it: nor do those before it
pub few_around : {A : Type 0} (k n from to j x : ℕ) (f : ForestOf A) (s : ℕ) → Arranged k n from to f → UpTo x f → s < size f → (code_of_element f s / 4 ^ j ≡ x / 4 ^ j → ⊥)
    → count_around j x f + suc s ≤ size f
few_around k n from to j x empty s h u l ne = absurd (omega arith)
few_around k n from to j x (pixel c f) zero h u l ne = omega (arith, ap indicator (ne_eqb (c / 4 ^ j) (x / 4 ^ j) ne), count_in_le j (x / 4 ^ j) f)
few_around k n from to j x (pixel c f) (suc s) h u l ne =
    let r = code_range k n (suc c) to x f s h.1 u.1 (omega arith) in
    omega (
      arith,
      ap indicator (ne_eqb (c / 4 ^ j) (x / 4 ^ j) (λ e. ne (between_near j c (code_of_element f s) x (omega arith) r.1 e))),
      few_around k n (suc c) to j x f s h.1 u.1 (omega arith) ne,
    )
few_around k n from to j x (block_at v i c es f) zero h u l ne = omega (arith, ap indicator (ne_eqb (c / 4 ^ j) (x / 4 ^ j) ne), count_in_le j (x / 4 ^ j) f)
few_around k n from to j x (block_at v i c es f) (suc s) h u l ne =
    let r = code_range k n (c + 4 ^ i) to x f s h.7 u.1 (omega arith) in
    omega (
      arith,
      ap indicator (ne_eqb (c / 4 ^ j) (x / 4 ^ j) (λ e. ne (between_near j c (code_of_element f s) x (omega arith) r.1 e))),
      few_around k n (c + 4 ^ i) to j x f s h.7 u.1 (omega arith) ne,
    )

-- the element before the last k does not lie in a block around x: the block holds fewer than k
pub none_to_pack : {A : Type 0} (k m x to i : ℕ) (f : ForestOf A) → 2 ≤ k → Open k m x to f → (k ≤ size f → code_of_element f (size f - k) / 4 ^ i ≡ x / 4 ^ i → ⊥) → count_around i x f < k
none_to_pack k m x to i f h2 o ne = go (dec_le k (size f))
  where
    go : Dec (k ≤ size f) → count_around i x f < k
    go (yes l) = omega (arith, few_around k m 0 to i x f (size f - k) o.arranged o.reach (omega arith) (ne l))
    go (no l) = omega (arith, count_in_le i (x / 4 ^ i) f)

up_to_join : {A : Type 0} (x : ℕ) (f g : ForestOf A) → UpTo x f → UpTo x g → UpTo x (f ⧺ g)
up_to_join x empty g p q = q
up_to_join x (pixel c f) g p q = (p.0, up_to_join x f g p.1 q)
up_to_join x (block_at v i c es f) g p q = (p.0, up_to_join x f g p.1 q)

up_to_parts : {A : Type 0} (x : ℕ) (f g : ForestOf A) → UpTo x (f ⧺ g) → UpTo x f × UpTo x g
up_to_parts x empty g p = (tt, p)
up_to_parts x (pixel c f) g p = let r = up_to_parts x f g p.1 in ((p.0, r.0), r.1)
up_to_parts x (block_at v i c es f) g p = let r = up_to_parts x f g p.1 in ((p.0, r.0), r.1)

up_to_more : {A : Type 0} (x y : ℕ) (f : ForestOf A) → x ≤ y → UpTo x f → UpTo y f
up_to_more x y empty l p = tt
up_to_more x y (pixel c f) l p = (omega arith, up_to_more x y f l p.1)
up_to_more x y (block_at v i c es f) l p = (omega arith, up_to_more x y f l p.1)

-- no element begins after the last code
none_after : {A : Type 0} (k n from to x : ℕ) (f : ForestOf A) → x < from → Arranged k n from to f → UpTo x f → f ≡ empty
none_after k n from to x empty l h u = refl
none_after k n from to x (pixel c f) l h u = absurd (omega arith)
none_after k n from to x (block_at v i c es f) l h u = absurd (omega arith)

-- elements that are right in their block have room in a slot
pub right_is_small : {A : Type 0} (k j d : ℕ) (f : ForestOf A) → 2 ≤ k → Aligned j d → LocallyRight k j d f → size f ≤ 4 * (k - 1)
right_is_small k j d f h a r =
    let g = local_is_gather k j d (unlabelled f) a (local_unlabelled r) in
    subst (λ (n : ℕ). n ≤ 4 * (k - 1)) (ap size (sym g) ∙ size_unlabelled f) (size_gather_any (member (pixels (unlabelled f))) k j d h)

-- the elements in the block of level j around x, which are the last ones, are packed into that block: all is as it was, and the block is right
pub record Packed {A : Type 0} (k m x to j : ℕ) (f : ForestOf A) : Type 0 where
  pub before : ForestOf A
  pub run : ForestOf A
  pub is : f ≡ before ⧺ run
  pub count : size run ≡ count_around j x f
  pub most : size run ≤ 4 * (k - 1)
  pub opened : (label : A) → Open k m x to (before ⧺ block_at label j (block_code j x) run empty)
  pub same : (label : A) → pixels (before ⧺ block_at label j (block_code j x) run empty) ≡ pixels f

-- THE PACKING LAW: the block around x is complete and holds k elements, and no lower block around x does.
pub packing : {A : Type 0} (k m x to j : ℕ) (f : ForestOf A) → 2 ≤ k → Open k m x to f → j < m → block_code j x + 4 ^ j ≤ to → k ≤ count_around j x f
    → ((i : ℕ) → i < j → count_around i x f < k) → Packed k m x to j f
packing {A} k m x to j f h2 o jm fits many least =
    last_run (find_run k m j (x / 4 ^ j) to fits 0 f (omega arith) (omega arith) o.arranged)
  where
    code : ℕ
    code = block_code j x

    last_run : Run k m j (x / 4 ^ j) 0 to f → Packed k m x to j f
    last_run r =
        let up : UpTo x r.before × UpTo x (r.run ⧺ r.after) = up_to_parts x r.before (r.run ⧺ r.after) (subst (UpTo x) r.eq o.reach) in
        let z : r.after ≡ empty = none_after k m (code + 4 ^ j) to x r.after (block_code_lt j x) r.high (up_to_parts x r.run r.after up.1).1 in
        let e : f ≡ r.before ⧺ r.run = r.eq ∙ rw (z, join_empty r.run) in
        made r.before r.run e r.low r.mid up.0
      where
        made : (a b : ForestOf A) → f ≡ a ⧺ b → Arranged k m 0 code a → Arranged k j code (code + 4 ^ j) b → UpTo x a → Packed k m x to j f
        made a b e low mid reach =
            record {
              before = a;
              run = b;
              is = e;
              count = n;
              most = right_is_small k j code b h2 (block_code_aligned j x) right;
              opened = λ label. record {
                arranged = arranged_join k m 0 code to a (block_at label j code b empty) low
                    (omega arith, jm, above_pixels j refl, omega (arith, n), block_code_aligned j x, right.sparse, mid, fits);
                reach = up_to_join x a (block_at label j code b empty) reach (block_code_le j x, tt);
                others = fewer label;
              };
              same = λ label. pixels_join a (block_at label j code b empty) ∙ ap (λ (l : List ℕ). pixels a ++ l) (append-nil (pixels b)) ∙ sym (ap pixels e ∙ pixels_join a b);
            }
          where
            split : (i q : ℕ) → count_in i q f ≡ count_in i q a + count_in i q b
            split i q = ap (count_in i q) e ∙ count_in_join i q a b

            n : size b ≡ count_around j x f
            n =
                omega (
                  arith,
                  split j (x / 4 ^ j),
                  count_in_before k m j (x / 4 ^ j) 0 code a low (omega arith),
                  count_in_all k j j (x / 4 ^ j) code (code + 4 ^ j) b mid (omega arith) (omega arith),
                )

            -- fewer than k in each quarter of the new block
            quarters : (i : ℕ) → i < j → Sparse k i b
            quarters i l q = go (ℕ_discrete q (x / 4 ^ i))
              where
                go : Dec (q ≡ x / 4 ^ i) → count_in i q b < k
                go (yes p) = omega (arith, split i q, ap (λ (p : ℕ). count_in i p f) p, least i l)
                go (no p) = omega (arith, split i q, o.others i q (omega arith) p)

            -- a block of level 0 holds one element
            above_pixels : (i : ℕ) → i ≡ j → 1 ≤ j
            above_pixels zero p = absurd (omega (arith, ap (λ (l : ℕ). 4 ^ l) p, size_in_range k j code (code + 4 ^ j) b mid, n))
            above_pixels (suc i) p = omega arith

            below : (i : ℕ) → i ≡ j → Sparse k (quarter_level i) b
            below zero p = absurd (omega (arith, above_pixels 0 p))
            below (suc i) p = quarters i (omega arith)

            right : LocallyRight k j code b
            right = record { arranged = mid; sparse = below j refl }

            whole : (label : A) (i q : ℕ) → count_in i q (a ⧺ block_at label j code b empty) ≡ count_in i q a + indicator (eqb (code / 4 ^ i) q)
            whole label i q = omega (arith, count_in_join i q a (block_at label j code b empty))

            fewer : (label : A) → OnlyAround k m x (a ⧺ block_at label j code b empty)
            fewer label i q im ne = go (ℕ_discrete (code / 4 ^ i) q) (dec_le j i)
              where
                go : Dec (code / 4 ^ i ≡ q) → Dec (j ≤ i) → count_in i q (a ⧺ block_at label j code b empty) < k
                go (yes p) (yes l) = absurd (ne (sym p ∙ block_of_block_code j i x l))
                go (yes p) (no l) =
                    let c : code / 4 ^ i * 4 ^ i ≡ code = aligned_below i j code (omega arith) (block_code_aligned j x) in
                    let c' : code ≤ q * 4 ^ i = omega (arith, c, ap (λ (m : ℕ). m * 4 ^ i) p) in
                    omega (arith, whole label i q, count_in_before k m i q 0 code a low c', ap indicator (eq-eqb (code / 4 ^ i) q p))
                go (no p) l = omega (arith, whole label i q, ap indicator (ne_eqb (code / 4 ^ i) q p), split i q, o.others i q im ne)

-- no block around x below a level holds k, and the blocks around x from it on are those around d: then only blocks around d are open
pub open_around_next : {A : Type 0} (k m x to d limit : ℕ) (f : ForestOf A) → Open k m x to f → ((i : ℕ) → i < limit → count_around i x f < k)
    → ((j : ℕ) → limit ≤ j → x / 4 ^ j ≡ d / 4 ^ j) → OnlyAround k m d f
open_around_next k m x to d limit f o few common j q jm ne = go (ℕ_discrete q (x / 4 ^ j)) (dec_lt j limit)
  where
    go : Dec (q ≡ x / 4 ^ j) → Dec (j < limit) → count_in j q f < k
    go (yes p) (yes l) = rw p (few j l)
    go (yes p) (no l) = absurd (ne (p ∙ common j (omega arith)))
    go (no p) l = o.others j q jm p

-- the next code
pub pushed : {A : Type 0} (k m x d : ℕ) (f : ForestOf A) → x ≤ d → Arranged k m 0 d f → UpTo x f → OnlyAround k m d f → Open k m d (suc d) (f ⧺ pixel d empty)
pushed k m x d f l h u o = record {
  arranged = arranged_join k m 0 d (suc d) f (pixel d empty) h (omega arith, omega arith);
  reach = up_to_join d f (pixel d empty) (up_to_more x d f l u) (omega arith, tt);
  others = λ j q jm ne. omega (arith, count_in_join j q f (pixel d empty), ap indicator (ne_eqb (d / 4 ^ j) q (λ e. ne (sym e))), o j q jm ne);
}

-- nothing open below the panel's own block: the elements of the root are right
pub root_right : {A : Type 0} (k m x to : ℕ) (f : ForestOf A) → 1 ≤ m → to ≤ 4 ^ m → Open k m x to f → ((i : ℕ) → i < m → count_around i x f < k) → LocallyRight k m 0 f
root_right k zero x to f h l o few = absurd (omega arith)
root_right k (suc m) x to f h l o few = record { arranged = arranged_upper k (suc m) 0 to (0 + 4 ^ suc m) f (omega arith) o.arranged; sparse = λ q. go q (ℕ_discrete q (x / 4 ^ m)) }
  where
    go : (q : ℕ) → Dec (q ≡ x / 4 ^ m) → count_in m q f < k
    go q (yes e) = rw e (few m (omega arith))
    go q (no ne) = o.others m q (omega arith) ne
