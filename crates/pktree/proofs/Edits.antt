-- Where x stands among the elements of a block, and what putting a pixel in, taking one out or dissolving a block there leaves.
use Prim.Native.Nat.{ℕ, suc, ◌+◌, ◌*◌, ◌/◌, ◌^◌, ◌≤◌, ◌<◌}
use native.Mathlib.Omega.{arith}
use native.Mathlib.Nat.{mul-le-mul_right}
use native.Mathlib.Decide.{dec_lt, dec_le, ℕ_discrete}
use mathlib.Core.Path.{◌≡◌, refl, ap, subst, sym, ◌∙◌}
use lib.Dec.{eqb}
use borrow.Author.Tests.{eq-eqb, ne_eqb}
use Rattle.pktree.specs.Panel.{Aligned}
use Rattle.pktree.specs.Elements.{ForestOf, empty, pixel, block_at, ◌⧺◌, size}
use Rattle.pktree.proofs.Alignment.{pow_pos, aligned_multiple, aligned_next, blocks_nest, block_code, block_code_aligned, block_code_le, block_code_lt, block_code_unique, block_inside, block_of_block_code}
use Rattle.pktree.proofs.Counting.{indicator, count_in, count_in_join, count_in_le, sparse_below}
use Rattle.pktree.proofs.Arranged.{Arranged, LocallyRight, arranged_lift, arranged_lower, arranged_join, count_in_after, count_in_before}
use Rattle.pktree.proofs.Regroup.{Disturbed}

-- x stands between two elements, is a pixel among them, or lies in a block
pub data Place {A : Type 0} (k n from to x : ℕ) (f : ForestOf A) : Type 0 where
  between : (a b : ForestOf A) → f ≡ a ⧺ b → Arranged k n from x a → Arranged k n (suc x) to b → Place k n from to x f
  at_pixel : (a b : ForestOf A) → f ≡ a ⧺ pixel x b → Arranged k n from x a → Arranged k n (suc x) to b → Place k n from to x f
  in_block : (label : A) (i d : ℕ) (es a b : ForestOf A) → f ≡ a ⧺ block_at label i d es b → d ≤ x → x < d + 4 ^ i → Arranged k n from d a → i < n → 1 ≤ i → k ≤ size es → Aligned i d → LocallyRight k i d es
      → Arranged k n (d + 4 ^ i) to b → Place k n from to x f

pub place : {A : Type 0} (k n from to x : ℕ) (f : ForestOf A) → from ≤ x → x < to → Arranged k n from to f → Place k n from to x f
place k n from to x empty p q h = between empty empty refl p q
place k n from to x (pixel c f) p q h = go (dec_lt x c) (ℕ_discrete c x) (λ t. place k n (suc c) to x f t q h.1)
  where
    push : Place k n (suc c) to x f → Place k n from to x (pixel c f)
    push (between a b e u v) = between (pixel c a) b (ap (pixel c) e) (h.0, u) v
    push (at_pixel a b e u v) = at_pixel (pixel c a) b (ap (pixel c) e) (h.0, u) v
    push (in_block t₀ i d es a b e s t u m o y z w v) = in_block t₀ i d es (pixel c a) b (ap (pixel c) e) s t (h.0, u) m o y z w v

    go : Dec (x < c) → Dec (c ≡ x) → (suc c ≤ x → Place k n (suc c) to x f) → Place k n from to x (pixel c f)
    go (yes t) e r = between empty (pixel c f) refl p (t, h.1)
    go (no t) (yes e) r = at_pixel empty f (ap (λ (y : ℕ). pixel y f) e) p (subst (λ (y : ℕ). Arranged k n (suc y) to f) e h.1)
    go (no t) (no e) r = push (r (omega arith))
place k n from to x (block_at label j c es f) p q h = go (dec_lt x c) (dec_lt x (c + 4 ^ j)) (λ t. place k n (c + 4 ^ j) to x f t q h.7)
  where
    push : Place k n (c + 4 ^ j) to x f → Place k n from to x (block_at label j c es f)
    push (between a b e u v) = between (block_at label j c es a) b (ap (block_at label j c es) e) (h.0, h.1, h.2, h.3, h.4, h.5, h.6, u) v
    push (at_pixel a b e u v) = at_pixel (block_at label j c es a) b (ap (block_at label j c es) e) (h.0, h.1, h.2, h.3, h.4, h.5, h.6, u) v
    push (in_block t₀ i d gs a b e s t u m o y z w v) =
        in_block t₀ i d gs (block_at label j c es a) b (ap (block_at label j c es) e) s t (h.0, h.1, h.2, h.3, h.4, h.5, h.6, u) m o y z w v

    go : Dec (x < c) → Dec (x < c + 4 ^ j) → (c + 4 ^ j ≤ x → Place k n (c + 4 ^ j) to x f) → Place k n from to x (block_at label j c es f)
    go (yes t) e r = between empty (block_at label j c es f) refl p (t, h.1, h.2, h.3, h.4, h.5, h.6, h.7)
    go (no t) (yes e) r = in_block label j c es empty f refl (omega arith) e h.0 h.1 h.2 h.3 h.4 (record { arranged = h.6; sparse = h.5 }) h.7
    go (no t) (no e) r = push (r (omega arith))

indicator_self : (j x : ℕ) → indicator (eqb (x / 4 ^ j) (x / 4 ^ j)) ≡ 1
indicator_self j x = ap indicator (eq-eqb (x / 4 ^ j) (x / 4 ^ j) refl)

indicator_away : (r q : ℕ) → (q ≡ r → ⊥) → indicator (eqb r q) ≡ 0
indicator_away r q h = ap indicator (ne_eqb r q (λ e. h (sym e)))

module _ {A : Type 0} (k l c x : ℕ) (h2 : 2 ≤ k) (aligned : Aligned (suc l) c) (above : c ≤ x) (below : x < c + 4 ^ suc l) where
  -- a pixel put in
  pub put_in : (es a b : ForestOf A) → es ≡ a ⧺ b → LocallyRight k (suc l) c es → Arranged k (suc l) c x a → Arranged k (suc l) (suc x) (c + 4 ^ suc l) b
      → Disturbed k l c x (a ⧺ pixel x b)
  put_in es a b e r u v =
      record {
        aligned = aligned;
        above = above;
        below = below;
        arranged = arranged_join k (suc l) c x (c + 4 ^ suc l) a (pixel x b) u (omega arith, v);
        others = λ j q p ne. omega (arith, count_in_join j q a (pixel x b), old j q, indicator_away (x / 4 ^ j) q ne, sparse_below k j l es p r.sparse q);
        most = omega (arith, count_in_join l (x / 4 ^ l) a (pixel x b), old l (x / 4 ^ l), indicator_self l x, r.sparse (x / 4 ^ l));
      }
    where
      old : (j q : ℕ) → count_in j q es ≡ count_in j q a + count_in j q b
      old j q = ap (count_in j q) e ∙ count_in_join j q a b

  -- a pixel taken out
  pub take_out : (es a b : ForestOf A) → es ≡ a ⧺ pixel x b → LocallyRight k (suc l) c es → Arranged k (suc l) c x a → Arranged k (suc l) (suc x) (c + 4 ^ suc l) b
      → LocallyRight k (suc l) c (a ⧺ b)
  take_out es a b e r u v =
      record {
        arranged = arranged_join k (suc l) c x (c + 4 ^ suc l) a b u (arranged_lower k (suc l) x (suc x) (c + 4 ^ suc l) b (omega arith) v);
        sparse = λ q. omega (arith, count_in_join l q a b, ap (count_in l q) e ∙ count_in_join l q a (pixel x b), r.sparse q);
      }

  module _ (label : A) (es a b fs : ForestOf A) (i d : ℕ) (e : es ≡ a ⧺ block_at label i d fs b) (r : LocallyRight k (suc l) c es) (u : Arranged k (suc l) c d a) (il : i < suc l) (ev : Aligned i d)
      (d-above : d ≤ x) (d-below : x < d + 4 ^ i) (v : Arranged k (suc l) (d + 4 ^ i) (c + 4 ^ suc l) b) where
    old : (j q : ℕ) → count_in j q es ≡ count_in j q a + (indicator (eqb (d / 4 ^ j) q) + count_in j q b)
    old j q = ap (count_in j q) e ∙ count_in_join j q a (block_at label i d fs b)

    -- a block whose elements changed and are still k
    pub keep_block : (now : A) (gs : ForestOf A) → 1 ≤ i → k ≤ size gs → LocallyRight k i d gs → LocallyRight k (suc l) c (a ⧺ block_at now i d gs b)
    keep_block now gs one many g =
        record {
          arranged = arranged_join k (suc l) c d (c + 4 ^ suc l) a (block_at now i d gs b) u (omega arith, il, one, many, ev, g.sparse, g.arranged, v);
          sparse = λ q. omega (arith, count_in_join l q a (block_at now i d gs b), old l q, r.sparse q);
        }

    -- a block dissolved: its fewer than k elements in its place
    pub dissolve : (gs : ForestOf A) → size gs < k → Arranged k i d (d + 4 ^ i) gs → Disturbed k l c x (a ⧺ (gs ⧺ b))
    dissolve gs sparse g =
        record {
          aligned = aligned;
          above = above;
          below = below;
          arranged = arranged_join k (suc l) c d (c + 4 ^ suc l) a (gs ⧺ b) u
              (arranged_join k (suc l) d (d + 4 ^ i) (c + 4 ^ suc l) gs b (arranged_lift k i (suc l) d (d + 4 ^ i) gs (omega arith) g) v);
          others = λ j q p ne. part j q p ne (dec_lt (q * 4 ^ j) d) (dec_le (d + 4 ^ i) (q * 4 ^ j)) (dec_lt j i);
          most = omega (arith, new l (x / 4 ^ l), old l (x / 4 ^ l), count_in_le l (x / 4 ^ l) gs, r.sparse (x / 4 ^ l), at_l);
        }
      where
        new : (j q : ℕ) → count_in j q (a ⧺ (gs ⧺ b)) ≡ count_in j q a + (count_in j q gs + count_in j q b)
        new j q = count_in_join j q a (gs ⧺ b) ∙ ap (λ (m : ℕ). count_in j q a + m) (count_in_join j q gs b)

        d_is : block_code i x ≡ d
        d_is = block_code_unique i x d ev d-above d-below

        at_l : indicator (eqb (d / 4 ^ l) (x / 4 ^ l)) ≡ 1
        at_l = ap indicator (eq-eqb (d / 4 ^ l) (x / 4 ^ l) (ap (λ (m : ℕ). m / 4 ^ l) (sym d_is) ∙ block_of_block_code i l x (omega arith)))

        none_there : (j q : ℕ) → j ≤ l → count_in j q gs ≡ 0 → count_in j q (a ⧺ (gs ⧺ b)) < k
        none_there j q p z = omega (arith, new j q, old j q, z, sparse_below k j l es p r.sparse q)

        wide : (j q : ℕ) → j ≤ l → (q ≡ x / 4 ^ j → ⊥) → i ≤ j → Dec (q < x / 4 ^ j) → count_in j q (a ⧺ (gs ⧺ b)) < k
        wide j q p ne ij (yes y) =
            let n = block_inside i j x (block_code j x) ij (block_code_aligned j x) (block_code_le j x) (block_code_lt j x) in
            none_there j q p (count_in_after k i j q d (d + 4 ^ i) gs g (omega (arith, d_is, mul-le-mul_right (4 ^ j) y)))
        wide j q p ne ij (no y) =
            let n = block_inside i j x (block_code j x) ij (block_code_aligned j x) (block_code_le j x) (block_code_lt j x) in
            let z : x / 4 ^ j < q = omega arith in
            none_there j q p (count_in_before k i j q d (d + 4 ^ i) gs g (omega (arith, d_is, mul-le-mul_right (4 ^ j) z)))

        part : (j q : ℕ) → j ≤ l → (q ≡ x / 4 ^ j → ⊥) → Dec (q * 4 ^ j < d) → Dec (d + 4 ^ i ≤ q * 4 ^ j) → Dec (j < i) → count_in j q (a ⧺ (gs ⧺ b)) < k
        part j q p ne s t (no w) = wide j q p ne (omega arith) (dec_lt q (x / 4 ^ j))
        part j q p ne (no s) (yes t) (yes w) = none_there j q p (count_in_before k i j q d (d + 4 ^ i) gs g t)
        part j q p ne (yes s) (yes t) (yes w) = absurd (omega (arith, pow_pos i))
        part j q p ne (yes s) (no t) (yes w) =
            none_there j q p (count_in_after k i j q d (d + 4 ^ i) gs g (blocks_nest j i (q * 4 ^ j) d (omega arith) (aligned_multiple j (q * 4 ^ j) q refl) ev s))
        part j q p ne (no s) (no t) (yes w) =
            let y : q * 4 ^ j + 4 ^ j ≤ d + 4 ^ i = blocks_nest j i (q * 4 ^ j) (d + 4 ^ i) (omega arith) (aligned_multiple j (q * 4 ^ j) q refl) (aligned_next i d ev) (omega arith) in
            omega (
              arith,
              new j q,
              count_in_le j q gs,
              count_in_before k (suc l) j q c d a u (omega arith),
              count_in_after k (suc l) j q (d + 4 ^ i) (c + 4 ^ suc l) b v y,
            )
