-- THE REGROUP LAW: after one change at x the elements of a block are right again, or become so by forming one block,
-- that of the least level around x which holds k of them.
use Prim.Native.Nat.{ℕ, zero, suc, ◌+◌, ◌-◌, ◌*◌, ◌/◌, ◌^◌, ◌≤◌, ◌<◌}
use native.Mathlib.Omega.{arith}
use native.Mathlib.Nat.{pow-le-pow_right, eq-or-lt_of_le}
use native.Mathlib.Decide.{dec_lt, dec_le, ℕ_discrete}
use mathlib.Core.Path.{◌≡◌, refl, ap, subst, sym, ◌∙◌}
use mathlib.Core.Logic.{◌⊎◌, inl, inr}
use mathlib.Core.List.{List, ◌++◌}
use lib.Dec.{eqb}
use borrow.Author.Tests.{eq-eqb, ne_eqb}
use Rattle.pktree.specs.Panel.{Aligned}
use Rattle.pktree.specs.PixelSet.{member}
use Rattle.pktree.specs.Elements.{ForestOf, empty, pixel, block_at, ◌⧺◌, size, unlabelled}
use Rattle.pktree.specs.Tree.{pixels}
use Rattle.pktree.proofs.Forests.{pixels_join}
use Rattle.pktree.proofs.Alignment.{pow_pos, aligned_multiple, aligned_below, aligned_next, blocks_nest, block_code, block_code_aligned, block_code_le, block_code_lt, block_inside, block_of_block_code}
use Rattle.pktree.proofs.Counting.{indicator, indicator_le, count_in, Sparse, count_in_join, indicator_low, sparse_of_small}
use Rattle.pktree.proofs.Arranged.{quarter_level, Arranged, LocallyRight, arranged_join, count_in_all, count_in_after, count_in_before, size_in_range}
use Rattle.pktree.proofs.LocalLaw.{local_is_gather}
use Rattle.pktree.proofs.Unlabelled.{size_unlabelled, local_unlabelled}
use Rattle.pktree.proofs.Sizes.{size_gather}

-- how many of the elements the block of level j around x holds
abbrev pub count_around : {A : Type 0} → ℕ → ℕ → ForestOf A → ℕ
count_around j x f = count_in j (x / 4 ^ j) f

-- the elements before the block of level j numbered q, in it, and after it
pub record Run {A : Type 0} (k n j q from to : ℕ) (f : ForestOf A) : Type 0 where
  pub before : ForestOf A
  pub run : ForestOf A
  pub after : ForestOf A
  pub eq : f ≡ before ⧺ (run ⧺ after)
  pub low : Arranged k n from (q * 4 ^ j) before
  pub mid : Arranged k j (q * 4 ^ j) (q * 4 ^ j + 4 ^ j) run
  pub high : Arranged k n (q * 4 ^ j + 4 ^ j) to after

record Tail {A : Type 0} (k n j q from to : ℕ) (f : ForestOf A) : Type 0 where
  run : ForestOf A
  after : ForestOf A
  eq : f ≡ run ⧺ after
  mid : Arranged k j from (q * 4 ^ j + 4 ^ j) run
  high : Arranged k n (q * 4 ^ j + 4 ^ j) to after

here : (j q : ℕ) → Aligned j (q * 4 ^ j)
here j q = aligned_multiple j (q * 4 ^ j) q refl

module _ {A : Type 0} (k n j q to : ℕ) (fits : q * 4 ^ j + 4 ^ j ≤ to) where
  tail : (from : ℕ) (f : ForestOf A) → q * 4 ^ j ≤ from → from ≤ q * 4 ^ j + 4 ^ j → (from ≡ q * 4 ^ j → 2 ≤ count_in j q f) → Arranged k n from to f → Tail k n j q from to f
  tail from empty p r two h = record { run = empty; after = empty; eq = refl; mid = r; high = fits }
  tail from (pixel c f) p r two h = go (dec_lt c (q * 4 ^ j + 4 ^ j)) (λ t. tail (suc c) f (omega arith) t (λ e. absurd (omega arith)) h.1)
    where
      go : Dec (c < q * 4 ^ j + 4 ^ j) → (c < q * 4 ^ j + 4 ^ j → Tail k n j q (suc c) to f) → Tail k n j q from to (pixel c f)
      go (yes t) s = let s = s t in record { run = pixel c s.run; after = s.after; eq = ap (pixel c) s.eq; mid = (h.0, s.mid); high = s.high }
      go (no t) s = record { run = empty; after = pixel c f; eq = refl; mid = r; high = (omega arith, h.1) }
  tail from (block_at label i c es f) p r two h =
      go (dec_lt c (q * 4 ^ j + 4 ^ j)) (dec_lt i j)
      (λ t u. tail (c + 4 ^ i) f (omega arith) (blocks_nest i j c (q * 4 ^ j + 4 ^ j) (omega arith) h.4 (aligned_next j (q * 4 ^ j) (here j q)) t) (λ e. absurd (omega (arith, pow_pos i))) h.7)
    where
      big : c < q * 4 ^ j + 4 ^ j → j ≤ i → ⊥
      big t u =
          let e : c ≤ q * 4 ^ j = same (dec_lt (q * 4 ^ j) c) in
          let w : 4 ^ j ≤ 4 ^ i = pow-le-pow_right (omega arith) u in
          omega (arith, two (omega arith), count_in_after k n j q (c + 4 ^ i) to f h.7 (omega arith), indicator_le (eqb (c / 4 ^ j) q))
        where
          same : Dec (q * 4 ^ j < c) → c ≤ q * 4 ^ j
          same (yes v) = absurd (omega (arith, blocks_nest j j (q * 4 ^ j) c (omega arith) (here j q) (aligned_below j i c u h.4) v))
          same (no v) = omega arith

      go : Dec (c < q * 4 ^ j + 4 ^ j) → Dec (i < j) → (c < q * 4 ^ j + 4 ^ j → i < j → Tail k n j q (c + 4 ^ i) to f) → Tail k n j q from to (block_at label i c es f)
      go (yes t) (yes u) s =
          let s = s t u in
          record { run = block_at label i c es s.run; after = s.after; eq = ap (block_at label i c es) s.eq; mid = (h.0, u, h.2, h.3, h.4, h.5, h.6, s.mid); high = s.high }
      go (yes t) (no u) s = absurd (big t (omega arith))
      go (no t) u s = record { run = empty; after = block_at label i c es f; eq = refl; mid = r; high = (omega arith, h.1, h.2, h.3, h.4, h.5, h.6, h.7) }

  from_tail : (from : ℕ) (f : ForestOf A) → from ≤ q * 4 ^ j → Tail k n j q (q * 4 ^ j) to f → Run k n j q from to f
  from_tail from f p s = record { before = empty; run = s.run; after = s.after; eq = s.eq; low = p; mid = s.mid; high = s.high }

  -- two elements in an aligned block: then no element goes over its edge
  pub find_run : (from : ℕ) (f : ForestOf A) → from ≤ q * 4 ^ j → 2 ≤ count_in j q f → Arranged k n from to f → Run k n j q from to f
  find_run from empty p two h = absurd (omega arith)
  find_run from (pixel c f) p two h = go (dec_lt c (q * 4 ^ j)) (λ t. find_run (suc c) f t (omega (arith, indicator_low j q c t)) h.1)
    where
      go : Dec (c < q * 4 ^ j) → (c < q * 4 ^ j → Run k n j q (suc c) to f) → Run k n j q from to (pixel c f)
      go (yes t) s = let s = s t in record { before = pixel c s.before; run = s.run; after = s.after; eq = ap (pixel c) s.eq; low = (h.0, s.low); mid = s.mid; high = s.high }
      go (no t) s = from_tail from (pixel c f) p (tail (q * 4 ^ j) (pixel c f) (omega arith) (omega arith) (λ e. two) (omega arith, h.1))
  find_run from (block_at label i c es f) p two h =
      go (dec_lt c (q * 4 ^ j)) (dec_le (c + 4 ^ i) (q * 4 ^ j)) (λ t u. find_run (c + 4 ^ i) f u (omega (arith, indicator_low j q c t)) h.7)
    where
      over : c < q * 4 ^ j → q * 4 ^ j < c + 4 ^ i → ⊥
      over t u = big (dec_le i j)
        where
          big : Dec (i ≤ j) → ⊥
          big (yes v) = omega (arith, blocks_nest i j c (q * 4 ^ j) v h.4 (here j q) t)
          big (no v) =
              let e : q * 4 ^ j + 4 ^ j ≤ c + 4 ^ i = blocks_nest j j (q * 4 ^ j) (c + 4 ^ i) (omega arith) (here j q) (aligned_below j i (c + 4 ^ i) (omega arith) (aligned_next i c h.4)) u in
              omega (arith, indicator_low j q c t, count_in_after k n j q (c + 4 ^ i) to f h.7 e)

      go : Dec (c < q * 4 ^ j) → Dec (c + 4 ^ i ≤ q * 4 ^ j) → (c < q * 4 ^ j → c + 4 ^ i ≤ q * 4 ^ j → Run k n j q (c + 4 ^ i) to f) → Run k n j q from to (block_at label i c es f)
      go (yes t) (yes u) s =
          let s = s t u in
          record {
            before = block_at label i c es s.before;
            run = s.run;
            after = s.after;
            eq = ap (block_at label i c es) s.eq;
            low = (h.0, h.1, h.2, h.3, h.4, h.5, h.6, s.low);
            mid = s.mid;
            high = s.high;
          }
      go (yes t) (no u) s = absurd (over t (omega arith))
      go (no t) u s =
          from_tail from (block_at label i c es f) p
          (tail (q * 4 ^ j) (block_at label i c es f) (omega arith) (omega arith) (λ e. two) (omega arith, h.1, h.2, h.3, h.4, h.5, h.6, h.7))

-- the elements of the block of level l + 1 and code c, right but perhaps in the blocks around x
pub record Disturbed {A : Type 0} (k l c x : ℕ) (es : ForestOf A) : Type 0 where
  pub aligned : Aligned (suc l) c
  pub above : c ≤ x
  pub below : x < c + 4 ^ suc l
  pub arranged : Arranged k (suc l) c (c + 4 ^ suc l) es
  pub others : (j q : ℕ) → j ≤ l → (q ≡ x / 4 ^ j → ⊥) → count_in j q es < k
  pub most : count_around l x es + 2 ≤ 2 * k

-- nothing to make
pub nothing_to_form : {A : Type 0} (k l c x : ℕ) (es : ForestOf A) → Disturbed k l c x es → count_around l x es < k → LocallyRight k (suc l) c es
nothing_to_form k l c x es h n = record { arranged = h.arranged; sparse = λ q. go q (ℕ_discrete q (x / 4 ^ l)) }
  where
    go : (q : ℕ) → Dec (q ≡ x / 4 ^ l) → count_in l q es < k
    go q (yes e) = subst (λ (p : ℕ). count_in l p es < k) (sym e) n
    go q (no ne) = h.others l q (omega arith) ne

pub record Formed {A : Type 0} (k l c x j : ℕ) (es : ForestOf A) : Type 0 where
  pub before : ForestOf A
  pub run : ForestOf A
  pub after : ForestOf A
  pub eq : es ≡ before ⧺ (run ⧺ after)
  pub count : size run ≡ count_around j x es
  pub inner : LocallyRight k j (block_code j x) run
  pub least : k ≤ size run
  pub most : size run ≤ 4 * (k - 1)
  pub right : (label : A) → LocallyRight k (suc l) c (before ⧺ block_at label j (block_code j x) run after)
  pub same : (label : A) → pixels (before ⧺ block_at label j (block_code j x) run after) ≡ pixels es

room_for : {A : Type 0} (k j d : ℕ) (f : ForestOf A) → 2 ≤ k → Aligned j d → LocallyRight k j d f → k ≤ size f → (1 ≤ j) × (size f ≤ 4 * (k - 1))
room_for k zero d f h a r n = absurd (omega (arith, size_in_range k 0 d (d + 4 ^ 0) f r.arranged))
room_for k (suc j) d f h a r n =
    let g = local_is_gather k (suc j) d (unlabelled f) a (local_unlabelled r) in
    (omega arith, subst (λ (n : ℕ). n ≤ 4 * (k - 1)) (ap size (sym g) ∙ size_unlabelled f) (size_gather (member (pixels (unlabelled f))) k j d h))

pub formed : {A : Type 0} (k l c x j : ℕ) (es : ForestOf A) → 2 ≤ k → Disturbed k l c x es → j ≤ l → k ≤ count_around j x es → ((i : ℕ) → i < j → count_around i x es < k) → Formed k l c x j es
formed {A} k l c x j es h2 o jl many least =
    let r : Run k (suc l) j (x / 4 ^ j) c (c + 4 ^ suc l) es = find_run k (suc l) j (x / 4 ^ j) (c + 4 ^ suc l) in_c.1 c es in_c.0 (omega arith) o.arranged in
    glue r.before r.run r.after r.eq r.low r.mid r.high
  where
    in_c : (c ≤ block_code j x) × (block_code j x + 4 ^ j ≤ c + 4 ^ suc l)
    in_c = block_inside j (suc l) x c (omega arith) o.aligned o.above o.below

    in_l : (block_code l x ≤ block_code j x) × (block_code j x + 4 ^ j ≤ block_code l x + 4 ^ l)
    in_l = block_inside j l x (block_code l x) jl (block_code_aligned l x) (block_code_le l x) (block_code_lt l x)

    glue : (a f b : ForestOf A) → es ≡ a ⧺ (f ⧺ b) → Arranged k (suc l) c (block_code j x) a → Arranged k j (block_code j x) (block_code j x + 4 ^ j) f → Arranged k (suc l) (block_code j x + 4 ^ j) (c + 4 ^ suc l) b
        → Formed k l c x j es
    glue a f b e u v w =
        record {
          before = a;
          run = f;
          after = b;
          eq = e;
          count = n;
          inner = inn;
          least = omega (arith, n);
          most = rm.1;
          right = λ label. record {
            arranged = arranged_join k (suc l) c (block_code j x) (c + 4 ^ suc l) a (block_at label j (block_code j x) f b) u
                (omega arith, omega arith, rm.0, omega (arith, n), block_code_aligned j x, inn.sparse, v, w);
            sparse = λ q. fewer label q (ℕ_discrete q (x / 4 ^ l));
          };
          same = λ label. pixels_join a (block_at label j (block_code j x) f b) ∙ sym (ap pixels e ∙ pixels_join a (f ⧺ b) ∙ ap (λ (m : List ℕ). pixels a ++ m) (pixels_join f b));
        }
      where
        split : (i q : ℕ) → count_in i q es ≡ count_in i q a + (count_in i q f + count_in i q b)
        split i q = ap (count_in i q) e ∙ count_in_join i q a (f ⧺ b) ∙ ap (λ (m : ℕ). count_in i q a + m) (count_in_join i q f b)

        n : size f ≡ count_around j x es
        n = omega (
          arith,
          split j (x / 4 ^ j),
          count_in_before k (suc l) j (x / 4 ^ j) c (block_code j x) a u (omega arith),
          count_in_all k j j (x / 4 ^ j) (block_code j x) (block_code j x + 4 ^ j) f v (omega arith) (omega arith),
          count_in_after k (suc l) j (x / 4 ^ j) (block_code j x + 4 ^ j) (c + 4 ^ suc l) b w (omega arith),
        )

        -- in each quarter of the new block
        quarters : (i : ℕ) → i ≤ l → count_around i x es < k → Sparse k i f
        quarters i il s q = go (ℕ_discrete q (x / 4 ^ i))
          where
            go : Dec (q ≡ x / 4 ^ i) → count_in i q f < k
            go (yes p) = omega (arith, split i q, ap (λ (m : ℕ). count_in i m es) p)
            go (no p) = omega (arith, split i q, o.others i q il p)

        below_j : (i : ℕ) → i ≡ j → Sparse k (quarter_level i) f
        below_j zero p = sparse_of_small k 0 f (omega (arith, ap (λ (m : ℕ). 4 ^ m) p, size_in_range k j (block_code j x) (block_code j x + 4 ^ j) f v))
        below_j (suc i) p = quarters i (omega arith) (least i (omega arith))

        inn : LocallyRight k j (block_code j x) f
        inn = record { arranged = v; sparse = below_j j refl }

        rm : (1 ≤ j) × (size f ≤ 4 * (k - 1))
        rm = room_for k j (block_code j x) f h2 (block_code_aligned j x) inn (omega (arith, n))

        whole : (label : A) (q : ℕ) → count_in l q (a ⧺ block_at label j (block_code j x) f b) ≡ count_in l q a + (indicator (eqb (block_code j x / 4 ^ l) q) + count_in l q b)
        whole label q = count_in_join l q a (block_at label j (block_code j x) f b)

        fewer : (label : A) (q : ℕ) → Dec (q ≡ x / 4 ^ l) → count_in l q (a ⧺ block_at label j (block_code j x) f b) < k
        fewer label q (yes p) =
            omega (
              arith,
              n,
              whole label q,
              split l q,
              o.most,
              ap (λ (m : ℕ). count_in l m es) p,
              ap (λ (m : ℕ). count_in l m f) p,
              ap indicator (eq-eqb (block_code j x / 4 ^ l) q (block_of_block_code j l x jl ∙ sym p)),
              count_in_all k j l (x / 4 ^ l) (block_code j x) (block_code j x + 4 ^ j) f v in_l.0 in_l.1,
            )
        fewer label q (no p) =
            omega (arith, whole label q, split l q, o.others l q (omega arith) p, ap indicator (ne_eqb (block_code j x / 4 ^ l) q (λ s. p (sym s ∙ block_of_block_code j l x jl))))

-- the least level up to l at which the block around x holds k elements
pub least : {A : Type 0} (k l x : ℕ) (es : ForestOf A) → k ≤ count_around l x es → (j : ℕ) × (j ≤ l) × (k ≤ count_around j x es) × ((i : ℕ) → i < j → count_around i x es < k)
least k l x es h = go (search_up l)
  where
    search_up : (n : ℕ) → ((i : ℕ) → i < n → count_around i x es < k) ⊎ ((j : ℕ) × (j < n) × (k ≤ count_around j x es) × ((i : ℕ) → i < j → count_around i x es < k))
    search_up zero = inl (λ i p. absurd (omega arith))
    search_up (suc n) = up (search_up n) (dec_lt (count_around n x es) k)
      where
        up : ((i : ℕ) → i < n → count_around i x es < k) ⊎ ((j : ℕ) × (j < n) × (k ≤ count_around j x es) × ((i : ℕ) → i < j → count_around i x es < k)) → Dec (count_around n x es < k)
            → ((i : ℕ) → i < suc n → count_around i x es < k) ⊎ ((j : ℕ) × (j < suc n) × (k ≤ count_around j x es) × ((i : ℕ) → i < j → count_around i x es < k))
        up (inr r) b = inr (r.0, omega arith, r.2, r.3)
        up (inl r) (no b) = inr (n, omega arith, omega arith, r)
        up (inl r) (yes b) = inl (λ i p. last i (eq-or-lt_of_le p))
          where
            last : (i : ℕ) → (suc i ≡ suc n) ⊎ (suc i < suc n) → count_around i x es < k
            last i (inl e) = let e' : i ≡ n = omega arith in subst (λ (m : ℕ). count_around m x es < k) (sym e') b
            last i (inr p) = r i (omega arith)

    go : ((i : ℕ) → i < l → count_around i x es < k) ⊎ ((j : ℕ) × (j < l) × (k ≤ count_around j x es) × ((i : ℕ) → i < j → count_around i x es < k))
        → (j : ℕ) × (j ≤ l) × (k ≤ count_around j x es) × ((i : ℕ) → i < j → count_around i x es < k)
    go (inl r) = (l, omega arith, h, r)
    go (inr r) = (r.0, omega arith, r.2, r.3)

-- the elements are right, or one block is formed
pub regroup : {A : Type 0} (k l c x : ℕ) (es : ForestOf A) → 2 ≤ k → Disturbed k l c x es → LocallyRight k (suc l) c es ⊎ ((j : ℕ) × (j ≤ l) × Formed k l c x j es)
regroup k l c x es h2 o = go (dec_lt (count_around l x es) k)
  where
    go : Dec (count_around l x es < k) → LocallyRight k (suc l) c es ⊎ ((j : ℕ) × (j ≤ l) × Formed k l c x j es)
    go (yes p) = inl (nothing_to_form k l c x es o p)
    go (no p) = let r = least k l x es (omega arith) in inr (r.0, r.1, formed k l c x r.0 es h2 o r.1 r.2 r.3)
