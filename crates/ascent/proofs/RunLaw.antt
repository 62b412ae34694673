-- The run that is found in a slot's words is the one that the regroup law wants, so the block it becomes makes the elements right again.
use Prim.Native.Nat.{ℕ, suc, ◌+◌, ◌*◌, ◌^◌, ◌≤◌, ◌<◌}
use native.Mathlib.Omega.{arith}
use native.Mathlib.Nat.{div-eq_of_lt-le}
use native.Mathlib.Decide.{dec_lt}
use mathlib.Core.Path.{◌≡◌, ap, ap₂, subst, sym, ◌∙◌}
use mathlib.Core.List.{List, ◌++◌}
use lib.ListN.{get_or, get_or-append}
use lib.Seq.{get_or-append-add}
use Rattle.pktree.specs.Elements.{◌⧺◌, size}
use Rattle.pktree.proofs.Forests.{size_join}
use Rattle.pktree.proofs.Alignment.{block_code, block_code_le, block_code_lt}
use Rattle.pktree.proofs.Arranged.{Arranged, LocallyRight}
use Rattle.pktree.proofs.Regroup.{count_around, Disturbed, formed, nothing_to_form}
use Rattle.elements.specs.Splice.{code_at}
use Rattle.store.specs.Placed.{Placed}
use Rattle.store.proofs.Standing.{SlotSays}
use Rattle.runs.specs.Run.{Near, codes_from, count_near, IsRun}
use Rattle.runs.proofs.SlotCodes.{codes_of, length_codes, codes_join, slot_code, slot_codes, count_near_lem, code_in_range, near_at_least}
use Rattle.ascent.proofs.FormedAt.{FormedAt}
use Rattle.ascent.proofs.FramesOfSound.{around_block}

-- the elements before the block around x, in it and after it, by their codes
in_block : (j x c : ℕ) → block_code j x ≤ c → c < block_code j x + 4 ^ j → Near j x c
in_block j x c p q = div-eq_of_lt-le (4 ^ j) p (omega arith)

before_block : (j x c : ℕ) → c < block_code j x → Near j x c → ⊥
before_block j x c p e = let f : block_code j c ≡ block_code j x = ap (λ (n : ℕ). n * 4 ^ j) e in omega (arith, block_code_le j c)

after_block : (j x c : ℕ) → block_code j x + 4 ^ j ≤ c → Near j x c → ⊥
after_block j x c p e = let f : block_code j c ≡ block_code j x = ap (λ (n : ℕ). n * 4 ^ j) e in omega (arith, block_code_lt j c)

module _ (k l code x : ℕ) (part : List ℕ) (es : Placed) (h2 : 2 ≤ k) (says : SlotSays part (suc l) code es) (o : Disturbed k l code x es) where
  abbrev f : Placed
  f = es

  count_is : (h : ℕ) → count_near h x (codes_from part 0 (size f)) ≡ count_around h x f
  count_is h = ap (count_near h x) (slot_codes part (suc l) code es says) ∙ count_near_lem h x f

  -- no run: the elements are right
  pub no_run : ((h : ℕ) → h < suc l → count_near h x (codes_from part 0 (size f)) < k) → LocallyRight k (suc l) code f
  no_run few = nothing_to_form k l code x f o (omega (arith, few l (omega arith), count_is l))

  module _ (j first n : ℕ) (jl : j < suc l) (within : first + n ≤ size f) (many : k ≤ n) (run : IsRun part (size f) k x j first n) where
    least_below : (i : ℕ) → i < j → count_around i x f < k
    least_below i h = omega (arith, run.least i h, count_is i)

    -- the same of the codes of the elements
    at : (i : ℕ) → i < size f → code_at part i ≡ get_or (codes_of f) i 0
    at i h = slot_code part (suc l) code es says i h

    -- the run's elements are those in the block around x, wherever it is cut out
    module _ (a r b : Placed) (e : f ≡ a ⧺ (r ⧺ b)) (low : Arranged k (suc l) code (block_code j x) a) (mid : Arranged k j (block_code j x) (block_code j x + 4 ^ j) r)
        (high : Arranged k (suc l) (block_code j x + 4 ^ j) (code + 4 ^ suc l) b) (least : k ≤ size r) where
      total : size f ≡ size a + (size r + size b)
      total = ap size e ∙ size_join a (r ⧺ b) ∙ ap (λ (n : ℕ). size a + n) (size_join r b)

      codes : codes_of f ≡ codes_of a ++ (codes_of r ++ codes_of b)
      codes = ap codes_of e ∙ codes_join a (r ⧺ b) ∙ ap (λ (m : List ℕ). codes_of a ++ m) (codes_join r b)

      in_a : (i : ℕ) → i < size a → Near j x (code_at part i) → ⊥
      in_a i h near =
          let c : code_at part i ≡ get_or (codes_of a) i 0 =
          at i (omega (arith, total)) ∙ ap (λ (m : List ℕ). get_or m i 0) codes ∙ get_or-append (codes_of a) (codes_of r ++ codes_of b) 0 i (omega (arith, length_codes a)) in
          before_block j x (code_at part i) (rw c (code_in_range k (suc l) code (block_code j x) a low i h).1) near

      in_r : (i : ℕ) → i < size r → Near j x (code_at part (size a + i))
      in_r i h =
          let c : code_at part (size a + i) ≡ get_or (codes_of r) i 0 =
          at (size a + i) (omega (arith, total)) ∙ ap₂ (λ (m : List ℕ) (n : ℕ). get_or m (n + i) 0) codes (sym (length_codes a))
          ∙ get_or-append-add (codes_of a) (codes_of r ++ codes_of b) i 0 ∙ get_or-append (codes_of r) (codes_of b) 0 i (omega (arith, length_codes r)) in
          let p = code_in_range k j (block_code j x) (block_code j x + 4 ^ j) r mid i h in
          in_block j x (code_at part (size a + i)) (rw c p.0) (rw c p.1)

      in_b : (i : ℕ) → i < size b → Near j x (code_at part (size a + (size r + i))) → ⊥
      in_b i h near =
          let c : code_at part (size a + (size r + i)) ≡ get_or (codes_of b) i 0 =
          at (size a + (size r + i)) (omega (arith, total)) ∙ ap₂ (λ (m : List ℕ) (n : ℕ). get_or m (n + (size r + i)) 0) codes (sym (length_codes a))
          ∙ get_or-append-add (codes_of a) (codes_of r ++ codes_of b) (size r + i) 0 ∙ ap (λ (n : ℕ). get_or (codes_of r ++ codes_of b) (n + i) 0) (sym (length_codes r))
          ∙ get_or-append-add (codes_of r) (codes_of b) i 0 in
          after_block j x (code_at part (size a + (size r + i))) (rw c (code_in_range k (suc l) (block_code j x + 4 ^ j) (code + 4 ^ suc l) b high i h).0) near

      first_same : size a ≡ first
      first_same = go (dec_lt (size a) first) (dec_lt first (size a))
        where
          go : Dec (size a < first) → Dec (first < size a) → size a ≡ first
          go (yes p) q = absurd (run.before (size a) p (subst (λ (n : ℕ). Near j x (code_at part n)) (omega arith) (in_r 0 (omega arith))))
          go (no p) (yes q) = absurd (in_a first q (run.inside first (omega arith) (omega arith)))
          go (no p) (no q) = omega arith

      size_same : size r ≡ n
      size_same = go (dec_lt (size r) n) (dec_lt n (size r))
        where
          go : Dec (size r < n) → Dec (n < size r) → size r ≡ n
          go (yes p) q =
              absurd (in_b 0 (omega (arith, total, first_same)) (subst (λ (i : ℕ). Near j x (code_at part i)) (let z : first + size r ≡ size a + (size r + 0) = omega (arith, first_same) in z)
              (run.inside (first + size r) (omega arith) (omega arith))))
          go (no p) (yes q) =
              absurd (run.after (first + n) (omega arith) (omega (arith, total, first_same))
              (subst (λ (i : ℕ). Near j x (code_at part i)) (let z : size a + n ≡ first + n = omega (arith, first_same) in z) (in_r n q)))
          go (no p) (no q) = omega arith

    enough : k ≤ count_around j x f
    enough =
        let near : n ≤ count_near j x (codes_of f) =
        near_at_least j x (codes_of f) first n (omega (arith, length_codes f))
        (λ i p q. subst (Near j x) (at i (omega arith)) (run.inside i p q)) in
        omega (arith, count_near_lem j x f)

    pub formed_by : FormedAt k (suc l) code x j first n es
    formed_by =
        let g = formed k l code x j f h2 o (omega arith) enough least_below in
        let parts = around_block 0 k (suc l) code (code + 4 ^ suc l) j (block_code j x) g.before g.run g.after (g.right 0).arranged in
        let size_is = size_same g.before g.run g.after g.eq parts.0 g.inner.arranged parts.1 g.least in
        record {
          before = g.before;
          run = g.run;
          after = g.after;
          is = g.eq;
          first_is = first_same g.before g.run g.after g.eq parts.0 g.inner.arranged parts.1 g.least;
          size_is = size_is;
          inner = g.inner;
          most = omega (arith, g.most, size_is);
          right = g.right;
        }
