-- The codes in a slot's words are those of its elements: they ascend, and counting them is counting the elements.
use Prim.Native.Nat.{ℕ, zero, suc, ◌+◌, ◌*◌, ◌/◌, ◌^◌, ◌≤◌, ◌<◌}
use native.Mathlib.Omega.{arith}
use mathlib.Core.Path.{◌≡◌, refl, ap, ap₂, subst, ◌∙◌}
use mathlib.Core.Bool.{Bool, true, false, cond}
use mathlib.Core.List.{List, [], ◌∷◌, ◌++◌}
use lib.Dec.{eqb}
use lib.ListN.{length, get_or}
use borrow.Author.Tests.{eq-eqb}
use Rattle.pktree.specs.Lists.{select}
use Rattle.pktree.specs.Elements.{ForestOf, empty, pixel, ◌⧺◌, size, block_at}
use Rattle.pktree.proofs.Alignment.{pow_pos}
use Rattle.pktree.proofs.Counting.{indicator, count_in}
use Rattle.pktree.proofs.Arranged.{Arranged, arranged_le}
use Rattle.elements.specs.Splice.{code_at}
use Rattle.store.specs.Placed.{Placed}
use Rattle.store.proofs.Standing.{element_words, SlotSays}
use Rattle.store.proofs.BlockView.{element_word}
use Rattle.runs.specs.Run.{Near, codes_from, count_near, AscendingCodes}

-- the codes of some elements
abbrev pub codes_of : {A : Type 0} → ForestOf A → List ℕ
codes_of empty = []
codes_of (pixel c f) = c ∷ codes_of f
codes_of (block_at v i c es f) = c ∷ codes_of f

pub length_codes : {A : Type 0} (f : ForestOf A) → length (codes_of f) ≡ size f
length_codes empty = refl
length_codes (pixel c f) = ap suc (length_codes f)
length_codes (block_at v i c es f) = ap suc (length_codes f)

pub codes_join : {A : Type 0} (f g : ForestOf A) → codes_of (f ⧺ g) ≡ codes_of f ++ codes_of g
codes_join empty g = refl
codes_join (pixel c f) g = rw (codes_join f g)
codes_join (block_at v i c es f) g = rw (codes_join f g)

-- word 2i of the elements' words is the code of element i
code_word_lem : (t : Placed) (i : ℕ) → get_or (element_words t) (2 * i) 0 ≡ get_or (codes_of t) i 0
code_word_lem empty i = refl
code_word_lem (pixel c t) zero = refl
code_word_lem (pixel c t) (suc i) = let e : 2 * suc i ≡ suc (suc (2 * i)) = omega arith in rw e (code_word_lem t i)
code_word_lem (block_at s j c es t) zero = refl
code_word_lem (block_at s j c es t) (suc i) = let e : 2 * suc i ≡ suc (suc (2 * i)) = omega arith in rw e (code_word_lem t i)

pub slot_code : (part : List ℕ) (level code : ℕ) (es : Placed) → SlotSays part level code es → (i : ℕ) → i < size es
    → code_at part i ≡ get_or (codes_of es) i 0
slot_code part level code es says i h = element_word part level code es says (2 * i) (omega arith) ∙ code_word_lem es i

-- a list by its elements, from element i on
codes_from_lem : (part : List ℕ) (l : List ℕ) (i : ℕ) → ((j : ℕ) → j < length l → code_at part (i + j) ≡ get_or l j 0) → codes_from part i (length l) ≡ l
codes_from_lem part [] i h = refl
codes_from_lem part (c ∷ l) i h =
    let z : i ≡ i + 0 = omega arith in
    let e : code_at part i ≡ c = ap (code_at part) z ∙ h 0 (omega arith) in
    let r : codes_from part (suc i) (length l) ≡ l =
    codes_from_lem part l (suc i) (λ j p. ap (code_at part) (let q : suc i + j ≡ i + suc j = omega arith in q) ∙ h (suc j) (omega arith)) in
    ap₂ ◌∷◌ e r

pub slot_codes : (part : List ℕ) (level code : ℕ) (es : Placed) → SlotSays part level code es → codes_from part 0 (size es) ≡ codes_of es
slot_codes part level code es says =
    subst (λ (n : ℕ). codes_from part 0 n ≡ codes_of es) (length_codes es)
    (codes_from_lem part (codes_of es) 0
    (λ j h. ap (code_at part) (let q : 0 + j ≡ j = omega arith in q) ∙ slot_code part level code es says j (omega (arith, length_codes es))))

-- one element more is counted, or not
one_more_if : (c n : ℕ) (l : List ℕ) (b : Bool) → length l ≡ n → length (cond b (c ∷ l) l) ≡ indicator b + n
one_more_if c n l true e = omega arith
one_more_if c n l false e = omega arith

-- counting codes is counting elements
pub count_near_lem : {A : Type 0} (h x : ℕ) (f : ForestOf A) → count_near h x (codes_of f) ≡ count_in h (x / 4 ^ h) f
count_near_lem h x empty = refl
count_near_lem h x (pixel c f) = one_more_if c _ _ (eqb (c / 4 ^ h) (x / 4 ^ h)) (count_near_lem h x f)
count_near_lem h x (block_at v i c es f) = one_more_if c _ _ (eqb (c / 4 ^ h) (x / 4 ^ h)) (count_near_lem h x f)

-- the code of each element of an arranged forest is in its range
pub code_in_range : {A : Type 0} (k n from to : ℕ) (f : ForestOf A) → Arranged k n from to f → (i : ℕ) → i < size f → (from ≤ get_or (codes_of f) i 0) × (get_or (codes_of f) i 0 < to)
code_in_range k n from to empty a i h = absurd (omega arith)
code_in_range k n from to (pixel c f) a zero h = (a.0, arranged_le k n (suc c) to f a.1)
code_in_range k n from to (pixel c f) a (suc i) h = let r = code_in_range k n (suc c) to f a.1 i (omega arith) in (omega arith, r.1)
code_in_range k n from to (block_at v j c es f) a zero h = (a.0, omega (arith, pow_pos j, arranged_le k n (c + 4 ^ j) to f a.7))
code_in_range k n from to (block_at v j c es f) a (suc i) h = let r = code_in_range k n (c + 4 ^ j) to f a.7 i (omega arith) in (omega arith, r.1)

-- the codes of arranged elements ascend
pub codes_ascend : {A : Type 0} (k n from to : ℕ) (f : ForestOf A) → Arranged k n from to f → (i j : ℕ) → i < j → j < size f → get_or (codes_of f) i 0 < get_or (codes_of f) j 0
codes_ascend k n from to empty a i j p q = absurd (omega arith)
codes_ascend k n from to (pixel c f) a i zero p q = absurd (omega arith)
codes_ascend k n from to (pixel c f) a zero (suc j) p q = (code_in_range k n (suc c) to f a.1 j (omega arith)).0
codes_ascend k n from to (pixel c f) a (suc i) (suc j) p q = codes_ascend k n (suc c) to f a.1 i j (omega arith) (omega arith)
codes_ascend k n from to (block_at v l c es f) a i zero p q = absurd (omega arith)
codes_ascend k n from to (block_at v l c es f) a zero (suc j) p q = omega (arith, pow_pos l, (code_in_range k n (c + 4 ^ l) to f a.7 j (omega arith)).0)
codes_ascend k n from to (block_at v l c es f) a (suc i) (suc j) p q = codes_ascend k n (c + 4 ^ l) to f a.7 i j (omega arith) (omega arith)

pub slot_ascends : (part : List ℕ) (level code : ℕ) (es : Placed) (k n from to : ℕ) → SlotSays part level code es → Arranged k n from to es
    → AscendingCodes part (size es)
slot_ascends part level code es k n from to says a i j p q =
    rw (slot_code part level code es says i (omega arith), slot_code part level code es says j q) (codes_ascend k n from to es a i j p q)

-- an interval of codes in the block is counted
pub near_at_least : (j x : ℕ) (l : List ℕ) (first n : ℕ) → first + n ≤ length l → ((i : ℕ) → first ≤ i → i < first + n → Near j x (get_or l i 0)) → n ≤ count_near j x l
near_at_least j x [] first n h near = omega arith
near_at_least j x (c ∷ l) (suc first) n h near = go (eqb (c / 4 ^ j) (x / 4 ^ j)) (near_at_least j x l first n (omega arith) (λ i p q. near (suc i) (omega arith) (omega arith)))
  where
    go : (b : Bool) → n ≤ count_near j x l → n ≤ length (cond b (c ∷ select (λ e. eqb (e / 4 ^ j) (x / 4 ^ j)) l) (select (λ e. eqb (e / 4 ^ j) (x / 4 ^ j)) l))
    go true p = omega arith
    go false p = p
near_at_least j x (c ∷ l) zero zero h near = omega arith
near_at_least j x (c ∷ l) zero (suc n) h near =
    rw (eq-eqb (c / 4 ^ j) (x / 4 ^ j) (near 0 (omega arith) (omega arith))) (omega (arith, near_at_least j x l 0 n (omega arith) (λ i p q. near (suc i) (omega arith) (omega arith))))
