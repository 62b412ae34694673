-- What elements stand for: where their blocks say how many pixels they have, their pixels.
use Prim.Native.Nat.{ℕ, zero, suc, ◌+◌, ◌-◌, ◌*◌, ◌%◌, ◌≤◌, ◌<◌}
use native.Mathlib.Omega.{arith}
use mathlib.Core.Path.{◌≡◌, refl, ap, ap₂, sym, ◌∙◌}
use mathlib.Core.List.{List, [], ◌∷◌}
use lib.ListN.{length, get_or, take, drop, length-append}
use borrow.Author.Tests.{le-leb, lt-leb, lt-ltb, le-ltb}
use Rattle.pktree.specs.Lists.{Every}
use Rattle.pktree.specs.Elements.{size, block_at, empty, pixel}
use Rattle.pktree.specs.Tree.{pixels}
use Rattle.measures.specs.declared.sizes.Layout.{Layout}
use Rattle.measures.specs.Sizes.{largest_most}
use Rattle.measures.specs.Slot.{slot_part, number_word}
use Rattle.elements.specs.Element.{tag_slot, tag_slots}
use Rattle.store.specs.Placed.{Placed, slots_of}
use Rattle.sums.specs.Sum.{number_said, number_named, number_of_elements}
use Rattle.store.proofs.Standing.{element_words, Stands, every_right}
use Rattle.store.proofs.BlockNumbers.{TreeNumbers}

-- what a slot says, by the tests
module _ (layout : Layout) (words : List ℕ) (slot : ℕ) where
  pub said_no_slot : layout.slots ≤ slot → number_said layout words slot ≡ 0
  said_no_slot h = rw (le-ltb slot layout.slots h)

  pub said_too_many : slot < layout.slots → largest_most < number_word (slot_part layout.width words slot) → number_said layout words slot ≡ 0
  said_too_many h p = rw (lt-ltb slot layout.slots h, lt-leb (number_word (slot_part layout.width words slot)) largest_most p)

  pub said : slot < layout.slots → number_word (slot_part layout.width words slot) ≤ largest_most → number_said layout words slot ≡ number_word (slot_part layout.width words slot)
  said h p = rw (lt-ltb slot layout.slots h, le-leb (number_word (slot_part layout.width words slot)) largest_most p)

-- an element whose second word is not 0 names a slot
pub named_slot : (layout : Layout) (words : List ℕ) (tag : ℕ) → 1 ≤ tag → number_named layout words tag ≡ number_said layout words ((tag - 1) % tag_slots)
named_slot layout words zero h = absurd (omega arith)
named_slot layout words (suc tag) h = let e : suc tag - 1 ≡ tag = omega arith in rw e

-- the words of element i and those after it
words_from : (elements : List ℕ) (i : ℕ) → 2 * i + 2 ≤ length elements → drop (2 * i) elements ≡ get_or elements (2 * i) 0 ∷ get_or elements (2 * i + 1) 0 ∷ drop (2 * (i + 1)) elements
words_from (a ∷ b ∷ l) zero h = refl
words_from (a ∷ b ∷ l) (suc i) h =
    let e : 2 * suc i ≡ suc (suc (2 * i)) = omega arith in
    let f : 2 * (suc i + 1) ≡ suc (suc (2 * (i + 1))) = omega arith in
    let g : 2 * suc i + 1 ≡ suc (suc (2 * i + 1)) = omega arith in
    rw (g, f, e) (words_from l i (omega arith))
words_from [] i h = absurd (omega arith)
words_from (a ∷ []) i h = absurd (omega arith)

-- before the first element, and one element more
pub number_start : (layout : Layout) (words elements : List ℕ) (count : ℕ)
    → 0 + number_of_elements layout words (count - 0) (drop (2 * 0) elements) ≡ number_of_elements layout words count elements
number_start layout words elements count = let e : count - 0 ≡ count = omega arith in rw e (omega arith)

pub number_turn : (layout : Layout) (words elements : List ℕ) (count i sum more : ℕ) → i < count → 2 * count ≤ length elements
    → more ≡ number_named layout words (get_or elements (2 * i + 1) 0)
    → sum + number_of_elements layout words (count - i) (drop (2 * i) elements) ≡ number_of_elements layout words count elements
    → (sum + more) + number_of_elements layout words (count - (i + 1)) (drop (2 * (i + 1)) elements) ≡ number_of_elements layout words count elements
number_turn layout words elements count i sum more below long m h =
    let e : count - i ≡ suc (count - (i + 1)) = omega arith in
    let g : number_of_elements layout words (count - i) (drop (2 * i) elements) ≡ more + number_of_elements layout words (count - (i + 1)) (drop (2 * (i + 1)) elements) =
    ap₂ (number_of_elements layout words) e (words_from elements i (omega arith)) ∙ ap (λ (n : ℕ). n + number_of_elements layout words (count - (i + 1)) (drop (2 * (i + 1)) elements)) (sym m) in
    omega arith

-- the words past the elements are not looked at
pub number_of_front : (layout : Layout) (words : List ℕ) (n : ℕ) (elements : List ℕ) → number_of_elements layout words n (take (2 * n) elements) ≡ number_of_elements layout words n elements
number_of_front layout words zero elements = refl
number_of_front layout words (suc n) [] = let e : 2 * suc n ≡ suc (suc (2 * n)) = omega arith in rw e
number_of_front layout words (suc n) (code ∷ []) = let e : 2 * suc n ≡ suc (suc (2 * n)) = omega arith in rw e
number_of_front layout words (suc n) (code ∷ tag ∷ elements) =
    let e : 2 * suc n ≡ suc (suc (2 * n)) = omega arith in
    rw e (ap (λ (m : ℕ). number_named layout words tag + m) (number_of_front layout words n elements))

-- what elements stand for depends on the slots only
pub number_of_kept : (layout : Layout) (words words' : List ℕ) → ((s : ℕ) → slot_part layout.width words s ≡ slot_part layout.width words' s)
    → (n : ℕ) (elements : List ℕ) → number_of_elements layout words n elements ≡ number_of_elements layout words' n elements
number_of_kept layout words words' same zero elements = refl
number_of_kept layout words words' same (suc n) [] = refl
number_of_kept layout words words' same (suc n) (code ∷ []) = refl
number_of_kept layout words words' same (suc n) (code ∷ tag ∷ elements) = ap₂ ◌+◌ (one tag) (number_of_kept layout words words' same n elements)
  where
    one : (t : ℕ) → number_named layout words t ≡ number_named layout words' t
    one zero = refl
    one (suc t) = rw (same (tag_slot t))

-- elements whose blocks say how many pixels they have stand for their pixels
pub elements_number : (layout : Layout) (words : List ℕ) (t : Placed) → Stands layout.width words t → Every (λ s. s < layout.slots) (slots_of t)
    → TreeNumbers layout.width words t → length (pixels t) ≤ largest_most → number_of_elements layout words (size t) (element_words t) ≡ length (pixels t)
elements_number layout words empty st ins h few = refl
elements_number layout words (pixel c t) st ins h few = omega (arith, elements_number layout words t st ins h (omega arith))
elements_number layout words (block_at s i c es t) st ins h few =
    let e : (s + i * tag_slots) % tag_slots ≡ s = omega (arith, st.0) in
    let l = length-append (pixels es) (pixels t) in
    let ih = elements_number layout words t st.3 (every_right _ (slots_of es) (slots_of t) ins.1) h.2 (omega arith) in
    let n : number_said layout words s ≡ length (pixels es) = said layout words s ins.0 (omega (arith, h.0)) ∙ h.0 in
    rw e (omega arith)
