-- The words of a slot are read in one way: elements that stand and have the same words are the same.
use Prim.Native.Nat.{ℕ, ◌+◌, ◌-◌, ◌*◌, ◌≤◌, max}
use native.Mathlib.Omega.{arith}
use mathlib.Core.Path.{◌≡◌, refl, ap, subst, sym, ◌∙◌}
use mathlib.Core.List.{List, ◌++◌}
use lib.ListN.{take, drop}
use lib.Seq.{take-add}
use Rattle.elements.specs.Element.{tag_slots}
use Rattle.pktree.specs.Elements.{size, ◌⧺◌, block_at, empty, pixel}
use Rattle.measures.specs.Slot.{slot_part, element_part}
use Rattle.store.specs.Placed.{Placed}
use Rattle.store.proofs.Standing.{element_words, SlotSays, Stands, depth, complete_slot}
use Rattle.pktree.proofs.Absurd.{zero_is_not_one}

-- a slot has one list of elements
pub one_reading : (width : ℕ) (words : List ℕ) (s i c j d : ℕ) (es fs : Placed) → SlotSays (slot_part width words s) i c es → Stands width words es
    → SlotSays (slot_part width words s) j d fs → Stands width words fs → es ≡ fs
one_reading width words s i c j d es fs h g h' g' =
    let n : ℕ = max (depth es) (depth fs) in
    let p = complete_slot width words n s i c es h g (omega arith) in
    let q = complete_slot width words n s j d fs h' g' (omega arith) in
    cc

-- the first elements, and those that follow
pub record Begins (past es : Placed) : Type 0 where
  pub left : Placed
  pub is : es ≡ past ⧺ left

begins_pixel : {c d : ℕ} {past es : Placed} → d ≡ c → Begins past es → Begins (pixel c past) (pixel d es)
begins_pixel {c} e r = record { left = r.left; is = rw e (ap (pixel c) r.is) }

begins_block : {s i c t j d : ℕ} {fs gs past es : Placed} → t ≡ s → j ≡ i → d ≡ c → gs ≡ fs → Begins past es → Begins (block_at s i c fs past) (block_at t j d gs es)
begins_block {s} {i} {c} {fs = fs} slot level code inner r = record { left = r.left; is = rw (slot, level, code, inner) (ap (block_at s i c fs) r.is) }

same_start : (width : ℕ) (words : List ℕ) (past es : Placed) (rest : List ℕ) → Stands width words past → Stands width words es
    → element_words es ≡ element_words past ++ rest → Begins past es
same_start width words empty es rest g h e = record { left = es; is = refl }
same_start width words (pixel c past) empty rest g h e = zero_is_not_one (cc)
same_start width words (pixel c past) (pixel d es) rest g h e = begins_pixel (cc) (same_start width words past es rest g h (cc))
same_start width words (pixel c past) (block_at s i d fs es) rest g h e = zero_is_not_one (cc)
same_start width words (block_at s i c fs past) empty rest g h e = zero_is_not_one (cc)
same_start width words (block_at s i c fs past) (pixel d es) rest g h e = zero_is_not_one (cc)
same_start width words (block_at s i c fs past) (block_at t j d gs es) rest g h e =
    let tag : t + j * tag_slots ≡ s + i * tag_slots = cc in
    let slot : t ≡ s = omega (arith, g.0, h.0) in
    let level : j ≡ i = omega (arith, g.0, h.0) in
    let says : SlotSays (slot_part width words s) j d gs = subst (λ (n : ℕ). SlotSays (slot_part width words n) j d gs) slot h.1 in
    begins_block slot level (cc) (one_reading width words s j d i c gs fs says h.2 g.1 g.2) (same_start width words past es rest g.3 h.3 (cc))

-- what was read of a slot begins whatever stands in it
pub begins : (width : ℕ) (words : List ℕ) (slot level code : ℕ) (past es : Placed) → SlotSays (slot_part width words slot) level code es → Stands width words es
    → Stands width words past → take (2 * size past) (element_part (slot_part width words slot)) ≡ element_words past
    → size past ≤ size es → Begins past es
begins width words slot level code past es says stands right names short =
    let part : List ℕ = element_part (slot_part width words slot) in
    let n : ℕ = 2 * size past in
    let m : ℕ = 2 * size es - n in
    let e : 2 * size es ≡ n + m = omega arith in
    let w : element_words es ≡ element_words past ++ take m (drop n part) =
    sym says.elements_are ∙ ap (λ (l : ℕ). take l part) e ∙ take-add n m part ∙ ap (λ (l : List ℕ). l ++ take m (drop n part)) names in
    same_start width words past es (take m (drop n part)) right stands w
