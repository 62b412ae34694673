-- The blocks around the one that is changed stand in their slots, and with it the whole tree does.
use Prim.Native.Nat.{ℕ, ◌*◌}
use mathlib.Core.Path.{◌≡◌, ap, subst, sym, ◌∙◌}
use mathlib.Core.List.{List, [], ◌∷◌, ◌++◌}
use lib.ListN.{take}
use Rattle.pktree.specs.Lists.{Every}
use Rattle.pktree.specs.Elements.{size, ◌⧺◌, block_at, empty}
use Rattle.pktree.proofs.Forests.{size_join}
use Rattle.measures.specs.Slot.{slot_part, element_part}
use Rattle.store.specs.Placed.{Placed, slots_of}
use Rattle.store.proofs.Standing.{element_words, SlotSays, Stands, frame, every_left, every_right}
use Rattle.store.proofs.PlacedJoin.{words_join, stands_join}
use Rattle.descent.specs.Way.{Frame}
use Rattle.ascent.proofs.Frames.{FramesRight, way_slots, FramesStand, RootStands, root_elements}

-- a slot that names a block says nothing of what is in it
pub says_any : (part : List ℕ) (level code s i d : ℕ) (a x y b : Placed) → SlotSays part level code (a ⧺ block_at s i d x b) → SlotSays part level code (a ⧺ block_at s i d y b)
says_any part level code s i d a x y b h =
    let n : size (a ⧺ block_at s i d x b) ≡ size (a ⧺ block_at s i d y b) =
    size_join a (block_at s i d x b) ∙ sym (size_join a (block_at s i d y b)) in
    let w : element_words (a ⧺ block_at s i d x b) ≡ element_words (a ⧺ block_at s i d y b) =
    words_join a (block_at s i d x b) ∙ sym (words_join a (block_at s i d y b)) in
    record {
      level_is = h.level_is;
      code_is = h.code_is;
      count_is = h.count_is ∙ n;
      elements_are = ap (λ (m : ℕ). take (2 * m) (element_part part)) (sym n) ∙ h.elements_are ∙ w;
    }

-- words that agree on the slots of the way
pub frames_kept : (width : ℕ) (words words' : List ℕ) (way : List Frame) (s i d : ℕ)
    → Every (λ t. slot_part width words t ≡ slot_part width words' t) (way_slots way) → FramesStand width words way s i d → FramesStand width words' way s i d
frames_kept width words words' [] s i d e h = h
frames_kept width words words' (f ∷ way) s i d e h =
    let r = e.1 in
    let rest = every_right _ (slots_of f.before) (slots_of f.after ++ way_slots way) r in (
      h.0,
      subst (λ (p : List ℕ). SlotSays p f.level f.code (f.before ⧺ block_at s i d empty f.after)) e.0 h.1,
      frame width words words' f.before (every_left _ (slots_of f.before) (slots_of f.after ++ way_slots way) r) h.2,
      frame width words words' f.after (every_left _ (slots_of f.after) (way_slots way) rest) h.3,
      frames_kept width words words' way f.slot f.level f.code (every_right _ (slots_of f.after) (way_slots way) rest) h.4,
    )

pub root_stands : (k m width : ℕ) (words : List ℕ) (way : List Frame) (s i d : ℕ) (es : Placed) → FramesRight k m way i d → FramesStand width words way s i d
    → SlotSays (slot_part width words s) i d es → Stands width words es → RootStands width words m (root_elements way s i d es)
root_stands k m width words [] s i d es r h says stands =
    record {
      says = subst (λ (t : ℕ). SlotSays (slot_part width words t) m 0 es) h
          (subst (λ (c : ℕ). SlotSays (slot_part width words s) m c es) r.1 (subst (λ (l : ℕ). SlotSays (slot_part width words s) l d es) r.0 says));
      stands = stands;
    }
root_stands k m width words (f ∷ way) s i d es r h says stands =
    root_stands k m width words way f.slot f.level f.code (f.before ⧺ block_at s i d es f.after) r.1 h.4
    (says_any (slot_part width words f.slot) f.level f.code s i d f.before empty es f.after h.1)
    (stands_join width words f.before (block_at s i d es f.after) h.2 (h.0, says, stands, h.3))
