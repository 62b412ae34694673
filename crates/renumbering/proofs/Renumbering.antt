-- One slot more of the path is renumbered.
use Prim.Native.Nat.{ℕ, ◌+◌, ◌*◌, ◌<◌}
use native.Mathlib.Omega.{arith}
use native.Mathlib.Decide.{ℕ_discrete}
use mathlib.Core.Path.{◌≡◌, refl, ap, subst, sym, ◌∙◌}
use mathlib.Core.List.{List, [], ◌∷◌}
use lib.ListN.{get_or, set}
use lib.Seq.{get_or-set_same, get_or-set_other, drop-set-lt}
use Rattle.measures.specs.declared.sizes.Layout.{Layout}
use Rattle.measures.specs.Layout.{LayoutFits}
use Rattle.measures.specs.Words.{head_words}
use Rattle.measures.specs.Slot.{slot_part, number_word, level_index, code_index, count_index, next_index, number_index, slot_head}
use Rattle.measures.proofs.Usable.{slot_long}
use Rattle.measures.proofs.SlotWrites.{take_less, slot_word, slot_word_set}
use Rattle.step.specs.Step.{Kept}
use Rattle.freeslots.specs.FreeSlots.{occurrences}
use Rattle.freeslots.proofs.FreeChains.{occurrences_same, occurrences_other}
use Rattle.renumbering.specs.Renumber.{ChangedNumber, Renumbered, SameBlock, PathRenumbered}

same_block_set : (part : List ℕ) (number : ℕ) → SameBlock part (set part number_index number)
same_block_set part number =
    record {
      level_is = get_or-set_other part number_index level_index number 0 (λ z. omega arith);
      code_is = get_or-set_other part number_index code_index number 0 (λ z. omega arith);
      count_is = get_or-set_other part number_index count_index number 0 (λ z. omega arith);
      next_is = get_or-set_other part number_index next_index number 0 (λ z. omega arith);
      elements_are = drop-set-lt slot_head part number_index number (omega arith);
    }

same_block_refl : (part : List ℕ) → SameBlock part part
same_block_refl part = record { level_is = refl; code_is = refl; count_is = refl; next_is = refl; elements_are = refl }

same_block_then : {p q r : List ℕ} → SameBlock p q → SameBlock q r → SameBlock p r
same_block_then a b = record {
  level_is = b.level_is ∙ a.level_is;
  code_is = b.code_is ∙ a.code_is;
  count_is = b.count_is ∙ a.count_is;
  next_is = b.next_is ∙ a.next_is;
  elements_are = b.elements_are ∙ a.elements_are;
}

pub none_renumbered : (layout : Layout) (removed inserted : ℕ) (words : List ℕ) → PathRenumbered layout [] removed inserted words words
none_renumbered layout removed inserted words =
    record {
      long = refl;
      head = refl;
      past = refl;
      same = λ t. same_block_refl (slot_part layout.width words t);
      off_path = λ t e. refl;
      on_path = λ t e. absurd (omega arith);
    }

pub one_renumbered : (layout : Layout) (path : List ℕ) (slot removed inserted : ℕ) (before mid after : List ℕ) → LayoutFits layout mid → slot < layout.slots
    → PathRenumbered layout path removed inserted before mid → Renumbered layout.width slot removed inserted mid after
    → PathRenumbered layout (slot ∷ path) removed inserted before after
one_renumbered layout path slot removed inserted before mid after fits below h r =
    record {
      long = r.written.only.long ∙ h.long;
      head = r.written.only.head ∙ h.head;
      past = r.written.only.past layout.slots below ∙ h.past;
      same = λ t. same_block_then (h.same t) (one t (ℕ_discrete t slot));
      off_path = λ t e. off t (ℕ_discrete t slot) e;
      on_path = λ t e. on t (ℕ_discrete t slot) e;
    }
  where
    one : (t : ℕ) → Dec (t ≡ slot) → SameBlock (slot_part layout.width mid t) (slot_part layout.width after t)
    one t (yes e) = rw (e, r.written.self) (same_block_set (slot_part layout.width mid slot) r.number)
    one t (no ne) = rw (r.written.only.others t ne) (same_block_refl (slot_part layout.width mid t))

    off : (t : ℕ) → Dec (t ≡ slot) → occurrences t (slot ∷ path) ≡ 0 → slot_part layout.width after t ≡ slot_part layout.width before t
    off t (yes e) z = absurd (omega (arith, subst (λ (u : ℕ). occurrences t (u ∷ path) ≡ 0) (sym e) z, occurrences_same t path))
    off t (no ne) z = r.written.only.others t ne ∙ h.off_path t (sym (occurrences_other t slot path (λ q. ne (sym q))) ∙ z)

    written : number_word (slot_part layout.width after slot) ≡ r.number
    written = ap number_word r.written.self
        ∙ get_or-set_same (slot_part layout.width mid slot) number_index r.number 0 (omega (arith, slot_long layout mid slot fits below, fits.within.width_from))

    on : (t : ℕ) → Dec (t ≡ slot) → occurrences t (slot ∷ path) ≡ 1
        → ChangedNumber (number_word (slot_part layout.width before t)) removed inserted (number_word (slot_part layout.width after t))
    on t (yes e) z =
        let none : occurrences t path ≡ 0 = omega (arith, subst (λ (u : ℕ). occurrences t (u ∷ path) ≡ 1) (sym e) z, occurrences_same t path) in
        let was : slot_part layout.width mid t ≡ slot_part layout.width before t = h.off_path t none in
        let now : ChangedNumber (number_word (slot_part layout.width mid slot)) removed inserted (number_word (slot_part layout.width after slot)) =
        subst (ChangedNumber (number_word (slot_part layout.width mid slot)) removed inserted) (sym written) r.is in
        subst (λ (p : List ℕ). ChangedNumber (number_word p) removed inserted (number_word (slot_part layout.width after t))) was
        (subst (λ (u : ℕ). ChangedNumber (number_word (slot_part layout.width mid u)) removed inserted (number_word (slot_part layout.width after u))) (sym e) now)
    on t (no ne) z =
        subst (λ (p : List ℕ). ChangedNumber (number_word (slot_part layout.width before t)) removed inserted (number_word p)) (sym (r.written.only.others t ne))
        (h.on_path t (sym (occurrences_other t slot path (λ q. ne (sym q))) ∙ z))

pub slot_renumbered : {width slot : ℕ} {words : List ℕ} (at removed inserted number : ℕ) → at ≡ head_words + slot * width + number_index → number_index < width
    → ChangedNumber (get_or words at 0) removed inserted number → Renumbered width slot removed inserted words (set words at number)
slot_renumbered {width} {slot} {words} at removed inserted number e wide h =
    record {
      number = number;
      written = slot_word_set width slot words at number_index number e wide;
      is = subst (λ (n : ℕ). ChangedNumber n removed inserted number) (sym (slot_word width slot words at number_index e wide)) h;
    }

-- the slots lie where they lay, and words 0 to 5 and those past the formula are kept
pub fits_renumbered : {layout : Layout} {path : List ℕ} {removed inserted : ℕ} {before after : List ℕ} → LayoutFits layout before → PathRenumbered layout path removed inserted before after
    → LayoutFits layout after
fits_renumbered fits h = record { within = fits.within; lies = omega (arith, fits.lies, h.long) }

pub kept_renumbered : {layout : Layout} {path : List ℕ} {removed inserted : ℕ} {before after : List ℕ} → PathRenumbered layout path removed inserted before after → Kept layout before after
kept_renumbered {before = before} {after = after} h = record { long = h.long; head = take_less 6 8 before after (omega arith) h.head; past = h.past }
