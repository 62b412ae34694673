-- What a slot says: the words of placed elements, what was written anew, or what a splice left.
use Prim.Native.Nat.{ℕ, ◌+◌, ◌-◌, ◌*◌, ◌≤◌, ◌<◌}
use native.Mathlib.Omega.{arith}
use mathlib.Core.Path.{◌≡◌, refl, ap, sym, ◌∙◌}
use mathlib.Core.List.{List, [], ◌∷◌, ◌++◌, append_assoc}
use lib.ListN.{length, get_or, take, drop, set, length-drop, get_or-append}
use lib.Seq.{paste, length-paste, take_at, drop_at, length-take-le, get_or-take, get_or-set_same, get_or-set_other, drop-set-lt}
use Rattle.pktree.specs.Elements.{size}
use Rattle.measures.specs.Slot.{level_word, code_word, count_word, number_word, element_index, level_index, code_index, count_index, number_index, slot_head}
use Rattle.elements.specs.Splice.{elements_in, CanSplice, Spliced, with_header}
use Rattle.store.specs.Placed.{Placed}
use Rattle.store.proofs.Standing.{element_words, SlotSays}
use Rattle.store.proofs.PlacedJoin.{length_element_words}
use Rattle.rewrite.specs.Rewrite.{SlotNow}

-- the words of a header are those written
header_says : (part : List ℕ) (level code count number : ℕ) → slot_head ≤ length part
    → (level_word (with_header part level code count number) ≡ level) × (code_word (with_header part level code count number) ≡ code)
    × (count_word (with_header part level code count number) ≡ count) × (number_word (with_header part level code count number) ≡ number)
header_says (a ∷ b ∷ c ∷ d ∷ e ∷ part) level code count number h = (refl, refl, refl, refl)
header_says [] level code count number h = absurd (omega arith)
header_says (a ∷ []) level code count number h = absurd (omega arith)
header_says (a ∷ b ∷ []) level code count number h = absurd (omega arith)
header_says (a ∷ b ∷ c ∷ []) level code count number h = absurd (omega arith)
header_says (a ∷ b ∷ c ∷ d ∷ []) level code count number h = absurd (omega arith)

-- a slot that says placed elements says their words
pub says_now : {part : List ℕ} {level code : ℕ} {es : Placed} → SlotSays part level code es → SlotNow part level code (element_words es)
says_now {es = es} s = record {
  level_is = s.level_is;
  code_is = s.code_is;
  count_is = rw (s.count_is, length_element_words es);
  elements_are = rw s.count_is s.elements_are;
}

-- and one that says these words says the elements
pub now_says : {part : List ℕ} {level code : ℕ} {es : Placed} → SlotNow part level code (element_words es) → SlotSays part level code es
now_says {part} {es = es} s =
    let count : count_word part ≡ size es = omega (arith, s.count_is, length_element_words es) in
    record { level_is = s.level_is; code_is = s.code_is; count_is = count; elements_are = rw (← count) s.elements_are }

-- the elements that a slot has room for are all there
pub elements_long : (part : List ℕ) → element_index (count_word part) ≤ length part → length (elements_in part) ≡ 2 * count_word part
elements_long part laid = length-take-le _ _ (omega (arith, length-drop slot_head part))

-- elements copied to their place leave the header
pub header_kept : (part source : List ℕ) (n : ℕ) → slot_head ≤ length part → count_word (paste part slot_head source n) ≡ count_word part
header_kept part source n long =
    let front : length (take slot_head part) ≡ slot_head = length-take-le slot_head part long in
    rw (append_assoc (take slot_head part) (take n source) (drop (slot_head + n) part), get_or-append (take slot_head part) (take n source ++ drop (slot_head + n) part) 0 count_index (omega arith)) (get_or-take slot_head part count_index 0 (omega arith))

-- a header leaves the elements
elements_kept : (part : List ℕ) (level code count number : ℕ) → drop slot_head (with_header part level code count number) ≡ drop slot_head part
elements_kept part level code count number =
    drop-set-lt slot_head (set (set (set part level_index level) code_index code) count_index count) number_index number (omega arith)
    ∙ drop-set-lt slot_head (set (set part level_index level) code_index code) count_index count (omega arith) ∙ drop-set-lt slot_head (set part level_index level) code_index code (omega arith) ∙ drop-set-lt slot_head part level_index level (omega arith)

-- elements copied to their place, and the four words of the header set
pub slot_wrote : (part source : List ℕ) (level code count number : ℕ) → element_index count ≤ length part → 2 * count ≤ length source
    → SlotNow (with_header (paste part slot_head source (2 * count)) level code count number) level code (take (2 * count) source)
    × (number_word (with_header (paste part slot_head source (2 * count)) level code count number) ≡ number)
slot_wrote part source level code count number room there =
    let n : ℕ = 2 * count in
    let laid : List ℕ = paste part slot_head source n in
    let front : length (take slot_head part) ≡ slot_head = length-take-le slot_head part (omega arith) in
    let source_long : length (take n source) ≡ n = length-take-le n source there in
    let behind : drop slot_head laid ≡ take n source ++ drop (slot_head + n) part =
    ap (drop slot_head) (append_assoc (take slot_head part) (take n source) (drop (slot_head + n) part)) ∙ drop_at (take slot_head part) _ slot_head front in
    let says = header_says laid level code count number (omega (arith, length-paste part slot_head source n room there)) in (
      record {
        level_is = says.0;
        code_is = says.1;
        count_is = rw (says.2, source_long);
        elements_are = rw (says.2, elements_kept laid level code count number, behind, take_at (take n source) _ n source_long);
      },
      says.3,
    )

-- a spliced slot keeps its level and its code, and says the elements that the splice gives
pub spliced_now : {part source : List ℕ} {place removed inserted : ℕ} {after : List ℕ} → CanSplice part source place removed inserted
    → Spliced part source place removed inserted after
    → SlotNow after (level_word part) (code_word part)
    (take (2 * place) (elements_in part) ++ (take (2 * inserted) source ++ drop (2 * (place + removed)) (elements_in part)))
spliced_now {part} {removed = removed} {inserted = inserted} {after = after} can s =
    let n : ℕ = count_word part - removed + inserted in
    let front : length (take slot_head part) ≡ slot_head = length-take-le slot_head part (omega (arith, can.laid)) in
    let word : (i : ℕ) → i < slot_head → get_or after i 0 ≡ get_or (set (take slot_head part) count_index n) i 0 =
    λ i b. sym (get_or-take slot_head after i 0 b) ∙ ap (λ (l : List ℕ). get_or l i 0) s.header in
    let kept : (i : ℕ) → i < 2 → get_or after i 0 ≡ get_or part i 0 =
    λ i b. word i (omega arith) ∙ get_or-set_other (take slot_head part) count_index i n 0 (λ z. omega arith) ∙ get_or-take slot_head part i 0 (omega arith) in
    let count : count_word after ≡ n = word count_index (omega arith) ∙ get_or-set_same (take slot_head part) count_index n 0 (omega arith) in
    record {
      level_is = kept 0 (omega arith);
      code_is = kept 1 (omega arith);
      count_is = sym (elements_long after (omega (arith, can.room, s.long))) ∙ ap length s.elements;
      elements_are = s.elements;
    }

-- and its number
pub spliced_number : {part source : List ℕ} {place removed inserted : ℕ} {after : List ℕ} → Spliced part source place removed inserted after → number_word after ≡ number_word part
spliced_number {part} {removed = removed} {inserted = inserted} {after = after} s =
    sym (get_or-take slot_head after number_index 0 (omega arith)) ∙ ap number_word s.header
    ∙ get_or-set_other (take slot_head part) count_index number_index (count_word part - removed + inserted) 0 (λ z. omega arith) ∙ get_or-take slot_head part number_index 0 (omega arith)
