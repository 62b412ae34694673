-- The words of a run of a slot's elements, and what copying it out, or what lies beside it, leaves in other words.
use Prim.Native.Nat.{ℕ, suc, ◌+◌, ◌-◌, ◌*◌, ◌≤◌, ◌<◌}
use native.Mathlib.Numerals.{add-one}
use native.Mathlib.Omega.{arith}
use mathlib.Core.Path.{◌≡◌, ap, sym, ◌∙◌}
use mathlib.Core.List.{List, [], ◌∷◌, ◌++◌, append_assoc}
use lib.ListN.{length, take, drop, set, length-drop, length-set}
use lib.Seq.{paste, length-paste, take-paste, drop-drop, take-take, take_all, take-suc-set, length-take-le}
use Rattle.measures.specs.declared.sizes.Layout.{Layout}
use Rattle.measures.specs.Layout.{LayoutFits, most_element_words}
use Rattle.measures.specs.Slot.{slot_part, count_word, element_index, slot_head}
use Rattle.elements.specs.Element.{block_tag}
use Rattle.elements.specs.Splice.{elements_in}
use Rattle.sums.specs.Sum.{number_of_elements}
use Rattle.sums.proofs.ElementNumbers.{number_of_front}
use Rattle.elements.proofs.Splices.{take_paste_front}
use Rattle.measures.proofs.SlotWrites.{SlotWritten, drop_take}
use Rattle.measures.proofs.Usable.{slot_long}
use Rattle.rewrite.specs.Rewrite.{RunWithin, RunMoved, CanCut, CanLayBeside, LaidBeside, run_words, with_block}
use Rattle.rewrite.proofs.SlotNows.{elements_long}

-- a run that lies in a slot lies in the words that code lends of it
pub run_within : {layout : Layout} {words part : List ℕ} {slot level first size : ℕ} → CanCut layout words slot level first size
    → part ≡ slot_part layout.width words slot → RunWithin part first size
run_within {layout} {words} {slot = slot} can e =
    rw e (record { laid = omega (arith, can.laid, slot_long layout words slot can.fits can.slot_below); within = can.within })

pub run_in_part : {part : List ℕ} {first size : ℕ} (slot : List ℕ) → part ≡ slot → RunWithin slot first size → RunWithin part first size
run_in_part slot e run = rw e run

-- so do all elements, as many as code reads there
pub whole_within : {layout : Layout} {words part : List ℕ} {slot count : ℕ} → CanCut layout words slot 0 0 0 → part ≡ slot_part layout.width words slot
    → count ≡ count_word part → RunWithin part 0 count
whole_within can e n = record { laid = (run_within can e).laid; within = omega (arith, n) }

-- the words of a run of elements, as they lie in the slot
run_in_slot : (part : List ℕ) (first size : ℕ) → first + size ≤ count_word part → run_words (elements_in part) first size ≡ take (2 * size) (drop (element_index first) part)
run_in_slot part first size within =
    let rest : ℕ = 2 * (count_word part - first) in
    let e : 2 * count_word part ≡ 2 * first + rest = omega arith in
    let h : 2 * size ≤ rest = omega arith in
    rw (e, drop_take (2 * first) rest (drop slot_head part), take-take (2 * size) rest _ h, drop-drop)

-- a run is as long as its elements are
pub run_long : (part : List ℕ) (first size : ℕ) → RunWithin part first size → length (run_words (elements_in part) first size) ≡ 2 * size
run_long part first size run =
    length-take-le (2 * size) (drop (2 * first) (elements_in part)) (omega (arith, run.within, length-drop (2 * first) (elements_in part), elements_long part run.laid))

-- a run has no words beside
pub run_whole : (elements : List ℕ) (first size : ℕ) → take (2 * size) (run_words elements first size) ≡ run_words elements first size
run_whole elements first size = take-take (2 * size) (2 * size) (drop (2 * first) elements) (omega arith)

-- words that were copied from where the run begins, out of the part `&part[8 + 2 * first..]`
pub run_pasted : (part target : List ℕ) (at first size : ℕ) {copied : List ℕ} → RunWithin part first size
    → copied ≡ paste target at (take (length part - (element_index first)) (drop (element_index first) part)) (2 * size)
    → copied ≡ paste target at (run_words (elements_in part) first size) (2 * size)
run_pasted part target at first size run c =
    let h : run_words (elements_in part) first size ≡ take (2 * size) (drop (element_index first) part) = run_in_slot part first size run.within in
    let there : 2 * size ≤ length part - (element_index first) = omega (arith, run.laid, run.within) in
    rw (c, h, take-take (2 * size) (length part - (element_index first)) (drop (element_index first) part) there, take-take (2 * size) (2 * size) (drop (element_index first) part) (omega arith))

-- what the words from where the run begins stand for
pub run_numbered : (layout : Layout) (words part : List ℕ) (first size : ℕ) {r : ℕ} → RunWithin part first size
    → r ≡ number_of_elements layout words size (take (length part - (element_index first)) (drop (element_index first) part))
    → r ≡ number_of_elements layout words size (run_words (elements_in part) first size)
run_numbered layout words part first size run n =
    let there : 2 * size ≤ length part - (element_index first) = omega (arith, run.laid, run.within) in
    let behind : List ℕ = drop (element_index first) part in
    rw (run_in_slot part first size run.within)
    (n ∙ sym (number_of_front layout words size (take (length part - (element_index first)) behind))
    ∙ ap (number_of_elements layout words size) (take-take (2 * size) (length part - (element_index first)) behind there))

-- a run copied to the front is found there
pub run_copied : (part target : List ℕ) (first size : ℕ) {copied : List ℕ} → RunWithin part first size → copied ≡ paste target 0 (run_words (elements_in part) first size) (2 * size)
    → take (2 * size) copied ≡ run_words (elements_in part) first size
run_copied part target first size run c =
    rw (c, take_paste_front target (run_words (elements_in part) first size) (2 * size) (omega (arith, run_long part first size run))) (run_whole (elements_in part) first size)

-- a run has room in every slot
pub run_fits : {layout : Layout} {words : List ℕ} {slot first size : ℕ} → LayoutFits layout words → slot < layout.slots
    → RunWithin (slot_part layout.width words slot) first size → element_index size ≤ layout.width
run_fits {layout} {words} {slot} fits below run = omega (arith, run.laid, run.within, slot_long layout words slot fits below)

-- and in the array by way of which it moves
pub run_small : {layout : Layout} {words : List ℕ} {slot first size : ℕ} → LayoutFits layout words → slot < layout.slots
    → RunWithin (slot_part layout.width words slot) first size → 0 + 2 * size ≤ most_element_words
run_small fits below run = omega (arith, run_fits fits below run, fits.within.width_to)

-- a run that was copied out of a slot and laid in another
pub run_moved : {width first size other : ℕ} {words : List ℕ} (slot : ℕ) (part aside copied after : List ℕ) → part ≡ slot_part width words slot
    → RunWithin (slot_part width words slot) first size → copied ≡ paste aside 0 (run_words (elements_in part) first size) (2 * size)
    → SlotWritten width other words (paste (slot_part width words other) slot_head copied (2 * size)) after
    → RunMoved width slot first size other words after
run_moved {first = first} {size = size} slot part aside copied after lent run put laid =
    let copy = rw lent at (run_copied part aside first size (rw lent run) put) in
    rw run_whole (rw copy at laid)

-- all elements are a run
pub whole_run : (part : List ℕ) → run_words (elements_in part) 0 (count_word part) ≡ elements_in part
whole_run part = take-take (2 * count_word part) (2 * count_word part) (drop slot_head part) (omega arith)

-- words, an element and more words, laid one after the other in the scratch
laid_around : (scratch front behind : List ℕ) (m n code name : ℕ) {copied after : List ℕ} → m ≤ length front → n ≤ length behind → m + 2 + n ≤ length scratch
    → copied ≡ paste scratch 0 front m → after ≡ paste (set (set copied m code) (m + 1) name) (m + 2) behind n
    → take (m + 2 + n) after ≡ take m front ++ ((code ∷ name ∷ []) ++ take n behind)
laid_around scratch front behind m n code name {copied} {after} hf hb room c a =
    let long : length copied ≡ length scratch = rw c (length-paste scratch 0 front m (omega arith) hf) in
    let two : m + 2 ≡ suc (suc m) = omega arith in
    let named : take (m + 2) (set (set copied m code) (m + 1) name) ≡ (take m front ++ (code ∷ [])) ++ (name ∷ []) =
    rw (two, add-one, take-suc-set (set copied m code) (suc m) name (simp length-set (omega arith)), take-suc-set copied m code (omega arith), c, take_paste_front scratch front m hf) in
    rw (a, take-paste (set (set copied m code) (m + 1) name) (m + 2) behind n (simp length-set (omega arith)) hb, named) (simp append_assoc)

-- the elements beside a run, with one in its place, where the code lays them in the scratch
pub beside_run : (part scratch : List ℕ) (first size left code name : ℕ) {copied after : List ℕ} → element_index (count_word part) ≤ length part
    → first + size + left ≡ count_word part → 2 * (first + 1 + left) ≤ length scratch → copied ≡ paste scratch 0 (run_words (elements_in part) 0 first) (2 * first)
    → after ≡ paste (set (set copied (2 * first) code) (2 * first + 1) name) (2 * first + 2) (run_words (elements_in part) (first + size) left) (2 * left)
    → take (2 * (first + 1 + left)) after ≡ with_block (elements_in part) first size (code ∷ name ∷ [])
beside_run part scratch first size left code name {copied} {after} laid sum room c a =
    let front : List ℕ = run_words (elements_in part) 0 first in
    let behind : List ℕ = run_words (elements_in part) (first + size) left in
    let r : 2 * (first + 1 + left) ≡ 2 * first + 2 + 2 * left = omega arith in
    let front_long : length front ≡ 2 * first = run_long part 0 first (record { laid = laid; within = omega arith }) in
    let behind_long : length behind ≡ 2 * left = run_long part (first + size) left (record { laid = laid; within = omega arith }) in
    let before : take (2 * first) front ≡ take (2 * first) (elements_in part) = take-take (2 * first) (2 * first) (elements_in part) (omega arith) in
    let after_run : take (2 * left) behind ≡ drop (2 * (first + size)) (elements_in part) =
    take-take (2 * left) (2 * left) (drop (2 * (first + size)) (elements_in part)) (omega arith)
    ∙ take_all (2 * left) (drop (2 * (first + size)) (elements_in part)) (omega (arith, length-drop (2 * (first + size)) (elements_in part), elements_long part laid)) in
    rw (r, ← before, ← after_run) (laid_around scratch front behind (2 * first) (2 * left) code name (omega arith) (omega arith) (omega arith) c a)

-- what lies behind a run is one, where code counts all elements
pub behind_within : {part scratch : List ℕ} {slot level first size : ℕ} (count : ℕ) → CanLayBeside part slot level first size scratch → count ≡ count_word part
    → RunWithin part (first + size) (count - first - size)
behind_within count can e = record { laid = can.run.laid; within = omega (arith, can.run.within) }

-- what the code lays in the scratch: the words before the run, the block's two words and those behind the run
pub laid_beside : {part scratch : List ℕ} {slot level first size : ℕ} (count code tag : ℕ) (copied after : List ℕ) → CanLayBeside part slot level first size scratch
    → count ≡ count_word part → tag ≡ block_tag slot level → copied ≡ paste scratch 0 (run_words (elements_in part) 0 first) (2 * first)
    → after ≡ paste (set (set copied (2 * first) code) (2 * first + 1) tag) (2 * first + 2) (run_words (elements_in part) (first + size) (count - first - size)) (2 * (count - first - size))
    → length copied ≡ length scratch → length after ≡ length (set (set copied (2 * first) code) (2 * first + 1) tag)
    → LaidBeside part slot level code first size scratch after (first + 1 + (count - first - size))
laid_beside {part} {scratch} {first = first} {size = size} count code tag copied after can e named c a long long' =
    record {
      rest_is = omega (arith, can.run.within);
      long = long' ∙ simp length-set long;
      handed = rw (← named) (beside_run part scratch first size (count - first - size) code tag can.run.laid (omega (arith, can.run.within))
          (omega (arith, can.few, can.room, can.run.within)) c a);
    }
