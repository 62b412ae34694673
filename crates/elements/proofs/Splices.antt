-- The words that a splice leaves: the header with the new number, the elements as they are to be, and what lay behind them.
use Prim.Native.Nat.{ℕ, ◌+◌, ◌-◌, ◌*◌, ◌≤◌, ◌<◌}
use native.Mathlib.Omega.{arith}
use mathlib.Core.Path.{◌≡◌, ◌∙◌}
use mathlib.Core.List.{List, ◌++◌, append_assoc}
use lib.ListN.{length, take, drop, set, length-append, length-take, length-drop, length-set, get_or-append}
use lib.Seq.{paste, drop-drop, take-add, take-take, take_at, drop_at, take-append-le, length-take-le, set-append_left, get_or-set_same}
use Rattle.measures.specs.Slot.{count_word, element_index, count_index, slot_head}
use Rattle.elements.specs.Splice.{elements_in, CanSplice, Spliced}
use Rattle.measures.proofs.SlotWrites.{drop_take}

-- a copy to the front is found there
pub take_paste_front : (d a : List ℕ) (n : ℕ) → n ≤ length a → take n (paste d 0 a n) ≡ take n a
take_paste_front d a n h = take_at (take n a) (drop (0 + n) d) n (length-take-le n a h)

-- words moved by way of others
pub move_law : (part zeros : List ℕ) (from to count : ℕ) {aside after : List ℕ} → from + count ≤ length part
    → aside ≡ paste zeros 0 (take (length part - from) (drop from part)) count → after ≡ paste part to aside count
    → after ≡ paste part to (drop from part) count
move_law part zeros from to count {aside} {after} there copied-out copied-in =
    let g : count ≤ length part - from = omega arith in
    let long : count ≤ length (take (length part - from) (drop from part)) = simp (length-take, length-drop) (omega arith) in
    let front : take count aside ≡ take count (drop from part) =
    rw (copied-out, take_paste_front zeros _ count long, take-take count (length part - from) (drop from part) g) in
    rw (copied-in, front)

-- two copies, the second before the first
paste_before : (d : List ℕ) (at : ℕ) (a : List ℕ) (m : ℕ) (b : List ℕ) (n : ℕ) → at + m ≤ length d
    → paste (paste d (at + m) b n) at a m ≡ (take at d ++ take m a) ++ (take n b ++ drop (at + m + n) d)
paste_before d at a m b n hd =
    let h : length (take (at + m) d) ≡ at + m = length-take-le (at + m) d hd in
    let le : at ≤ length (take (at + m) d) = omega arith in
    let g : at ≤ at + m = omega arith in
    rw (
      append_assoc (take (at + m) d) (take n b) (drop (at + m + n) d),
      drop_at (take (at + m) d) (take n b ++ drop (at + m + n) d) (at + m) h,
      take-append-le at (take (at + m) d) (take n b ++ drop (at + m + n) d) le,
      take-take at (at + m) d g,
    )

-- the elements of a slot that is known in parts
elements_at : (header elements rest : List ℕ) → length header ≡ slot_head → length elements ≡ 2 * count_word header
    → elements_in (header ++ (elements ++ rest)) ≡ elements
elements_at header elements rest h e =
    let g : 2 < length header = omega arith in
    rw (get_or-append header (elements ++ rest) 0 count_index g, drop_at header (elements ++ rest) slot_head h, take_at elements rest _ e)

module _ (part source : List ℕ) (place removed inserted : ℕ) (can : CanSplice part source place removed inserted) (count : ℕ) (count_is : count ≡ count_word part) where
  abbrev left : ℕ
  left = 2 * (count - place - removed)

  abbrev at : ℕ
  at = element_index place

  abbrev elements : List ℕ
  elements = take (2 * place) (elements_in part) ++ (take (2 * inserted) source ++ drop (2 * (place + removed)) (elements_in part))

  abbrev rest : List ℕ
  rest = drop (at + 2 * inserted + left) part

  -- the elements behind those removed, which the code moves
  tail_is : take left (drop (at + 2 * removed) part) ≡ drop (2 * (place + removed)) (elements_in part)
  tail_is =
      let e : 2 * count_word part ≡ 2 * (place + removed) + left = omega arith in
      let f : at + 2 * removed ≡ element_index (place + removed) = omega arith in
      rw (e, f, drop_take (2 * (place + removed)) left (drop slot_head part), drop-drop)

  elements_long : length elements ≡ 2 * (count - removed + inserted)
  elements_long =
      let h : length (elements_in part) ≡ 2 * count_word part = simp (length-take, length-drop) (omega arith) in
      let f : length (take (2 * place) (elements_in part)) ≡ 2 * place = length-take-le _ _ (omega arith) in
      rw (length-append, length-append, f, length-take-le (2 * inserted) source can.source_long, length-drop, h) (omega arith)

  -- the words after the tail is moved and the source laid before it
  laid : paste (paste part (at + 2 * inserted) (drop (at + 2 * removed) part) left) at source (2 * inserted) ≡ take slot_head part ++ (elements ++ rest)
  laid =
      let h : at + 2 * inserted ≤ length part = omega arith in
      let g : 2 * place ≤ 2 * count_word part = omega arith in
      paste_before part at source (2 * inserted) (drop (at + 2 * removed) part) left h
      ∙ rw (tail_is, take-add 8 (2 * place) part, ← take-take (2 * place) (2 * count_word part) (drop 8 part) g) (simp append_assoc)

  -- the tail is moved, the source is laid at the place, and the number anew
  pub splice_law : {moved after : List ℕ} → moved ≡ paste part (at + 2 * inserted) (drop (at + 2 * removed) part) left
      → after ≡ paste moved at source (2 * inserted) → Spliced part source place removed inserted (set after count_index (count - removed + inserted))
  splice_law {moved} {after} tail-moved source-laid =
      let n : ℕ = count - removed + inserted in
      let h : length (take slot_head part) ≡ slot_head = length-take-le slot_head part (omega arith) in
      let h' : length (set (take slot_head part) count_index n) ≡ slot_head = simp length-set h in
      let n_is : count_word (set (take slot_head part) count_index n) ≡ n = get_or-set_same (take slot_head part) count_index n 0 (omega arith) in
      let after_is : set after count_index n ≡ set (take slot_head part) count_index n ++ (elements ++ rest) =
      rw (source-laid, tail-moved, laid) (set-append_left (take slot_head part) (elements ++ rest) count_index n (omega arith)) in
      record {
        elements = rw after_is (elements_at (set (take slot_head part) count_index n) elements rest h' (rw n_is elements_long));
        header = rw (← count_is, after_is) (take_at (set (take slot_head part) count_index n) (elements ++ rest) slot_head h');
        long = rw (after_is, length-append, length-append, h', elements_long, length-drop) (omega arith);
      }
