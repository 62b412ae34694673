-- The laws of writing: what a word or a slot that is written does to each slot, to the store's head and to the words past the slots.
use Prim.Native.Nat.{ℕ, zero, suc, ◌+◌, ◌-◌, ◌*◌, ◌≤◌, ◌<◌}
use native.Mathlib.Omega.{arith}
use native.Mathlib.Nat.{zero-add, suc-add, add-sub_cancel_left}
use native.Mathlib.Decide.{dec_lt}
use mathlib.Core.Path.{◌≡◌, ap, sym, ◌∙◌}
use mathlib.Core.List.{List, [], ◌∷◌}
use lib.ListN.{length, get_or, take, drop, set, length-drop, length-set}
use lib.Seq.{take-nil, take-take, drop-drop, length-take-le, take_at, drop_at, get_or-take, get_or-drop, take-set-le, take-set-lt, drop-set-lt, drop-set-add}
use borrow.Rule.Slice.PartMut.{put_mid, same_len_mid, take_put, drop_put}
use Rattle.measures.specs.Words.{head_words}
use Rattle.measures.specs.Slot.{slot_part, Within, OnlySlot}
use Rattle.measures.proofs.Bounds.{slot_ends}

-- lists that agree on a front agree on a shorter one
pub take_less : (m n : ℕ) (before after : List ℕ) → m ≤ n → take n after ≡ take n before → take m after ≡ take m before
take_less m n before after h e = sym (take-take m n after h) ∙ ap (take m) e ∙ take-take m n before h

-- and on each word of it
pub word_in_front : (n i : ℕ) (before after : List ℕ) → i < n → take n after ≡ take n before → get_or after i 0 ≡ get_or before i 0
word_in_front n i before after h e = sym (get_or-take n after i 0 h) ∙ ap (λ (l : List ℕ). get_or l i 0) e ∙ get_or-take n before i 0 h

-- lists that agree from an index on agree from a later one on
drop_more : (m n : ℕ) (before after : List ℕ) → m ≤ n → drop m after ≡ drop m before → drop n after ≡ drop n before
drop_more m n before after h e =
    let s : n ≡ m + (n - m) = omega arith in
    rw (s, ← drop-drop (n - m) m after, e, drop-drop)

-- what is left of a front is the front of what is left
pub drop_take : (m n : ℕ) (l : List ℕ) → drop m (take (m + n) l) ≡ take n (drop m l)
drop_take zero n l = rw zero-add
drop_take (suc m) n [] = rw (suc-add, take-nil)
drop_take (suc m) n (x ∷ l) = rw (suc-add, drop_take m n l)

-- word j of a slot is a word of the store
pub slot_word : (width slot : ℕ) (words : List ℕ) (i j : ℕ) → i ≡ head_words + slot * width + j → j < width → get_or (slot_part width words slot) j 0 ≡ get_or words i 0
unfolding slot_part
slot_word width slot words i j e h = rw (get_or-take width (drop (head_words + slot * width) words) j 0 h, get_or-drop, e)

-- a slot that lies within the store is as long as a slot is
pub slot_length : (width slot : ℕ) (words : List ℕ) → Within width words slot → length (slot_part width words slot) ≡ width
unfolding slot_part
slot_length width slot words h = length-take-le width _ (omega (arith, length-drop (head_words + slot * width) words))

-- words that differ between a slot's start and its end only
pub only_slot : (width slot : ℕ) (before after : List ℕ) → length after ≡ length before → take (head_words + slot * width) after ≡ take (head_words + slot * width) before
    → drop (head_words + slot * width + width) after ≡ drop (head_words + slot * width + width) before → OnlySlot width slot before after
unfolding slot_part
only_slot width slot before after long front rest =
    record {
      long = long;
      head = take_less head_words (head_words + slot * width) before after (omega arith) front;
      others = λ other ne. apart other ne (dec_lt other slot);
      past = past;
    }
  where
    past : (n : ℕ) → slot < n → drop (head_words + n * width) after ≡ drop (head_words + n * width) before
    past n h = drop_more (head_words + slot * width + width) (head_words + n * width) before after (omega (arith, slot_ends slot n width h)) rest

    apart : (other : ℕ) → (other ≡ slot → ⊥) → Dec (other < slot) → take width (drop (head_words + other * width) after) ≡ take width (drop (head_words + other * width) before)
    apart other ne (yes h) =
        let e : take (head_words + other * width + width) after ≡ take (head_words + other * width + width) before =
        take_less (head_words + other * width + width) (head_words + slot * width) before after (omega (arith, slot_ends other slot width h)) front in
        rw (← drop_take (head_words + other * width) width after, e, drop_take)
    apart other ne (no h) = ap (take width) (past other (omega arith))

-- a slot that now has the words of `part`, and nothing else written
pub record SlotWritten (width slot : ℕ) (before part after : List ℕ) : Type 0 where
  pub self : slot_part width after slot ≡ part
  pub only : OnlySlot width slot before after

-- the part that code lends, `&mut store[at..at + width]`
pub lent_part : (width slot at : ℕ) (words : List ℕ) → at ≡ head_words + slot * width → take (at + width - at) (drop at words) ≡ slot_part width words slot
unfolding slot_part
lent_part width slot at words e = rw (add-sub_cancel_left, e)

-- and that comes back as `part`: what it held lies between the slot's start and its end
pub slot_given_back : (width slot at : ℕ) (words part : List ℕ) → at ≡ head_words + slot * width → Within width words slot
    → length part ≡ length (take (at + width - at) (drop at words)) → SlotWritten width slot words part (put_mid at (at + width - at) words part)
unfolding slot_part
slot_given_back width slot at words part e within long =
    let l : length part ≡ width = long ∙ ap length (lent_part width slot at words e) ∙ slot_length width slot words within in
    let ends : at + width ≤ length words = omega arith in
    let front : length (take at words) ≡ at = length-take-le at words (omega arith) in
    record {
      self = rw (← e, drop_at (take at words) _ at front, take_at part _ width l);
      only = only_slot width slot words _ (same_len_mid at (at + width - at) words part long)
          (rw (← e) (take_put at (at + width - at) words part (omega arith)))
          (rw (← e) (drop_put at (at + width) words part (omega arith) ends (omega arith)));
    }

-- one word of a slot set
pub slot_word_set : (width slot : ℕ) (words : List ℕ) (i j v : ℕ) → i ≡ head_words + slot * width + j → j < width
    → SlotWritten width slot words (set (slot_part width words slot) j v) (set words i v)
unfolding slot_part
slot_word_set width slot words i j v e h = record {
  self = rw (e, drop-set-add, take-set-lt width (drop (head_words + slot * width) words) j v h);
  only = only_slot width slot words _ (length-set words i v) (take-set-le (head_words + slot * width) words i v (omega arith))
      (drop-set-lt (head_words + slot * width + width) words i v (omega arith));
}

-- the store's head has these words, and nothing else was written
pub record HeadWritten (width : ℕ) (head : List ℕ) (before after : List ℕ) : Type 0 where
  pub long : length after ≡ length before
  pub head_is : take head_words after ≡ head
  pub slots : (slot : ℕ) → slot_part width after slot ≡ slot_part width before slot
  pub past : (n : ℕ) → drop (head_words + n * width) after ≡ drop (head_words + n * width) before

-- a word before all slots
pub head_word_set : (width : ℕ) (words : List ℕ) (i v : ℕ) → i < head_words → HeadWritten width (set (take head_words words) i v) words (set words i v)
unfolding slot_part
head_word_set width words i v h =
    record { long = length-set words i v; head_is = take-set-lt head_words words i v h; slots = λ slot. ap (take width) (past slot); past = past }
  where
    past : (n : ℕ) → drop (head_words + n * width) (set words i v) ≡ drop (head_words + n * width) words
    past n = drop-set-lt (head_words + n * width) words i v (omega arith)

-- and one more of them
pub head_written_then : {width : ℕ} {head : List ℕ} {before mid : List ℕ} (i v : ℕ) → i < head_words → HeadWritten width head before mid
    → HeadWritten width (set head i v) before (set mid i v)
head_written_then {width} {head} {before} {mid} i v h w =
    let n = head_word_set width mid i v h in
    record {
      long = n.long ∙ w.long;
      head_is = n.head_is ∙ ap (λ (l : List ℕ). set l i v) w.head_is;
      slots = λ slot. n.slots slot ∙ w.slots slot;
      past = λ m. n.past m ∙ w.past m;
    }
