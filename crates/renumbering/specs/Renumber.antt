-- 02, P6: the numbers of the blocks of a path, with one pixel more or less.
use Rattle.std.specs.Prelude.{ℕ, zero, suc, ◌+◌, ◌-◌, ◌≤◌, ◌<◌, ◌≡◌, List, [], ◌∷◌, length, take, drop, set}
use Rattle.measures.specs.Words.{head_words}
use Rattle.measures.specs.Sizes.{largest_most}
use Rattle.measures.specs.declared.sizes.Layout.{Layout}
use Rattle.measures.specs.Layout.{LayoutFits, store_end}
use Rattle.measures.specs.Slot.{slot_part, level_word, code_word, count_word, next_word, number_word, number_index, element_part}
use Rattle.measures.proofs.SlotWrites.{SlotWritten}
use Rattle.freeslots.specs.FreeSlots.{occurrences}
use Rattle.descent.specs.declared.Located.{Located}
use Rattle.descent.specs.declared.Passed.{Passed}
use Rattle.descent.specs.Located.{passed_at}

-- a number that a register can have, with one pixel less or more
pub record ChangedNumber (number removed inserted r : ℕ) : Type 0 where
  pub says : number ≤ largest_most → removed ≤ number → r ≡ number - removed + inserted

-- only the number of the slot changed
pub record Renumbered (width slot removed inserted : ℕ) (before after : List ℕ) : Type 0 where
  pub number : ℕ
  pub written : SlotWritten width slot before (set (slot_part width before slot) number_index number) after
  pub is : ChangedNumber (number_word (slot_part width before slot)) removed inserted number

-- a slot's words are those of the same block, its number aside
pub record SameBlock (before after : List ℕ) : Type 0 where
  pub level_is : level_word after ≡ level_word before
  pub code_is : code_word after ≡ code_word before
  pub count_is : count_word after ≡ count_word before
  pub next_is : next_word after ≡ next_word before
  pub elements_are : element_part after ≡ element_part before

-- the slots of the blocks that were passed, the last first
abbrev pub path_slots : List Passed → ℕ → List ℕ
path_slots passed zero = []
path_slots passed (suc n) = (passed_at passed n).slot ∷ path_slots passed n

pub record CanRenumber (layout : Layout) (words : List ℕ) (located : Located) (path : List Passed) (removed inserted : ℕ) : Type 0 where
  pub fits : LayoutFits layout words
  pub slot_below : located.block.slot < layout.slots
  pub deep : located.depth ≤ 16
  pub path_below : (i : ℕ) → i < located.depth → (passed_at path i).slot < layout.slots
  pub removed_to : removed ≤ 1
  pub inserted_to : inserted ≤ 1

-- only the numbers of the slots of the path changed; a slot that is there once has its number changed once
pub record PathRenumbered (layout : Layout) (path : List ℕ) (removed inserted : ℕ) (before after : List ℕ) : Type 0 where
  pub long : length after ≡ length before
  pub head : take head_words after ≡ take head_words before
  pub past : drop (store_end layout) after ≡ drop (store_end layout) before
  pub same : (t : ℕ) → SameBlock (slot_part layout.width before t) (slot_part layout.width after t)
  pub off_path : (t : ℕ) → occurrences t path ≡ 0 → slot_part layout.width after t ≡ slot_part layout.width before t
  pub on_path : (t : ℕ) → occurrences t path ≡ 1
      → ChangedNumber (number_word (slot_part layout.width before t)) removed inserted (number_word (slot_part layout.width after t))
