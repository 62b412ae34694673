-- What rewriting a slot leaves, in words.
use Rattle.std.specs.Prelude.{ℕ, ◌+◌, ◌-◌, ◌*◌, ◌≤◌, ◌<◌, ◌≡◌, List, [], ◌∷◌, ◌++◌, length, take, drop, Result, Ok, Err}
use Rattle.std.proofs.Math.Seq.{paste}
use Rattle.elements.specs.Element.{block_tag}
use Rattle.measures.specs.Words.{head_words, blocks_word, first_free_word}
use Rattle.measures.specs.declared.sizes.Layout.{Layout}
use Rattle.measures.specs.Layout.{LayoutFits, most_slots}
use Rattle.measures.specs.Slot.{slot_part, level_word, code_word, count_word, number_word, OnlySlot, element_index, slot_head}
use Rattle.elements.specs.Splice.{elements_in, Spliced}
use Rattle.freeslots.specs.FreeSlots.{Released}
use Rattle.sums.specs.Sum.{number_of_elements}
use Rattle.freeslots.proofs.FreeChains.{head_taken}
use Rattle.measures.proofs.SlotWrites.{SlotWritten}
use Rattle.store.specs.declared.Damaged.{Damaged}

-- a slot's words say this level, this code and elements of these words
pub record SlotNow (part : List ℕ) (level code : ℕ) (elements : List ℕ) : Type 0 where
  pub level_is : level_word part ≡ level
  pub code_is : code_word part ≡ code
  pub count_is : 2 * count_word part ≡ length elements
  pub elements_are : elements_in part ≡ elements

pub record SplicedSlot (width slot place removed inserted : ℕ) (source before after : List ℕ) : Type 0 where
  pub spliced : Spliced (slot_part width before slot) source place removed inserted (slot_part width after slot)
  pub only : OnlySlot width slot before after

-- a run of elements lies in a slot's words
pub record RunWithin (part : List ℕ) (first size : ℕ) : Type 0 where
  pub laid : element_index (count_word part) ≤ length part
  pub within : first + size ≤ count_word part

-- a run of elements lies in the slot, and a block of it can be named
pub record CanCut (layout : Layout) (words : List ℕ) (slot level first size : ℕ) : Type 0 where
  pub fits : LayoutFits layout words
  pub slot_below : slot < layout.slots
  pub level_to : level ≤ 16
  pub laid : element_index (count_word (slot_part layout.width words slot)) ≤ layout.width
  pub within : first + size ≤ count_word (slot_part layout.width words slot)

-- the words of what is handed up: fewer than k elements, and 01's largest k is 16
abbrev pub scratch_words : ℕ
scratch_words = 32

-- what is handed up has room in the scratch words: fewer than k elements
pub record CanHandUp (layout : Layout) (words : List ℕ) (slot level first size : ℕ) (scratch : List ℕ) : Type 0 where
  pub cut : CanCut layout words slot level first size
  pub few : count_word (slot_part layout.width words slot) < size + 16
  pub room : length scratch ≡ scratch_words

-- the same of one slot's words
pub record CanLayBeside (part : List ℕ) (slot level first size : ℕ) (scratch : List ℕ) : Type 0 where
  pub run : RunWithin part first size
  pub slot_to : slot ≤ most_slots
  pub level_to : level ≤ 16
  pub few : count_word part < size + 16
  pub room : length scratch ≡ scratch_words

-- the two words of a block's element
abbrev pub block_words : ℕ → ℕ → ℕ → List ℕ
block_words slot level code = code ∷ block_tag slot level ∷ []

-- the words of the run, and those around it with one element in its place
abbrev pub run_words : List ℕ → ℕ → ℕ → List ℕ
run_words elements first size = take (2 * size) (drop (2 * first) elements)

abbrev pub with_block : List ℕ → ℕ → ℕ → List ℕ → List ℕ
with_block elements first size one = take (2 * first) elements ++ (one ++ drop (2 * (first + size)) elements)

-- the run stands as the first elements of the other slot, the header of which is as it was
abbrev pub RunMoved : ℕ → ℕ → ℕ → ℕ → ℕ → List ℕ → List ℕ → Type 0
RunMoved width slot first size other before after =
    SlotWritten width other before (paste (slot_part width before other) slot_head (run_words (elements_in (slot_part width before slot)) first size) (2 * size)) after

-- the first free slot holds the run as a block, and the slot has one element in the run's place
pub record BlockFormed (layout : Layout) (slot level code first size fresh : ℕ) (before after : List ℕ) : Type 0 where
  pub long : length after ≡ length before
  pub fresh_is : fresh ≡ first_free_word before
  pub fresh_below : fresh < layout.slots
  pub was_free : level_word (slot_part layout.width before fresh) ≡ 0
  pub some_left : blocks_word before < layout.slots
  pub head : take head_words after ≡ head_taken layout fresh before
  pub others : (t : ℕ) → (t ≡ slot → ⊥) → (t ≡ fresh → ⊥) → slot_part layout.width after t ≡ slot_part layout.width before t
  pub past : (n : ℕ) → slot < n → fresh < n → drop (head_words + n * layout.width) after ≡ drop (head_words + n * layout.width) before
  pub new_block : (fresh ≡ slot → ⊥) → SlotNow (slot_part layout.width after fresh) level code (run_words (elements_in (slot_part layout.width before slot)) first size)
  pub around : (fresh ≡ slot → ⊥)
      → SlotNow (slot_part layout.width after slot) (level_word (slot_part layout.width before slot)) (code_word (slot_part layout.width before slot))
      (with_block (elements_in (slot_part layout.width before slot)) first size (block_words fresh level code))
  -- the block says the number of its pixels, the slot around it says what it said
  pub new_number : (fresh ≡ slot → ⊥)
      → number_word (slot_part layout.width after fresh) ≡ number_of_elements layout before size (run_words (elements_in (slot_part layout.width before slot)) first size)
  pub number_kept : (fresh ≡ slot → ⊥) → number_word (slot_part layout.width after slot) ≡ number_word (slot_part layout.width before slot)

-- it is formed; or nothing is written, since there is no free slot
abbrev pub FormMeets : Layout → ℕ → ℕ → ℕ → ℕ → ℕ → List ℕ → List ℕ → Result (Unit {0}) Damaged → Type 0
FormMeets layout slot level code first size before after (Ok _) = BlockFormed layout slot level code first size (first_free_word before) before after
FormMeets layout slot level code first size before after (Err _) =
    (after ≡ before)
    × (first_free_word before < layout.slots → level_word (slot_part layout.width before (first_free_word before)) ≡ 0 → blocks_word before < layout.slots → ⊥)

-- the scratch has the elements beside the run, and the run as a block in this slot
pub record LaidBeside (part : List ℕ) (slot level code first size : ℕ) (scratch scratch' : List ℕ) (r : ℕ) : Type 0 where
  pub rest_is : r + size ≡ count_word part + 1
  pub long : length scratch' ≡ length scratch
  pub handed : take (2 * r) scratch' ≡ with_block (elements_in part) first size (block_words slot level code)

-- the scratch has the elements beside the run and the run as a block in this slot; the slot holds that block
pub record HandedUpBlock (layout : Layout) (slot level code first size : ℕ) (before after scratch scratch' : List ℕ) (r : ℕ) : Type 0 where
  pub rest_is : r + size ≡ count_word (slot_part layout.width before slot) + 1
  pub long : length scratch' ≡ length scratch
  pub handed : take (2 * r) scratch' ≡ with_block (elements_in (slot_part layout.width before slot)) first size (block_words slot level code)
  pub taken_over : SlotNow (slot_part layout.width after slot) level code (run_words (elements_in (slot_part layout.width before slot)) first size)
  pub number_is : number_word (slot_part layout.width after slot) ≡ number_of_elements layout before size (run_words (elements_in (slot_part layout.width before slot)) first size)
  pub only : OnlySlot layout.width slot before after

-- the scratch has all elements, and the slot is free, one block less
pub record HandedUpAll (layout : Layout) (slot : ℕ) (before after scratch scratch' : List ℕ) (r : ℕ) : Type 0 where
  pub rest_is : r ≡ count_word (slot_part layout.width before slot)
  pub long : length scratch' ≡ length scratch
  pub handed : take (2 * r) scratch' ≡ elements_in (slot_part layout.width before slot)
  pub freed : Released layout.width slot (blocks_word before - 1) before after
