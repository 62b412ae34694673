-- A block written to a slot.
use Rattle.std.specs.Prelude.{ℕ, ◌+◌, ◌%◌, ◌≤◌, ◌<◌, ◌≡◌, List, length}
use Rattle.measures.specs.declared.sizes.Layout.{Layout}
use Rattle.measures.specs.Layout.{LayoutFits}
use Rattle.measures.specs.Slot.{slot_part, number_word, OnlySlot, slot_head}
use Rattle.rewrite.specs.Rewrite.{SlotNow}

-- elements, two words for each, have room in the slot
pub record LayDue (layout : Layout) (words : List ℕ) (slot : ℕ) (elements : List ℕ) : Type 0 where
  pub fits : LayoutFits layout words
  pub slot_below : slot < layout.slots
  pub room : slot_head + length elements ≤ layout.width
  pub pairs : length elements % 2 ≡ 0

-- a slot's words say this block with elements of these words, and so many pixels beneath it
pub record PartLaid (part : List ℕ) (level code number : ℕ) (elements : List ℕ) : Type 0 where
  pub says : SlotNow part level code elements
  pub number_is : number_word part ≡ number

-- the slot says this block with elements of these words, and so many pixels beneath it; nothing else changed
pub record BlockLaid (width slot level code number : ℕ) (elements before after : List ℕ) : Type 0 where
  pub says : SlotNow (slot_part width after slot) level code elements
  pub number_is : number_word (slot_part width after slot) ≡ number
  pub only : OnlySlot width slot before after
