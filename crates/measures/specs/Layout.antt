-- Where the slots of a store lie.
use Rattle.std.specs.Prelude.{ℕ, ◌+◌, ◌-◌, ◌*◌, ◌/◌, ◌≤◌, ◌≡◌, List, length}
use Rattle.measures.specs.Words.{head_words}
use Rattle.measures.specs.Slot.{slot_head}
use Rattle.measures.specs.declared.sizes.Sizes.{Sizes}
use Rattle.measures.specs.declared.sizes.Layout.{Layout}
use Rattle.measures.specs.Sizes.{slot_count, slot_width, largest_most}

abbrev pub layout_of : Sizes → Layout
layout_of sizes = record { width = slot_width sizes.k; slots = slot_count sizes.k sizes.most }

-- the first word past the slots
abbrev pub store_end : Layout → ℕ
store_end layout = head_words + layout.slots * layout.width

-- the words of a slot where k is 2, the least of 01's, and where it is 16, the most: 18 and 158
abbrev pub narrowest_slot : ℕ
narrowest_slot = slot_width 2

abbrev pub widest_slot : ℕ
widest_slot = slot_width 16

-- the words of the widest slot past its head, 150, and so many elements, 75, since each has two
abbrev pub most_element_words : ℕ
most_element_words = widest_slot - slot_head

abbrev pub most_elements : ℕ
most_elements = most_element_words / 2

-- with k = 2, a slot for each of the most pixels
abbrev pub most_slots : ℕ
most_slots = largest_most

-- above every block: the root's level is 01's m, at most 16
abbrev pub level_above_root : ℕ
level_above_root = 17

-- what the limits of k and N leave for a layout
pub record LayoutWithin (layout : Layout) : Type 0 where
  pub width_from : narrowest_slot ≤ layout.width
  pub width_to : layout.width ≤ widest_slot
  pub slots_from : 1 ≤ layout.slots
  pub slots_to : layout.slots ≤ most_slots

pub record LaidOut (sizes : Sizes) (layout : Layout) : Type 0 where
  pub is : layout ≡ layout_of sizes
  pub within : LayoutWithin layout

pub record LayoutFits (layout : Layout) (words : List ℕ) : Type 0 where
  pub within : LayoutWithin layout
  pub lies : store_end layout ≤ length words

-- the first word of a slot, which ends before the store does
pub record SlotOffset (layout : Layout) (slot at : ℕ) : Type 0 where
  pub is : at ≡ head_words + slot * layout.width
  pub ends : at + layout.width ≤ store_end layout
