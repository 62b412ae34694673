-- 01: an element is either a pixel with its code or a block with its slot.
-- Two words: the code, and 0 for a pixel or a tag, 1 + slot + level * 2 ^ 20, for a block.
use Rattle.std.specs.Prelude.{ℕ, zero, suc, ◌+◌, ◌*◌, ◌/◌, ◌%◌, List, get_or}
use Rattle.elements.specs.declared.Element.{Element}
use Rattle.elements.specs.declared.Element.TheVariants.{Pixel, Block}
use Rattle.measures.specs.Slot.{element_index}

-- so many slots can be named
abbrev pub tag_slots : ℕ
tag_slots = 1048576

-- the second word of a block's element, and what it says
abbrev pub block_tag : ℕ → ℕ → ℕ
block_tag slot level = suc (slot + level * tag_slots)

abbrev pub tag_slot : ℕ → ℕ
tag_slot tag = tag % tag_slots

abbrev pub tag_level : ℕ → ℕ
tag_level tag = tag / tag_slots

-- the element that names a block by its slot, level and code
abbrev pub named : ℕ → ℕ → ℕ → Element
named slot level code = Block (record { slot = slot; level = level; code = code })

abbrev pub element_of : ℕ → ℕ → Element
element_of code zero = Pixel code
element_of code (suc tag) = named (tag_slot tag) (tag_level tag) code

-- element i of a slot's words
abbrev pub element_at : List ℕ → ℕ → Element
element_at part i = element_of (get_or part (element_index i) 0) (get_or part (element_index i + 1) 0)
