-- 01: the one written definition that reads the words as a tree. It looks at the slots only, takes each block from a slot of its own,
-- with just the elements that this slot's words name, and works none out from the pixels.
use Rattle.std.specs.Prelude.{ℕ, zero, suc, ◌&&◌, cond, List, [], ◌∷◌, eqb}
use Rattle.std.proofs.Math.Option.{Option, none, some}
use Rattle.elements.specs.Element.{tag_level, tag_slot}
use Rattle.pktree.specs.Elements.{block_at, empty, pixel}
use Rattle.measures.specs.Sizes.{slot_width, sizes_of}
use Rattle.measures.specs.Slot.{slot_part, level_word, code_word, count_word, element_part}
use Rattle.store.specs.Placed.{Placed}

-- a pixel before what follows
abbrev pub pixel_before : ℕ → Option Placed → Option Placed
pixel_before code none = none
pixel_before code (some rest) = some (pixel code rest)

-- a block before what follows, if its slot says the level and the code that the element says
abbrev pub block_before : ℕ → ℕ → Option Placed → Option Placed → Option Placed
block_before level code none rest = none
block_before level code (some empty) rest = none
block_before level code (some (pixel c u)) rest = none
block_before level code (some (block_at s i c es u)) none = none
block_before level code (some (block_at s i c es u)) (some rest) = cond (eqb i level && eqb c code) (some (block_at s i c es rest)) none

abbrev pub read_element : (ℕ → Option Placed) → ℕ → ℕ → Option Placed → Option Placed
read_element read_slot code zero rest = pixel_before code rest
read_element read_slot code (suc tag) rest = block_before (tag_level tag) code (read_slot (tag_slot tag)) rest

-- the elements that so many pairs of words name
abbrev pub read_elements : (ℕ → Option Placed) → ℕ → List ℕ → Option Placed
read_elements read_slot zero words = some empty
read_elements read_slot (suc n) [] = none
read_elements read_slot (suc n) (code ∷ []) = none
read_elements read_slot (suc n) (code ∷ tag ∷ words) = read_element read_slot code tag (read_elements read_slot n words)

abbrev pub block_in : ℕ → List ℕ → Option Placed → Option Placed
block_in slot part none = none
block_in slot part (some elements) = some (block_at slot (level_word part) (code_word part) elements empty)

-- the block in a slot, with at most so many blocks around one another
unfoldable pub read_slot : ℕ → List ℕ → ℕ → ℕ → Option Placed
read_slot width words zero slot = none
read_slot width words (suc depth) slot =
    block_in slot (slot_part width words slot)
    (read_elements (read_slot width words depth) (count_word (slot_part width words slot)) (element_part (slot_part width words slot)))

-- the tree of a store: the root is in slot 0, and m blocks stand around one another at most
abbrev pub tree_of : List ℕ → Option Placed
tree_of words = read_slot (slot_width (sizes_of words).k) words (sizes_of words).order 0
