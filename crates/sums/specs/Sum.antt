-- How many pixels elements stand for, by their words and the numbers that their slots say.
use Rattle.std.specs.Prelude.{ℕ, zero, suc, ◌+◌, cond, List, [], ◌∷◌, leb, ltb}
use Rattle.measures.specs.declared.sizes.Layout.{Layout}
use Rattle.measures.specs.Sizes.{largest_most}
use Rattle.measures.specs.Slot.{slot_part, number_word}
use Rattle.elements.specs.Element.{tag_slot}

-- the number that a slot says, 0 where no register can have it
abbrev pub number_said : Layout → List ℕ → ℕ → ℕ
number_said layout words slot =
    cond (ltb slot layout.slots) (cond (leb (number_word (slot_part layout.width words slot)) largest_most) (number_word (slot_part layout.width words slot)) 0) 0

-- how many pixels an element stands for, by its second word: a pixel for itself, a block for the number that its slot says
abbrev pub number_named : Layout → List ℕ → ℕ → ℕ
number_named layout words zero = 1
number_named layout words (suc tag) = number_said layout words (tag_slot tag)

-- how many so many elements stand for, by their words
abbrev pub number_of_elements : Layout → List ℕ → ℕ → List ℕ → ℕ
number_of_elements layout words zero elements = 0
number_of_elements layout words (suc n) [] = 0
number_of_elements layout words (suc n) (code ∷ []) = 0
number_of_elements layout words (suc n) (code ∷ tag ∷ elements) = number_named layout words tag + number_of_elements layout words n elements
