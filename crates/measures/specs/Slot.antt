-- The words of one slot, as a part of the store:
-- 0 level | 1 code | 2 number of elements | 3 next free slot | 4 number of marked pixels beneath | 5 to 7 unused | from 8 on two words for each element.
use Rattle.std.specs.Prelude.{ℕ, ◌+◌, ◌*◌, ◌≤◌, ◌<◌, ◌≡◌, List, length, get_or, take, drop}
use Rattle.measures.specs.Words.{head_words}

-- slot s, where a slot is `width` words long
unfoldable pub slot_part : ℕ → List ℕ → ℕ → List ℕ
slot_part width words slot = take width (drop (head_words + slot * width) words)

abbrev pub level_index : ℕ
level_index = 0

abbrev pub code_index : ℕ
code_index = 1

abbrev pub count_index : ℕ
count_index = 2

abbrev pub next_index : ℕ
next_index = 3

abbrev pub number_index : ℕ
number_index = 4

-- so many words come before a slot's elements
abbrev pub slot_head : ℕ
slot_head = 8

-- the first word of element i, and the word past the first i elements
abbrev pub element_index : ℕ → ℕ
element_index i = slot_head + 2 * i

abbrev pub level_word : List ℕ → ℕ
level_word part = get_or part level_index 0

abbrev pub code_word : List ℕ → ℕ
code_word part = get_or part code_index 0

abbrev pub count_word : List ℕ → ℕ
count_word part = get_or part count_index 0

abbrev pub next_word : List ℕ → ℕ
next_word part = get_or part next_index 0

abbrev pub number_word : List ℕ → ℕ
number_word part = get_or part number_index 0

abbrev pub element_part : List ℕ → List ℕ
element_part part = drop slot_head part

-- the slot lies within the store
abbrev pub Within : ℕ → List ℕ → ℕ → Type 0
Within width words slot = head_words + slot * width + width ≤ length words

-- only this slot changed
pub record OnlySlot (width slot : ℕ) (before after : List ℕ) : Type 0 where
  pub long : length after ≡ length before
  pub head : take head_words after ≡ take head_words before
  pub others : (other : ℕ) → (other ≡ slot → ⊥) → slot_part width after other ≡ slot_part width before other
  pub past : (n : ℕ) → slot < n → drop (head_words + n * width) after ≡ drop (head_words + n * width) before
