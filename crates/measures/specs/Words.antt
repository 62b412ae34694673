-- The first words of a store, which belong to no slot:
-- 0 mark | 1 m | 2 k | 3 N | 4 and 5 unused | 6 number of blocks held | 7 first free slot. 01 fixes words 0 to 3 (Sizes), the others are ours.
use Rattle.std.specs.Prelude.{ℕ, List, get_or}

-- so many, as in 01's formula; the slots come after them
abbrev pub head_words : ℕ
head_words = 8

abbrev pub blocks_index : ℕ
blocks_index = 6

abbrev pub first_free_index : ℕ
first_free_index = 7

abbrev pub mark_word : List ℕ → ℕ
mark_word words = get_or words 0 0

abbrev pub blocks_word : List ℕ → ℕ
blocks_word words = get_or words blocks_index 0

abbrev pub first_free_word : List ℕ → ℕ
first_free_word words = get_or words first_free_index 0
