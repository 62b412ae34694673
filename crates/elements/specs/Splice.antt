-- What is done with the elements of one slot.
use Rattle.std.specs.Prelude.{ℕ, suc, ◌+◌, ◌-◌, ◌*◌, ◌≤◌, ◌<◌, ◌≡◌, List, ◌++◌, length, get_or, take, drop, set}
use Rattle.measures.specs.Layout.{widest_slot}
use Rattle.measures.specs.Slot.{count_word, element_part, element_index, level_index, code_index, count_index, number_index, slot_head}

-- the code of element i
abbrev pub code_at : List ℕ → ℕ → ℕ
code_at part i = get_or part (element_index i) 0

-- the element before this place has a code up to the given one, the element at it a higher one
pub record PlaceOf (part : List ℕ) (count code place : ℕ) : Type 0 where
  pub within : place ≤ count
  pub before : (i : ℕ) → suc i ≡ place → code_at part i ≤ code
  pub after : place < count → code < code_at part place

-- the words of the elements that the slot says it has
abbrev pub elements_in : List ℕ → List ℕ
elements_in part = take (2 * count_word part) (element_part part)

pub record CanSplice (part source : List ℕ) (place removed inserted : ℕ) : Type 0 where
  pub short : length part ≤ widest_slot
  pub laid : element_index (count_word part) ≤ length part
  pub cut : place + removed ≤ count_word part
  pub room : element_index (count_word part - removed + inserted) ≤ length part
  pub source_long : 2 * inserted ≤ length source

-- the elements with `removed` of them, from `place` on, replaced by the first of the source; the header but for their number as it was
pub record Spliced (part source : List ℕ) (place removed inserted : ℕ) (after : List ℕ) : Type 0 where
  pub elements : elements_in after ≡ take (2 * place) (elements_in part) ++ (take (2 * inserted) source ++ drop (2 * (place + removed)) (elements_in part))
  pub header : take slot_head after ≡ set (take slot_head part) count_index (count_word part - removed + inserted)
  pub long : length after ≡ length part

abbrev pub with_header : List ℕ → ℕ → ℕ → ℕ → ℕ → List ℕ
with_header part level code count number = set (set (set (set part level_index level) code_index code) count_index count) number_index number
