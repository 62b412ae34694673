-- 01: what a call answers, in numbers: the refusal, 0 for an accepted call, and its values, zero beside every refusal but 9.
use Rattle.std.specs.Prelude.{ℕ, Bool, true, false}
use Rattle.searching.specs.Nearest.{Nearest}

-- what two calls answer beside their first two values: 02, P5: nearest the pixel's code and distance, the limit, and whether the search is complete; 02, P8: ask
-- a block's code and level
pub record Further : Type 0 where
  pub code : ℕ
  pub level : ℕ
  pub distance : ℕ
  pub limit : ℕ
  pub complete : ℕ

abbrev pub none : Further
none = record { code = 0; level = 0; distance = 0; limit = 0; complete = 0 }

-- every other call has two values at most
pub record Answer : Type 0 where
  pub refusal : ℕ
  pub first : ℕ
  pub second : ℕ
  pub further : Further

abbrev pub accepted : ℕ → ℕ → Answer
accepted first second = record { refusal = 0; first = first; second = second; further = none }

abbrev pub refused : ℕ → Answer
refused number = record { refusal = number; first = 0; second = 0; further = none }

-- 9 comes with the needed length
abbrev pub short : ℕ → Answer
short needed = record { refusal = 9; first = needed; second = 0; further = none }

abbrev pub yes_no : Bool → ℕ
yes_no true = 1
yes_no false = 0

-- 02, P5: the six values of a search
abbrev pub searched : Nearest → Answer
searched n =
    record {
      refusal = 0;
      first = yes_no n.is_found;
      second = n.opened;
      further = record { code = n.code; level = 0; distance = n.distance; limit = n.limit; complete = yes_no n.complete };
    }

-- 02, P8: a block by its level and code, and nothing of a search
abbrev pub block_told : ℕ → ℕ → Further
block_told level block = record { code = block; level = level; distance = 0; limit = 0; complete = 0 }

-- marked or not, the number of blocks opened, and the level and code of a block
abbrev pub located : Bool → ℕ → ℕ → ℕ → Answer
located marked opened level block = record { refusal = 0; first = yes_no marked; second = opened; further = block_told level block }
