-- 01's number and values for each answer: the refusal, 0 for an accepted call, and the values, zero beside every refusal but 9.
use Rattle.std.specs.Prelude.{ℕ, Bool, Option, Some, None, is_some, Result, Ok, Err}
use Rattle.answers.specs.declared.Refusal.{Refusal}
use Rattle.answers.specs.declared.Refusal.TheVariants.{BeyondLimits, StoreTooShort, NoRegister, OffPanel, AlreadyMarked, Full, NotMarked, WindowReversed, OutputTooShort, NotAnImage, ImageUnlike, ImageDamaged, StoreDamaged, NotAscending, NoBudget}
use Rattle.searching.specs.Nearest as search
use Rattle.promises.specs.Answer.{Answer, accepted, none, yes_no, searched, located}
use Rattle.answers.specs.declared.Place.{Place}
use Rattle.answers.specs.declared.Found.{Found}
use Rattle.answers.specs.declared.NearPixel.{NearPixel}
use Rattle.answers.specs.declared.Nearest.{Nearest}

-- 01, and 02, P2 and P5: the refusals by number
abbrev pub number_of : Refusal → ℕ
number_of BeyondLimits = 1
number_of StoreTooShort = 2
number_of NoRegister = 3
number_of OffPanel = 4
number_of AlreadyMarked = 5
number_of Full = 6
number_of NotMarked = 7
number_of WindowReversed = 8
number_of (OutputTooShort needed) = 9
number_of NotAnImage = 10
number_of ImageUnlike = 11
number_of ImageDamaged = 12
number_of StoreDamaged = 13
number_of NotAscending = 14
number_of NoBudget = 15

-- the length that comes with 9
abbrev pub needed_by : Refusal → ℕ
needed_by (OutputTooShort needed) = needed
needed_by _ = 0

-- what every call says of a refusal: its number, and no value but the needed length
abbrev pub refusal_answer : Refusal → Answer
refusal_answer refusal = record { refusal = number_of refusal; first = needed_by refusal; second = 0; further = none }

-- what every call answers: the values of its own, or a refusal
abbrev pub answered : {A : Type 0} → (A → Answer) → Result A Refusal → Answer
answered values (Ok given) = values given
answered values (Err refusal) = refusal_answer refusal

-- make, mark, clear, load and fill return only that they were done
abbrev pub answer : Result (Unit {0}) Refusal → Answer
answer = answered (λ _. accepted 0 0)

abbrev pub ask_answer : Result Place Refusal → Answer
ask_answer = answered (λ place. located place.marked place.opened place.level place.code)

abbrev pub found_answer : Result Found Refusal → Answer
found_answer = answered (λ sum. accepted sum.found sum.opened)

abbrev pub count_answer : Result Found Refusal → Answer
count_answer = found_answer

abbrev pub list_answer : Result Found Refusal → Answer
list_answer = found_answer

-- the pixel that was found, zeros where there is none
abbrev pub pixel_told : Option NearPixel → NearPixel
pixel_told (Some pixel) = pixel
pixel_told None = record { code = 0; distance = 0 }

-- 02, P5: the six values
abbrev pub values_of : Nearest → search.Nearest
values_of n =
    record { is_found = is_some n.pixel; code = (pixel_told n.pixel).code; distance = (pixel_told n.pixel).distance; opened = n.opened; limit = n.limit; complete = n.complete }

abbrev pub search_answer : Result Nearest Refusal → Answer
search_answer = answered (λ nearest. searched (values_of nearest))

abbrev pub save_answer : Result ℕ Refusal → Answer
save_answer = answered (λ length. accepted length 0)

abbrev pub check_answer : Result Bool Refusal → Answer
check_answer = answered (λ sound. accepted (yes_no sound) 0)
