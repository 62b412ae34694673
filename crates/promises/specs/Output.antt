-- 01 "Calls": what list and save answer and write.
use Rattle.std.specs.Prelude.{ℕ, ◌≤◌, ◌<◌, ◌≡◌, ◌⊎◌, List, ◌++◌, length, drop}
use Rattle.promises.specs.Answer.{Answer, short}
use Rattle.promises.specs.Effect.{Effect, Returns, ◌else◌then◌}
use Rattle.promises.specs.Walk.{Accepts}

abbrev pub SameLength : Effect → Type 0
SameLength e = length e.after ≡ length e.before

-- whatever the words are: values of at most so much, no more written than the output holds, and nothing past the returned number
pub record Written (first second : ℕ) (e : Effect) : Type 0 where
  pub accepts : Accepts first second e
  pub room : e.answer.first ≤ length e.before
  pub rest : drop e.answer.first e.after ≡ drop e.answer.first e.before
  pub long : SameLength e

-- or 9, with a needed length that the output does not have, of at most so much
pub record Short (needed : ℕ) (e : Effect) : Type 0 where
  pub returns : Returns (short e.answer.first) e
  pub lacks : length e.before < e.answer.first
  pub needed_to : e.answer.first ≤ needed

abbrev pub WrittenOrShort : ℕ → ℕ → Effect → Type 0
WrittenOrShort first second e = Written first second e ⊎ Short first e

-- this answer; these words or bytes are the first of the output, the rest unchanged
pub record Writes (given : Answer) (output : List ℕ) (e : Effect) : Type 0 where
  pub is : e.answer ≡ given
  pub wrote : e.after ≡ output ++ drop (length output) e.before

-- 9 with the needed length where the output is too short
abbrev pub WritesOrShort : Answer → List ℕ → Effect → Type 0
WritesOrShort given output e = (length output ≤ length e.before else short (length output) then Writes given output) e
