-- The numbers that are handed over: of an arm of a match what is promised of the answer is promised of them.
use mathlib.Core.Path.{◌≡◌, subst, sym}
use Rattle.promises.specs.Answer.{Answer}

pub arm_handed : {R : Type 0} (answered : R → Answer) (Meets : Answer → Type 0) {r s : R} {numbers : Answer} → Meets (answered r) → r ≡ s → numbers ≡ answered s → Meets numbers
arm_handed answered Meets promised is told = subst Meets (sym told) (subst (λ t. Meets (answered t)) is promised)
