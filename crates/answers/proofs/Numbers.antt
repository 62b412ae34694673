-- No refusal has the number 0, which is that of an accepted call.
use native.Mathlib.Omega.{arith}
use mathlib.Core.Path.{◌≡◌}
use Rattle.answers.specs.declared.Refusal.{Refusal}
use Rattle.answers.specs.declared.Refusal.TheVariants.{BeyondLimits, StoreTooShort, NoRegister, OffPanel, AlreadyMarked, Full, NotMarked, WindowReversed, OutputTooShort, NotAnImage, ImageUnlike, ImageDamaged, StoreDamaged, NotAscending, NoBudget}
use Rattle.answers.specs.Answer.{number_of}

pub is_refused : (refusal : Refusal) → number_of refusal ≡ 0 → ⊥
is_refused BeyondLimits e = omega arith
is_refused StoreTooShort e = omega arith
is_refused NoRegister e = omega arith
is_refused OffPanel e = omega arith
is_refused AlreadyMarked e = omega arith
is_refused Full e = omega arith
is_refused NotMarked e = omega arith
is_refused WindowReversed e = omega arith
is_refused (OutputTooShort needed) e = omega arith
is_refused NotAnImage e = omega arith
is_refused ImageUnlike e = omega arith
is_refused ImageDamaged e = omega arith
is_refused StoreDamaged e = omega arith
is_refused NotAscending e = omega arith
is_refused NoBudget e = omega arith
