-- 02, P7, as three clients see it.
use Prim.Native.Nat.{ℕ}
use native.Mathlib.Omega.{arith}
use mathlib.Core.Path.{◌≡◌, ◌∙◌}
use mathlib.Core.List.{List}
use Rattle.promises.specs.Answer.{Answer}
use Rattle.promises.specs.Calls.{MakeMeets, MarkMeets}
use Rattle.promises.proofs.Ceiling.{too_many_refused, older_refused, largest_made}
use Rattle.promises.proofs.Ladder.{number_is}
use Rattle.clients.specs.Known.{TooMany, LargestMade, OlderLeft}

module _ {before after : List ℕ} {a : Answer} {r : ℕ} where
  pub one_too_many : {m k : ℕ} → MakeMeets before after m k 24577 a → r ≡ a.refusal → TooMany before after r
  one_too_many meets e = let x = too_many_refused (omega arith) meets in record { number = e ∙ number_is x; same = x.same }

  pub made_largest : MakeMeets before after 16 16 24576 a → r ≡ a.refusal → LargestMade before r
  made_largest meets e =
      record { made = λ long. e ∙ largest_made (record { order_from = omega arith; order_to = omega arith; k_from = omega arith; k_to = omega arith }) (omega (arith, long)) meets }

  pub older_left : {x y : ℕ} → MarkMeets before after x y a → r ≡ a.refusal → OlderLeft before after r
  older_left meets e = record { number = λ more. e ∙ number_is (older_refused more meets); same = λ more. (older_refused more meets).same }
