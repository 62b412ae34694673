-- `frontier::sift_up` meets its contract. The loop's invariant: a hole rises, and the entries right below it have no lower key.
use native.Mathlib.Omega.{arith}
use mathlib.Core.Path.{refl}
use Rattle.frontier.proofs.HoleMoves.{rises_on}
use Rattle.frontier.proofs.sift_up.Goals as goal

pub loop-i-preserved : goal.loop-i-preserved
loop-i-preserved c = rises_on _ _ refl (omega arith) (omega arith) c.loop-i.invariant
