-- `frontier::sift_down` meets its contract. The loop's invariant: a hole sinks, and the entry right above it has no higher key.
use native.Mathlib.Omega.{arith}
use Rattle.frontier.proofs.HoleMoves.{sinks_on}
use Rattle.frontier.proofs.sift_down.Goals as goal

pub loop-i-preserved : goal.loop-i-preserved
loop-i-preserved c =
    sinks_on _ _ c.lesser_child-child.ensures (omega arith) c.loop-i.invariant
