use Prim.Native.Nat.{◌-◌}
use Rattle.frontier.proofs.HoleMoves.{Sinking}
use Rattle.frontier.proofs.sift_down.Given as goal

abbrev pub invariant-loop-i : goal.invariant-loop-i
invariant-loop-i l = Sinking l.initial.keys l.initial.tags l.count l.key l.keys l.tags l.i

abbrev pub decreases-loop-i : goal.decreases-loop-i
decreases-loop-i l = l.count - l.i
