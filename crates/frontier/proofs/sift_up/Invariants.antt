use Rattle.frontier.proofs.HoleMoves.{Rising}
use Rattle.frontier.proofs.sift_up.Given as goal

abbrev pub invariant-loop-i : goal.invariant-loop-i
invariant-loop-i l = Rising l.initial.keys l.initial.tags l.count l.key l.keys l.tags l.i

abbrev pub decreases-loop-i : goal.decreases-loop-i
decreases-loop-i l = l.i
