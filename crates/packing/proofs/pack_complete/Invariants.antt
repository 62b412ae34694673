use Rattle.packing.proofs.PackTurns.{Going}
use Rattle.packing.proofs.pack_complete.Given as goal

abbrev pub invariant-loop-packed : goal.invariant-loop-packed
invariant-loop-packed l = Going l.plan l.limit l.k l.initial.store l.initial.stack l.initial.packed l.store l.stack l.packed

abbrev pub decreases-loop-packed : goal.decreases-loop-packed
decreases-loop-packed l = l.packed.count
