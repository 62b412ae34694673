use Rattle.step.specs.Step.{Kept}
use Rattle.propagate.proofs.Propagation.{InBounds, Carried}
use Rattle.propagate.proofs.propagate.Given as goal

abbrev pub invariant-loop-count : goal.invariant-loop-count
invariant-loop-count l = InBounds l.change l.path l.store l.scratch l.depth l.slot l.place l.out l.coming × Kept l.change.layout l.initial.store l.store
    × Carried l.change l.path l.initial.store l.initial.depth l.initial.slot l.initial.place l.initial.out l.initial.coming l.store l.scratch l.depth l.slot l.place l.out l.coming

abbrev pub decreases-loop-count : goal.decreases-loop-count
decreases-loop-count l = l.depth
