use Prim.Native.Nat.{◌-◌}
use Rattle.bestfirst.specs.UnderWay.{progress, UnderWay}
use Rattle.bestfirst.proofs.Search.run.Given as goal

abbrev pub invariant-loop-frontier : goal.invariant-loop-frontier
invariant-loop-frontier g l = UnderWay l.self.slots.words.now l.self.slots.layout l.self.place l.self.budget l.frontier (progress l.opened l.best)

abbrev pub decreases-loop-frontier : goal.decreases-loop-frontier
decreases-loop-frontier g l = l.self.budget - l.opened
