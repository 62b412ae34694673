use Rattle.history.specs.Run.{Run}
use Rattle.history.specs.Script.{calls_to}
use Rattle.history.proofs.replay.Given as goal

abbrev pub invariant-loop-i : goal.invariant-loop-i
invariant-loop-i l = Run (calls_to l.images l.codes l.script l.i) l.initial.store l.store
