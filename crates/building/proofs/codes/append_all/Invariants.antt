use Rattle.building.proofs.GivenCodes.{Turns}
use Rattle.building.proofs.codes.append_all.Given as goal

abbrev pub invariant-loop-code : goal.invariant-loop-code
invariant-loop-code g l = (goal.iterator-loop-code g).can_next l.code-iterator
    × (goal.iterator-loop-code g).is_finite l.code-iterator
    × Turns (goal.iterator-loop-code g).next_gives l.fn.codes l.code-iterator l.plan l.initial.store l.initial.stack l.store l.stack l.build
