-- `history::step` meets its contract: the number of the call says which of the calls was made.
use Prim.Native.Nat.{◌≤◌}
use native.Mathlib.Omega.{arith}
use Rattle.history.proofs.CallSteps.{mark_step, clear_step, ask_step, count_step, nearest_step, check_step, other_number}
use Rattle.history.proofs.step.Goals as goal

pub returns-in-0 : goal.returns-in-0
returns-in-0 c = rw c.in-0.is (mark_step _ _ _ _ c.mark.result c.mark.ensures)

pub returns-in-1 : goal.returns-in-1
returns-in-1 c = rw c.in-1.is (clear_step _ _ _ _ c.clear.result c.clear.ensures)

pub returns-in-2 : goal.returns-in-2
returns-in-2 c = rw c.in-2.is (ask_step _ _ _ c.ask.result c.ask.ensures)

pub returns-in-3 : goal.returns-in-3
returns-in-3 c = rw c.in-3.is (count_step _ _ _ _ _ c.count.result c.count.ensures)

pub returns-in-8 : goal.returns-in-8
returns-in-8 c = rw c.in-8.is (nearest_step _ _ _ _ c.nearest.result c.nearest.ensures)

pub returns-in_default : goal.returns-in_default
returns-in_default c =
    let no_other : 9 ≤ c.args.call.number = omega arith in
    rw (other_number c.args.images.now c.args.codes.now c.args.call no_other) (check_step _ c.check.result c.check.ensures)
