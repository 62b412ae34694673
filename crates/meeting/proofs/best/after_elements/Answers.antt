use native.Mathlib.Omega.{arith}
use Rattle.meeting.proofs.SeenElements.{seen_one, seen_all}
use Rattle.meeting.proofs.best.after_elements.Goals as goal

pub loop-i-preserved : goal.loop-i-preserved
loop-i-preserved c =
    (omega arith, seen_one c.loop-i-test.true c.loop-i.invariant.1 (rw c.element_at.ensures at c.after_element-nearest.ensures))

pub returns : goal.returns
returns c = seen_all c.loop-i-test.false c.loop-i.invariant.1
