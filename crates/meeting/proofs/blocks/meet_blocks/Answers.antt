use native.Mathlib.Omega.{arith}
use Rattle.meeting.proofs.MetBlocks.{met_one, met_damaged, met_all}
use Rattle.meeting.proofs.blocks.meet_blocks.Goals as goal

pub returns-in_err-meet_element : goal.returns-in_err-meet_element
returns-in_err-meet_element g c =
    met_damaged c.loop-i-test.true c.loop-i.invariant.1 c.element_at.ensures c.in_err-meet_element.ensures _ c.from_residual.ensures.0

pub loop-i-preserved : goal.loop-i-preserved
loop-i-preserved g c =
    (omega arith, met_one c.loop-i-test.true c.loop-i.invariant.1 c.element_at.ensures c.in_ok-meet_element.ensures)

pub returns : goal.returns
returns g c = met_all c.loop-i.invariant.0 c.loop-i-test.false c.loop-i.invariant.1
