use Rattle.bestfirst.proofs.Turns.{turn_shut, turn_opened, turn_damaged}
use Rattle.bestfirst.proofs.Search.open_block.Goals as goal

pub returns-in_err-count : goal.returns-in_err-count
returns-in_err-count g c = turn_shut _ c.open_next.ensures c.in_err-count.was c.args.self.now.slots.fits _ c.from_residual.ensures.0

pub returns-in_err-meet_blocks : goal.returns-in_err-meet_blocks
returns-in_err-meet_blocks g c =
    turn_damaged _ c.open_next.ensures c.in_ok-count.was (rw c.wide.ensures at c.part-part.ensures) c.in_err-meet_blocks.ensures _ c.from_residual-in_err-meet_blocks.ensures.0

pub returns : goal.returns
returns g c =
    turn_opened _ c.open_next.ensures c.in_ok-count.was (rw c.wide.ensures at c.part-part.ensures) c.after_elements-nearest.ensures c.in_ok-meet_blocks.ensures
