-- `nearest::answer::search_from` meets its contract: a frontier with room for all blocks is never full.
use Rattle.nearest.proofs.Finding.{known_ends, damaged_ends, full_damaged}
use Rattle.nearest.proofs.answer.+search_from.Goals as goal

pub returns-in_err-nearest : goal.returns-in_err-nearest
returns-in_err-nearest g t c = damaged_ends c.in_err-nearest.ensures _ c.from_residual.ensures.0

pub returns-then-needed : goal.returns-then-needed
returns-then-needed g t c = full_damaged (rw c.in-Full.is at c.in_ok-nearest.ensures) c.if-needed.true

pub returns-in-Known : goal.returns-in-Known
returns-in-Known g t c = known_ends (rw c.in-Known.is at c.in_ok-nearest.ensures)
