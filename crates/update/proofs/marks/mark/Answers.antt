-- `update::marks::mark` meets its contract: a change by one pixel that comes, allowed where there is room.
use borrow.Author.Tests.{ltb-true}
use Rattle.update.specs.Changed.{comes}
use Rattle.update.proofs.MarkAndClear.{pixels_read, marked, already_marked, full, damaged}
use Rattle.update.proofs.marks.mark.Goals as goal

pub returns-in-Ok : goal.returns-in-Ok
returns-in-Ok c = marked c.requires.0 (rw c.in-Ok.is at c.change_pixel.ensures)

pub returns-in-Err-Already : goal.returns-in-Err-Already
returns-in-Err-Already c = already_marked c.requires.0.0 (rw (c.in-Err-Already.is, c.in-Err-Already.field-0-is) at c.change_pixel.ensures)

pub returns-in-Err-Disallowed : goal.returns-in-Err-Disallowed
returns-in-Err-Disallowed c = full c.requires.0 (rw (c.in-Err-Disallowed.is, c.in-Err-Disallowed.field-0-is) at c.change_pixel.ensures)

pub returns-in-Err-Damaged : goal.returns-in-Err-Damaged
returns-in-Err-Damaged c = damaged (rw (c.in-Err-Damaged.is, c.in-Err-Damaged.field-0-is) at c.change_pixel.ensures) (λ set never. never)

pub change_pixel-requires : goal.change_pixel-requires
change_pixel-requires c = record { given = c.requires; one = comes; allows = λ t. rw (pixels_read c.requires.0.0) (ltb-true _ _ t) }
