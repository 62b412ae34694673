-- `update::marks::clear` meets its contract: a change by one pixel that goes, allowed where one is counted.
use borrow.Author.Rules.{rules}
use borrow.Author.Tests.{ltb-true}
use Rattle.update.specs.Changed.{goes}
use Rattle.update.proofs.MarkAndClear.{pixels_read, cleared, not_marked, uncounted_or_damaged}
use Rattle.update.proofs.marks.clear.Goals as goal

pub returns-in-Ok : goal.returns-in-Ok
returns-in-Ok c = cleared c.requires.0.0 (rw c.in-Ok.is at c.change_pixel.ensures)

pub returns-in-Err-Already : goal.returns-in-Err-Already
returns-in-Err-Already c = not_marked c.requires.0.0 (rw (c.in-Err-Already.is, c.in-Err-Already.field-0-is) at c.change_pixel.ensures)

pub returns-in-Err-Disallowed : goal.returns-in-Err-Disallowed
returns-in-Err-Disallowed c = uncounted_or_damaged _ c.requires.0 c.in-Err-Disallowed.is (search rules) c.change_pixel.ensures

pub change_pixel-requires : goal.change_pixel-requires
change_pixel-requires c = record { given = c.requires; one = goes; allows = λ t. rw (pixels_read c.requires.0.0) (ltb-true _ _ t) }
