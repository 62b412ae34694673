-- A quarter lies between its block and its own elements.
use Rattle.std.proofs.Common.{◌+◌, ◌*◌}
use Rattle.plain.proofs.blocks.Marked.+meet_elements_meet_quarter.Given as goal

abbrev pub decreases-meet_elements : goal.decreases-meet_elements
decreases-meet_elements l = 2 * l.level

abbrev pub decreases-meet_quarter : goal.decreases-meet_quarter
decreases-meet_quarter l = 2 * l.level + 1
