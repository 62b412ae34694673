-- The level falls from a block to its quarters, and an element of a quarter lies between the quarter and its own elements. The invariants: the quarters, or
-- elements of a quarter, that were passed are read, and what is left of any reading of the whole is what the others give.
use Rattle.std.proofs.Common.{◌+◌, ◌*◌, ◌-◌}
use Rattle.reader.proofs.QuarterRead.{PartRead}
use Rattle.reader.proofs.QuartersRead.{QuartersRead}
use Rattle.reader.proofs.Entries.+read_element_read_elements_read_quarter.Given as goal

abbrev pub decreases-read_element : goal.decreases-read_element
decreases-read_element l = 3 * l.level + 1

abbrev pub decreases-read_elements : goal.decreases-read_elements
decreases-read_elements l = 3 * l.level

abbrev pub decreases-read_quarter : goal.decreases-read_quarter
decreases-read_quarter l = 3 * l.level + 2

abbrev pub invariant-read_elements-loop : goal.invariant-read_elements-loop
invariant-read_elements-loop l =
    QuartersRead l.self.codes.now l.self.levels.now l.self.k l.inner l.code l.at l.count l.next l.place (4 - l.counter)

abbrev pub invariant-read_quarter-loop-inner : goal.invariant-read_quarter-loop-inner
invariant-read_quarter-loop-inner l = PartRead l.self.codes.now l.self.levels.now l.self.k l.level l.code l.at l.count l.next l.place

abbrev pub decreases-read_quarter-loop-inner : goal.decreases-read_quarter-loop-inner
decreases-read_quarter-loop-inner l = l.end - l.place
