-- The level of the block around falls.
use Rattle.walks.proofs.Walks.{InLoop}
use Rattle.query.specs.WindowRange.{range_of}
use Rattle.query.specs.Counting.{numbers_of}
use Rattle.query.proofs.Counts.{CountsElements}
use Rattle.query.proofs.count.+count_block.Given as goal

abbrev pub decreases-count_block : goal.decreases-count_block
decreases-count_block l = l.above

abbrev pub invariant-loop-i : goal.invariant-loop-i
invariant-loop-i l =
    InLoop (CountsElements (range_of l.range)) l.range.slots.layout l.range.slots.words.now l.above l.slot l.level l.code l.count l.part l.i (numbers_of l.initial.sum) (numbers_of l.sum)
