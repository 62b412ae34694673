-- The level of the block around falls.
use Rattle.walks.proofs.Walks.{InLoop}
use Rattle.query.specs.WindowRange.{range_of}
use Rattle.collecting.proofs.BlockLists.{ListsElements}
use Rattle.collecting.proofs.+list_block.Given as goal

abbrev pub decreases-list_block : goal.decreases-list_block
decreases-list_block l = l.above

abbrev pub invariant-loop-i : goal.invariant-loop-i
invariant-loop-i l =
    InLoop (ListsElements (range_of l.range)) l.range.slots.layout l.range.slots.words.now l.above l.slot l.level l.code l.count l.part l.i
    (l.initial.out, l.initial.sum.found, l.initial.sum.opened, l.initial.sum.tested) (l.out, l.sum.found, l.sum.opened, l.sum.tested)
