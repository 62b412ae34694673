-- The level of the block around falls.
use Rattle.measures.specs.Sizes.{largest_most}
use Rattle.walks.proofs.Walks.{InLoop}
use Rattle.collecting.specs.Listing.{of_all, Lists}
use Rattle.collecting.proofs.+list_inside.Given as goal

abbrev pub decreases-list_inside : goal.decreases-list_inside
decreases-list_inside l = l.above

abbrev pub invariant-loop-i : goal.invariant-loop-i
invariant-loop-i l =
    InLoop (Lists of_all largest_most l.slots.layout.slots) l.slots.layout l.slots.words.now l.above l.slot l.level l.code l.count l.part l.i
    (l.initial.out, l.initial.sum.found, l.initial.sum.opened, l.initial.sum.tested) (l.out, l.sum.found, l.sum.opened, l.sum.tested)
