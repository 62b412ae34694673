-- `building::finish::finish` meets its contract: all blocks are packed, the root is laid with the number of pixels, and the other slots are freed.
use native.Mathlib.Omega.{arith}
use mathlib.Core.Path.{sym}
use lib.Seq.{length-take-le}
use borrow.Author.Rules.{rules}
use Rattle.building.proofs.Finishing.{pack_below_due, lay_root_due, root_lies, stack_stays, still_fits, fresh_below, finished}
use Rattle.building.proofs.finish.finish.Goals as goal

pub free_from-requires : goal.free_from-requires
free_from-requires c =
    (still_fits c.requires c.pack_complete-root.ensures c.lay_block.ensures, search (rules, fresh_below))

pub pack_complete-root-requires : goal.pack_complete-root-requires
pack_complete-root-requires c = search (rules, pack_below_due)

pub overflow_mul-elements : goal.overflow_mul-elements
overflow_mul-elements c = omega (arith, root_lies c.requires c.pack_complete-root.ensures, stack_stays c.requires c.pack_complete-root.ensures)

pub slice_bounds-elements-end : goal.slice_bounds-elements-end
slice_bounds-elements-end c = search (rules, root_lies)

pub slice_bounds-elements-end-2 : goal.slice_bounds-elements-end-2
slice_bounds-elements-end-2 c = sym (length-take-le _ _ (root_lies c.requires c.pack_complete-root.ensures))

pub lay_block-requires : goal.lay_block-requires
lay_block-requires c = search (rules, lay_root_due)

pub returns : goal.returns
returns c = search (rules, finished)
