-- `traversal::Walk::open_block` meets its contract: a block as claimed has a header that says so, and is one block more.
use borrow.Author.Rules.{rules}
use Rattle.measures.proofs.Usable.{part_length}
use Rattle.traversal.proofs.BlockOpening.{shut}
use Rattle.traversal.proofs.Walk.open_block.Goals as goal

pub open_part-requires : goal.open_part-requires
open_part-requires c = search (rules, part_length)

pub returns-in_err-count : goal.returns-in_err-count
returns-in_err-count c = search (rules, shut)
