-- `inspection::chain::count_free` meets its contract: the loop follows the chain slot by slot, and stops where no chain of so many slots goes on.
use borrow.Author.Rules.{rules}
use Rattle.measures.proofs.Usable.{part_has_head}
use Rattle.inspection.proofs.ChainFollowed.{followed_none, no_end, next_absent, next_taken, next_followed, chain_ends}
use Rattle.inspection.proofs.chain.count_free.Goals as goal

pub loop-count-init : goal.loop-count-init
loop-count-init c = search (rules, followed_none)

pub returns-then-next : goal.returns-then-next
returns-then-next c = search (rules, chain_ends)

pub returns-then-layout-slot : goal.returns-then-layout-slot
returns-then-layout-slot c = search (rules, next_absent)

pub bounds-part-0 : goal.bounds-part-0
bounds-part-0 c = search (rules, part_has_head)

pub returns-then-part-ne0 : goal.returns-then-part-ne0
returns-then-part-ne0 c = search (rules, next_taken)

pub bounds-part-3 : goal.bounds-part-3
bounds-part-3 c = search (rules, part_has_head)

pub loop-count-preserved : goal.loop-count-preserved
loop-count-preserved c = search (rules, next_followed)

pub returns-else-part-ne0 : goal.returns-else-part-ne0
returns-else-part-ne0 c = search (rules, no_end)
