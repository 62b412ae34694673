-- `rewrite::head_slot` meets its contract: the part that is lent and comes back with its header is the slot.
use borrow.Author.Rules.{rules}
use Rattle.rewrite.proofs.LentSlots.{headed_back}
use Rattle.rewrite.proofs.head_slot.Goals as goal

pub returns : goal.returns
returns c = search (rules, headed_back)
