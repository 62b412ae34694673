-- `rewrite::lay_elements` meets its contract: the part that is lent and comes back with the elements is the slot.
use borrow.Author.Rules.{rules}
use Rattle.rewrite.proofs.LentSlots.{laid_back}
use Rattle.rewrite.proofs.lay_elements.Goals as goal

pub returns : goal.returns
returns c = search (rules, laid_back)
