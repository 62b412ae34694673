-- `rewrite::splice_slot` meets its contract: the part that is lent and comes back spliced is the slot.
use borrow.Author.Rules.{rules}
use Rattle.measures.proofs.SlotWrites.{lent_part}
use Rattle.rewrite.proofs.LentSlots.{spliced_back}
use Rattle.rewrite.proofs.splice_slot.Goals as goal

pub splice-requires : goal.splice-requires
splice-requires c =
    let o = c.offset-at in
    rw (lent_part c.args.layout.width c.args.slot o.result c.args.store.now o.ensures.is) c.requires.can_splice

pub returns : goal.returns
returns c = search (rules, spliced_back)
