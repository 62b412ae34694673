-- `packing::append` meets its contract: what it is due makes packing due and leaves room on the stack, also where nothing is to be packed.
use borrow.Author.Rules.{rules}
use Rattle.packing.proofs.PackTurns.{nothing_packed}
use Rattle.packing.proofs.Appending.{stack_lies, k_counts, pack_complete_due, push_due, append_done}
use Rattle.packing.proofs.append.Goals as goal

pub push-requires : goal.push-requires
push-requires c =
    push_due c.requires c.common_level-limit.ensures (nothing_packed c.wide.ensures c.none_complete.ensures c.if-none_complete.true)

pub returns-then-none_complete : goal.returns-then-none_complete
returns-then-none_complete c =
    append_done c.common_level-limit.ensures (nothing_packed c.wide.ensures c.none_complete.ensures c.if-none_complete.true) c.push.ensures

pub none_complete-requires : goal.none_complete-requires
none_complete-requires c = (search (rules, stack_lies), search (rules, k_counts))

pub pack_complete-packed-requires : goal.pack_complete-packed-requires
pack_complete-packed-requires c = search (rules, pack_complete_due)

pub push-requires-2 : goal.push-requires-2
push-requires-2 c = search (rules, push_due)

pub returns : goal.returns
returns c = search (rules, append_done)
