-- `rewrite::hand_up_all` meets its contract: all elements are a run, found in the scratch, and the slot is released.
use borrow.Author.Rules.{rules}
use Rattle.rewrite.proofs.Runs.{whole_within}
use Rattle.rewrite.proofs.HandUps.{count_there, room_for_all, all_handed_up}
use Rattle.rewrite.proofs.hand_up_all.Goals as goal

pub bounds-part-2 : goal.bounds-part-2
bounds-part-2 c = search (rules, count_there)

pub copy_run-requires : goal.copy_run-requires
copy_run-requires c = (search (rules, whole_within), search (rules, room_for_all))

pub returns : goal.returns
returns c = search (rules, all_handed_up)
