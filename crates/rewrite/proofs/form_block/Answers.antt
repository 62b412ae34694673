-- `rewrite::form_block` meets its contract: taking the slot, the move, the splice and the header leave together what `Moves` says.
use mathlib.Core.Path.{refl}
use borrow.Author.Rules.{rules}
use Rattle.rewrite.proofs.Moves.{taken_fits, run_still_within, lent_within, moved_gives_way, run_few, block_formed}
use Rattle.rewrite.proofs.form_block.Goals as goal

pub returns : goal.returns
returns c =
    block_formed _ _ _ c.in-Some.is c.take_free.ensures c.requires.0 _ c.wide.ensures _ c.move_run.ensures _ _ c.splice_slot.ensures
    _ _ _ _ _ _ c.requires.1 c.wide-2.ensures refl c.block_tag.ensures c.slot_part.ensures c.number_of_run-number.ensures
    c.head_slot.ensures

pub number_of_run-number-requires : goal.number_of_run-number-requires
number_of_run-number-requires c = search (rules, taken_fits, lent_within, run_few)

pub move_run-requires-clause-run_within : goal.move_run-requires-clause-run_within
move_run-requires-clause-run_within c = search (rules, run_still_within)

pub splice_slot-requires-clause-can_splice : goal.splice_slot-requires-clause-can_splice
splice_slot-requires-clause-can_splice c = search (rules, moved_gives_way)
