-- `rewrite::hand_up_block` meets its contract: the scratch has what lies beside the run, and the slot is written anew with the run.
use borrow.Author.Rules.{rules}
use Rattle.rewrite.proofs.Runs.{run_within}
use Rattle.rewrite.proofs.Moves.{run_few}
use Rattle.rewrite.proofs.HandUps.{can_lay_beside, block_handed_up}
use Rattle.rewrite.proofs.hand_up_block.Goals as goal

pub lay_beside-rest-requires : goal.lay_beside-rest-requires
lay_beside-rest-requires c = search (rules, can_lay_beside)

pub number_of_run-number-requires : goal.number_of_run-number-requires
number_of_run-number-requires c = search (rules, run_within, run_few)

pub returns : goal.returns
returns c = search (rules, block_handed_up)

pub move_run-requires-clause-run_within : goal.move_run-requires-clause-run_within
move_run-requires-clause-run_within c = search (rules, run_within)
