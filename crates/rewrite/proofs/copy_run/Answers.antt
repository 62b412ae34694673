-- `rewrite::copy_run` meets its contract: what is copied begins where the run does.
use borrow.Author.Rules.{rules}
use Rattle.rewrite.proofs.Runs.{run_pasted}
use Rattle.rewrite.proofs.copy_run.Goals as goal

pub returns : goal.returns
returns c = search (rules, run_pasted)
