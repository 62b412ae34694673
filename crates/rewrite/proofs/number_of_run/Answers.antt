-- `rewrite::number_of_run` meets its contract: what is counted begins where the run does.
use borrow.Author.Rules.{rules}
use Rattle.rewrite.proofs.Runs.{run_numbered}
use Rattle.rewrite.proofs.number_of_run.Goals as goal

pub returns : goal.returns
returns c = search (rules, run_numbered)
