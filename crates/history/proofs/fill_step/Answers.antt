use Rattle.history.proofs.CallSteps.{fill_part}
use borrow.Author.Rules.{rules}
use Rattle.history.proofs.fill_step.Goals as goal

pub returns : goal.returns
returns c = search (rules, fill_part)
