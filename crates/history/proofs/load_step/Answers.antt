use Rattle.history.proofs.CallSteps.{load_part}
use borrow.Author.Rules.{rules}
use Rattle.history.proofs.load_step.Goals as goal

pub returns : goal.returns
returns c = search (rules, load_part)
