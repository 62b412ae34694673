-- `frontier::push` meets its contract.
use borrow.Author.Rules.{rules}
use Rattle.frontier.proofs.FilledHoles.{pushed}
use Rattle.frontier.proofs.push.Goals as goal

pub returns : goal.returns
returns c = search (rules, pushed)
