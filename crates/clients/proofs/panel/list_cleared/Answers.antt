use borrow.Author.Rules.{rules}
use Rattle.clients.proofs.Readings.{cleared_listed}
use Rattle.clients.proofs.panel.list_cleared.Goals as goal

pub returns : goal.returns
returns c = search (rules, cleared_listed)
