use borrow.Author.Rules.{rules}
use Rattle.clients.proofs.Readings.{not_marked}
use Rattle.clients.proofs.panel.clear_unmarked.Goals as goal

pub returns : goal.returns
returns c = search (rules, not_marked)
