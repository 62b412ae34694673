use borrow.Author.Rules.{rules}
use Rattle.clients.proofs.Readings.{nearest_whole}
use Rattle.clients.proofs.panel.nearest_whole.Goals as goal

pub returns : goal.returns
returns c = search (rules, nearest_whole)
