use borrow.Author.Rules.{rules}
use Rattle.clients.proofs.Readings.{nearest_rough}
use Rattle.clients.proofs.panel.nearest_rough.Goals as goal

pub returns : goal.returns
returns c = search (rules, nearest_rough)
