use borrow.Author.Rules.{rules}
use Rattle.clients.proofs.Readings.{listed_panel}
use Rattle.clients.proofs.spoilt.mended.Goals as goal

pub returns : goal.returns
returns c = search (rules, listed_panel)
