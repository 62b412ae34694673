use borrow.Author.Rules.{rules}
use Rattle.clients.proofs.Readings.{mended_panel}
use Rattle.clients.proofs.spoilt.mend.Goals as goal

pub returns-in-Load : goal.returns-in-Load
returns-in-Load c = search (rules, mended_panel)
