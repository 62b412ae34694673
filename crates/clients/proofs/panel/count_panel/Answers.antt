use borrow.Author.Rules.{rules}
use Rattle.clients.proofs.Readings.{counted_panel}
use Rattle.clients.proofs.panel.count_panel.Goals as goal

pub returns : goal.returns
returns c = search (rules, counted_panel)
