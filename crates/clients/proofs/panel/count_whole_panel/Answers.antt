use borrow.Author.Rules.{rules}
use Rattle.clients.proofs.Readings.{whole_panel}
use Rattle.clients.proofs.panel.count_whole_panel.Goals as goal

pub returns : goal.returns
returns c = search (rules, whole_panel)
