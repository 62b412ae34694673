use borrow.Author.Rules.{rules}
use Rattle.clients.proofs.Readings.{asked_panel}
use Rattle.clients.proofs.panel.ask_panel.Goals as goal

pub returns : goal.returns
returns c = search (rules, asked_panel)
