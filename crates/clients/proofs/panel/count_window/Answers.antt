use borrow.Author.Rules.{rules}
use Rattle.clients.proofs.Readings.{count_window}
use Rattle.clients.proofs.panel.count_window.Goals as goal

pub returns : goal.returns
returns c = search (rules, count_window)
