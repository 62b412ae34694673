use borrow.Author.Rules.{rules}
use Rattle.clients.proofs.Readings.{ask_marked}
use Rattle.clients.proofs.panel.ask_marked.Goals as goal

pub returns : goal.returns
returns c = search (rules, ask_marked)
