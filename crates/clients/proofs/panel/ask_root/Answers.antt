use borrow.Author.Rules.{rules}
use Rattle.clients.proofs.Readings.{ask_root}
use Rattle.clients.proofs.panel.ask_root.Goals as goal

pub returns : goal.returns
returns c = search (rules, ask_root)
