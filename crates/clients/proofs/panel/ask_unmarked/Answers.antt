use borrow.Author.Rules.{rules}
use Rattle.clients.proofs.Readings.{ask_unmarked}
use Rattle.clients.proofs.panel.ask_unmarked.Goals as goal

pub returns : goal.returns
returns c = search (rules, ask_unmarked)
