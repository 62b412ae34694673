use borrow.Author.Rules.{rules}
use Rattle.clients.proofs.Readings.{marked_again}
use Rattle.clients.proofs.panel.mark_marked.Goals as goal

pub returns : goal.returns
returns c = search (rules, marked_again)
