use borrow.Author.Rules.{rules}
use Rattle.clients.proofs.Readings.{count_over_edges}
use Rattle.clients.proofs.panel.count_over_edges.Goals as goal

pub returns : goal.returns
returns c = search (rules, count_over_edges)
