use borrow.Author.Rules.{rules}
use Rattle.clients.proofs.Readings.{count_across_block}
use Rattle.clients.proofs.panel.count_across_block.Goals as goal

pub returns : goal.returns
returns c = search (rules, count_across_block)
