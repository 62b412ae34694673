use borrow.Author.Rules.{rules}
use Rattle.clients.proofs.Readings.{count_around_block}
use Rattle.clients.proofs.panel.count_around_block.Goals as goal

pub returns : goal.returns
returns c = search (rules, count_around_block)
