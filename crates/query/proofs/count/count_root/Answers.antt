-- `query::count::count_root` meets its contract: the root lies over the window's edge.
use Rattle.query.proofs.Counts.{root_over_edge, root_broken}
use Rattle.query.proofs.count.count_root.Goals as goal

pub returns-in_err-count_block : goal.returns-in_err-count_block
returns-in_err-count_block c = root_broken c.requires c.count_block.ensures c.in_err-count_block.was _ c.from_residual.ensures.0

pub returns : goal.returns
returns c = root_over_edge c.requires c.count_block.ensures c.in_ok-count_block.was
