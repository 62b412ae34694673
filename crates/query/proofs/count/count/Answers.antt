-- `query::count::count` meets its contract: a window with the whole panel needs no walk, and an empty part none either.
use Rattle.query.proofs.WholeCount.{panel_counted}
use Rattle.query.proofs.count.count.Goals as goal

pub returns-then-has_panel : goal.returns-then-has_panel
returns-then-has_panel c = panel_counted c.args.register.now.usable c.args.register.now.said c.has_panel.ensures c.if-has_panel.true c.count_whole.ensures
