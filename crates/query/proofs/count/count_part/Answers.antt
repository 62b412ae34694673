-- `query::count::count_part` meets its contract: the whole panel is the root's number; else the walk starts at the root, below which all that 01 counts of the part is seen.
use Rattle.std.proofs.Common.{ap}
use Rattle.std.proofs.lemmas.Result.{err_from_is_err_and}
use Rattle.query.proofs.RootCount.{count_counted, count_broken}
use Rattle.query.proofs.WholeCount.{part_whole}
use Rattle.query.proofs.count.count_part.Goals as goal

pub returns-then-lies_inside : goal.returns-then-lies_inside
returns-then-lies_inside c = part_whole c.args.register.now.usable c.args.register.now.said c.lies_inside.ensures c.if-lies_inside.true c.count_whole.ensures

pub returns-in_err-sum : goal.returns-in_err-sum
returns-in_err-sum c =
    let p = err_from_is_err_and c.from_residual.result c.from_residual.ensures.1 in
    rw (p.1, p.2)
    (count_broken c.args.register.now.usable c.args.register.now.said c.requires c.slots.ensures.laid (ap (λ r. r.now) c.slots.ensures.same) c.count_root.ensures c.in_err-sum.was)

pub returns : goal.returns
returns c =
    count_counted c.args.register.now.usable c.args.register.now.said c.requires c.slots.ensures.laid (ap (λ r. r.now) c.slots.ensures.same) c.count_root.ensures c.in_ok-sum.was (c.within.ensures c.args.corners)
