-- `morton::between` meets its contract: the bits ascend as the coordinate does.
use Rattle.morton.proofs.Order.{between_ascending}
use Rattle.morton.proofs.between.Goals as goal

pub returns : goal.returns
returns g c =
    let below = g.met.A.Axis.below in
    between_ascending g.A.Axis.spread g.met.A.Axis.ascends (below c.args.first) (below c.args.last) (below c.args.code)
    c.bits.ensures c.bits-2.ensures c.bits-3.ensures c.is_between.ensures
