-- `bits` of the axis `Y` meets its contract: the mask leaves the bits of y.
use Rattle.morton.proofs.Order.{odd_mask}
use Rattle.morton.proofs.YAxis.bits.Goals as goal

pub returns : goal.returns
returns c = odd_mask c.args.code
