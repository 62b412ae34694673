-- `bits` of the axis `X` meets its contract: the mask leaves the bits of x.
use Rattle.morton.proofs.Order.{even_mask}
use Rattle.morton.proofs.XAxis.bits.Goals as goal

pub returns : goal.returns
returns c = even_mask c.args.code
