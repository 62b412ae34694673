-- `inspection::pass::first_pass` meets its contract: a quarter has codes.
use native.Mathlib.Omega.{arith}
use Rattle.pktree.proofs.Alignment.{pow_pos}
use Rattle.inspection.proofs.pass.first_pass.Goals as goal

pub nonzero_div-result : goal.nonzero_div-result
nonzero_div-result c = omega (arith, c.block_size.ensures, pow_pos c.args.quarters)
