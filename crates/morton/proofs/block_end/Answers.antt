-- `morton::block_end` meets its contract: neither part is more than 2 ^ 32.
use native.Mathlib.Omega.{arith}
use Rattle.morton.proofs.Blocks.{size_to}
use Rattle.morton.proofs.block_end.Goals as goal

pub overflow_add-result : goal.overflow_add-result
overflow_add-result c = omega (arith, c.requires, size_to c.args.level c.requires.0, c.block_size.ensures)
