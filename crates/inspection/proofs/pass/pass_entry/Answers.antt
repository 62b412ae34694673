-- `inspection::pass::pass_entry` meets its contract: each test that fails refuses at one place of the one-pass test, and all together go on.
use native.Mathlib.Omega.{arith}
use Rattle.inspection.proofs.PassSteps.{some_codes}
use Rattle.inspection.proofs.pass.pass_entry.Goals as goal

pub nonzero_rem-at : goal.nonzero_rem-at
nonzero_rem-at c = omega (arith, some_codes _ c.block_size-codes.ensures)

pub nonzero_div-quarter : goal.nonzero_div-quarter
nonzero_div-quarter c = omega (arith, some_codes _ c.block_size.ensures)
