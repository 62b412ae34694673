use native.Mathlib.Omega.{arith}
use lib.ListN.{replicate}
use Rattle.history.proofs.Whole.{sample_ran}
use Rattle.history.proofs.sample.Goals as goal

pub returns : goal.returns
returns c = sample_ran (replicate 64 0) c.run.new.store (replicate 1 0) (replicate 1 0) c.run.result (omega arith) c.run.ensures
