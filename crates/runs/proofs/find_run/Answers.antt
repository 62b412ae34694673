-- `runs::find_run` meets its contract: where the quarter around the code holds fewer than k elements, so does every lower block.
use native.Mathlib.Omega.{arith}
use Rattle.runs.proofs.Runs.{few_reached}
use Rattle.runs.proofs.find_run.Goals as goal

pub returns-then-right-left : goal.returns-then-right-left
returns-then-right-left c =
    λ ascending h s. few_reached ascending c.place_of-place.ensures _ h c.reach_left-left.ensures c.reach_right-right.ensures c.if-right-left.true (omega arith)
