-- `answers::judging::judge_window` meets its contract: each test passed puts two corners in order.
use native.Mathlib.Omega.{arith}
use Rattle.pktree.specs.Window.{Ordered}
use Rattle.promises.specs.Calls.{window_given}
use Rattle.answers.proofs.judging.judge_window.Goals as goal

pub returns : goal.returns
returns c =
    let k = c.in_ok-sizes.ensures in
    let a = c.args in
    let in_order : Ordered (window_given a.x0 a.y0 a.x1 a.y1) = omega arith in
    record { usable = k.1; sizes_are = k.0; ordered = in_order }
