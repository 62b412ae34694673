-- `answers::judging::judge_pixel` meets its contract: the shift gives the panel's side, and each test taken puts one coordinate off the panel.
use native.Mathlib.Omega.{arith}
use Rattle.promises.specs.Effect.{HasPixelOn}
use Rattle.answers.proofs.Sides.{side_of_order, code_on_panel}
use Rattle.answers.proofs.judging.judge_pixel.Goals as goal

pub returns : goal.returns
returns c =
    let k = c.in_ok-sizes.ensures in
    let a = c.args in
    let on : HasPixelOn a.store.now a.x a.y = omega (arith, side_of_order k) in
    record { usable = k.1; sizes_are = k.0; on_panel = on; code_is = c.code_of-code.ensures; code_on_panel = code_on_panel k on c.code_of-code.ensures }
