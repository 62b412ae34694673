-- `windows::meets` meets its contract: each begins before the other ends.
use Prim.Native.Nat.{ℕ}
use mathlib.Core.Path.{refl, ap}
use mathlib.Core.Bool.{◌&&◌}
use lib.Dec.{leb}
use Rattle.morton.specs.Code.{x_of, y_of}
use Rattle.windows.proofs.WindowTests.{Chained, second_made, second_left, four_decide, shares_by_corners}
use Rattle.windows.proofs.meets.Goals as goal
use Rattle.windows.proofs.meets.Goals.{then-at_most, else-at_most, then-at_most-2, else-at_most-2}

pub returns-then-at_most-3 : goal.returns-then-at_most-3
returns-then-at_most-3 c =
    record {
      says = λ on o es.
          let far = c.last_code-last.ensures.is on.level_from on.level_to on.ends in
          let ends = λ (n : ℕ). leb (x_of c.args.corners.first) (x_of n) && leb (y_of c.args.corners.first) (y_of n) in
          let second : Chained _ _ c.if-at_most.value = elim c.if-at_most.branch [ then-at_most w ↦ second_made c.at_most.ensures w.if-at_most.true w.at_most-then-at_most.ensures w.value-is | else-at_most w ↦ second_left _ c.at_most.ensures w.if-at_most.false w.value-is ] in
          let third : Chained _ _ c.if-at_most-2.value = elim c.if-at_most-2.branch [ then-at_most-2 w ↦ second_made refl w.if-at_most-2.true w.at_most-then-at_most-2.ensures w.value-is | else-at_most-2 w ↦ second_left _ refl w.if-at_most-2.false w.value-is ] in
          four_decide (shares_by_corners _ on es o) (ap ends far) second third (second_made refl c.if-at_most-3.true c.at_most-then-at_most-3.ensures refl);
    }

pub returns-else-at_most-3 : goal.returns-else-at_most-3
returns-else-at_most-3 c =
    record {
      says = λ on o es.
          let far = c.last_code-last.ensures.is on.level_from on.level_to on.ends in
          let ends = λ (n : ℕ). leb (x_of c.args.corners.first) (x_of n) && leb (y_of c.args.corners.first) (y_of n) in
          let second : Chained _ _ c.if-at_most.value = elim c.if-at_most.branch [ then-at_most w ↦ second_made c.at_most.ensures w.if-at_most.true w.at_most-then-at_most.ensures w.value-is | else-at_most w ↦ second_left _ c.at_most.ensures w.if-at_most.false w.value-is ] in
          let third : Chained _ _ c.if-at_most-2.value = elim c.if-at_most-2.branch [ then-at_most-2 w ↦ second_made refl w.if-at_most-2.true w.at_most-then-at_most-2.ensures w.value-is | else-at_most-2 w ↦ second_left _ refl w.if-at_most-2.false w.value-is ] in
          four_decide (shares_by_corners _ on es o) (ap ends far) second third (second_left _ refl c.if-at_most-3.false refl);
    }
