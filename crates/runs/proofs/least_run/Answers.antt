-- `runs::least_run` meets its contract: all from `left` up to `right` are near at the level reached, and no lower block holds k.
use native.Mathlib.Omega.{arith}
use mathlib.Core.Path.{◌≡◌}
use Rattle.elements.specs.Splice.{PlaceOf}
use Rattle.runs.proofs.Runs.{some_before, some_at, few_near, take_left, take_right, run_found}
use Rattle.runs.proofs.least_run.Goals as goal
use Rattle.runs.proofs.least_run.Goals.{At-loop-right}

-- the code's place, where the loop begins
place_of : (c : At-loop-right)
    → PlaceOf c.args.part.now c.args.count c.args.code c.args.place
place_of c = c.requires.0.1

pub loop-right-preserved-then-below-above : goal.loop-right-preserved-then-below-above
loop-right-preserved-then-below-above c =
    let l = c.loop-right in
    let at = place_of (goal.at.loop-right-preserved-then-below-above c).At-loop-right in
    let below = l.invariant.1.0 in
    let above = l.invariant.1.1 in
    let lower : c.min-reached.result ≡ l.below = omega arith in (
      omega (arith, some_before below (omega arith)),
      (c.level_before-below-then-below-above.ensures, above),
      λ ascending. rw lower (take_left ascending at l.invariant.0.0 l.invariant.0.1 below above c.if-below-above.true (omega arith) l.invariant.0.2 (omega arith) (l.invariant.2 ascending)),
    )

pub loop-right-preserved : goal.loop-right-preserved
loop-right-preserved c =
    let l = c.loop-right in
    let at = place_of (goal.at.loop-right-preserved c).At-loop-right in
    let below = l.invariant.1.0 in
    let above = l.invariant.1.1 in
    let lower : c.min-reached.result ≡ l.above = omega arith in (
      omega (arith, some_at above (omega arith)),
      (below, c.level_at-above-else-below-above.ensures),
      λ ascending. rw lower (take_right ascending at l.invariant.0.0 l.invariant.0.1 below above c.if-below-above.false (omega arith) (omega arith) (l.invariant.2 ascending)),
    )

pub returns : goal.returns
returns c =
    let l = c.loop-right in
    let at = place_of (goal.at.returns c).At-loop-right in
    record {
      low = l.invariant.0.4 (omega arith);
      within = omega arith;
      many = omega arith;
      right = λ ascending. run_found ascending at l.invariant.0.0 l.invariant.0.1 (l.invariant.2 ascending) c.reach_left-first.ensures c.reach_right-end.ensures;
    }

pub returns-then-level-reached : goal.returns-then-level-reached
returns-then-level-reached c = λ ascending h s.
    let l = c.loop-right in
    let at = place_of (goal.at.returns-then-level-reached c).At-loop-right in
    few_near ascending at l.invariant.0.0 l.invariant.0.1 l.invariant.1.0 l.invariant.1.1 _ h c.loop-right-test.true (omega arith) (omega arith)
