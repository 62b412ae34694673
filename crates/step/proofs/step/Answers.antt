-- `step::step` meets its contract: what `put` leaves is laid, and what is then found in the slot ends the step as `StepEnds` says.
use native.Mathlib.Omega.{arith}
use Rattle.std.specs.Prelude.{Ok}
use Rattle.std.proofs.lemmas.Result.{err_from_is_err_and}
use Rattle.step.specs.Step.{PutMeets}
use Rattle.step.proofs.StepEnds.{can_hand_up, can_regroup, never_refused, never_too_high, at_rest_or_deinstantiated_none_inserted, at_rest_or_deinstantiated_no_run, formed_then}
use Rattle.step.proofs.step.Goals as goal
use Rattle.step.proofs.step.Goals.{In_ok-count}

-- the elements were put
placed : (c : In_ok-count) → (let a = c.args in
    PutMeets a.change.layout a.slot a.place a.removed a.inserted a.scratch.now a.store.now c.put.new.store (Ok c.in_ok-count.count))
placed c = c.in_ok-count.ensures

pub returns-in_err-count : goal.returns-in_err-count
returns-in_err-count c =
    let p = err_from_is_err_and c.from_residual.result c.from_residual.ensures.1 in
    rw p.1 (never_refused c.requires.0 c.in_err-count.ensures)

pub deinstantiate_underfull-requires : goal.deinstantiate_underfull-requires
deinstantiate_underfull-requires c few =
    can_hand_up c.requires.0 (placed (goal.at.deinstantiate_underfull-requires c).In_ok-count) (omega (arith, c.requires.1))

pub returns-then-inserted-eq0 : goal.returns-then-inserted-eq0
returns-then-inserted-eq0 c =
    at_rest_or_deinstantiated_none_inserted c.requires.0 (placed (goal.at.returns-then-inserted-eq0 c).In_ok-count) c.if-inserted-eq0.true c.requires.1.1 c.deinstantiate_underfull.ensures

pub returns-then-level-gt16 : goal.returns-then-level-gt16
returns-then-level-gt16 c =
    never_too_high c.requires.0 (placed (goal.at.returns-then-level-gt16 c).In_ok-count) c.slot_part-part.ensures c.if-level-gt16.true

pub deinstantiate_underfull-requires-in_default : goal.deinstantiate_underfull-requires-in_default
deinstantiate_underfull-requires-in_default c few =
    can_hand_up c.requires.0 (placed (goal.at.deinstantiate_underfull-requires-in_default c).In_ok-count) (omega (arith, c.requires.1))

pub regroup-requires : goal.regroup-requires
regroup-requires c =
    can_regroup c.requires.0 (placed (goal.at.regroup-requires c).In_ok-count) c.if-level-gt16.false c.requires.1.0 c.requires.1.1 c.in-Some.ensures

pub returns-in_default : goal.returns-in_default
returns-in_default c =
    at_rest_or_deinstantiated_no_run c.requires.0 (placed (goal.at.returns-in_default c).In_ok-count) c.slot_part-part.ensures c.in_default.ensures c.requires.1.1 c.deinstantiate_underfull-in_default.ensures

pub returns : goal.returns
returns c =
    formed_then c.requires.0 (placed (goal.at.returns c).In_ok-count) c.slot_part-part.ensures c.in-Some.ensures c.regroup.ensures
