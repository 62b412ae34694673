-- `propagate::propagate` meets its contract: each turn leaves the change at rest or pending one block further up, by the laws of Propagation.
use Prim.Native.Nat.{ℕ, ◌-◌}
use native.Mathlib.Omega.{arith}
use mathlib.Core.Path.{◌≡◌, refl, ap, subst, sym, ◌∙◌}
use mathlib.Core.List.{List}
use Rattle.std.specs.Prelude.{Some, None, Result, Ok}
use Rattle.store.specs.declared.Damaged.{Damaged}
use Rattle.descent.specs.declared.Passed.{Passed}
use Rattle.ascent.proofs.Pending.{Setting}
use Rattle.ascent.proofs.Completed.{Completed}
use Rattle.step.specs.Step.{FewHandedUp}
use Rattle.step.proofs.StepEnds.{kept_then}
use Rattle.propagate.specs.Propagate.{ParentIs, PendingAt, OfChange, PropagateMeets}
use Rattle.propagate.proofs.Propagation.{fits_kept, rests, never_damaged, moves_up, never_unnamed}
use Rattle.propagate.proofs.propagate.Goals as goal
use Rattle.propagate.proofs.propagate.Goals.{After-step, In-Some, In_ok-parent}

-- the slot and the place that are read off the path are those that it names
named : (σ : Setting) {words : List ℕ} {passed : List Passed} {depth removed inserted slot place slot' place' : ℕ} {scratch : List ℕ} → slot ≡ slot' → place ≡ place'
    → PendingAt σ words passed depth slot place removed inserted scratch → PendingAt σ words passed depth slot' place' removed inserted scratch
named σ {words} {passed} {depth} {removed} {inserted} {slot} {place} {slot'} {place'} {scratch} e f p =
    subst (λ (t : ℕ). PendingAt σ words passed depth slot' t removed inserted scratch) f
    (subst (λ (t : ℕ). PendingAt σ words passed depth t place removed inserted scratch) e p)

-- a step from which it follows that the change is at rest ends the loop
ends_by : (c : After-step) {r : Result (Unit {0}) Damaged}
    →
    let v = c.loop-count in
    let a = c.args in
    ((σ : Setting) → OfChange σ a.change → PendingAt σ v.store a.path.now v.depth v.slot v.place v.out v.coming v.scratch
    → (r ≡ Ok tt) × Completed σ c.step.new.store)
    → PropagateMeets a.change a.located a.path.now a.removed a.inserted a.store.now c.step.new.store r
ends_by c right =
    record { kept = kept_then c.loop-count.invariant.1 c.step.ensures.kept; right = λ σ o p. right σ o (c.loop-count.invariant.2 σ o (named σ (sym c.wide-slot.ensures) refl p)) }

-- so many elements go up
up : (c : In-Some) → c.step.result ≡ Ok (Some c.in-Some.count)
up c = c.in_ok-count.was ∙ ap Ok c.in-Some.is

-- what was read off the path
parent : (c : In_ok-parent) → ParentIs c.args.path.now c.loop-count.depth (Some c.in_ok-parent.parent)
parent c = let is : c.parent_of.result ≡ Some c.in_ok-parent.parent = grind arith in rw is at c.parent_of.ensures

pub returns-in_err-count : goal.returns-in_err-count
returns-in_err-count c =
    ends_by (goal.at.returns-in_err-count c).After-step (λ σ o p. absurd (never_damaged c.step.ensures c.in_err-count.was σ o p))

pub returns : goal.returns
returns c =
    let rest : c.step.result ≡ Ok None = c.in_ok-count.was ∙ ap Ok c.in_default.is in
    ends_by (goal.at.returns c).After-step (λ σ o p. (refl, rests c.step.ensures rest σ o p))

pub returns-in_err-parent : goal.returns-in_err-parent
returns-in_err-parent c =
    let none : c.parent_of.result ≡ None = grind arith in
    ends_by (goal.at.returns-in_err-parent c).After-step
    (λ σ o p. absurd (never_unnamed c.step.ensures _ (up (goal.at.returns-in_err-parent c).In-Some) (rw none at c.parent_of.ensures) σ o p))

pub loop-count-preserved : goal.loop-count-preserved
loop-count-preserved c =
    let i = c.loop-count.invariant.0 in
    let up' = up (goal.at.loop-count-preserved c).In-Some in
    let n = parent (goal.at.loop-count-preserved c).In_ok-parent in
    let slot = c.wide-slot-in-Some.ensures ∙ ap (λ (p : Passed). p.slot) n.1 in
    let place = c.wide-place.ensures ∙ ap (λ (p : Passed). p.place) n.1 in (
      record {
        fits = fits_kept c.args.change.layout c.loop-count.store c.step.new.store c.step.ensures.kept i.fits;
        scratch_long = c.step.ensures.scratch_long ∙ i.scratch_long;
        slot_below = omega (arith, n.0, slot, i.path_below (c.loop-count.depth - 1) (omega (arith, n.0)));
        place_to = omega (arith, c.wide-place.ensures, n.2);
        out_to = omega arith;
        coming_to = omega (arith, subst FewHandedUp up' c.step.ensures.bounds);
        deep = omega (arith, i.deep);
        path_below = λ j h. i.path_below j (omega arith);
      },
      kept_then c.loop-count.invariant.1 c.step.ensures.kept,
      λ σ o p. named σ (sym slot) (sym place) (moves_up c.step.ensures _ up' σ o (c.loop-count.invariant.2 σ o p) n.0),
    )
