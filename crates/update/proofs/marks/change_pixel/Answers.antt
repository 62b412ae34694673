-- `update::marks::change_pixel` meets its contract: nothing is written before every refusal is decided, and what goes up is the set with one pixel more or less.
use native.Mathlib.Omega.{arith}
use mathlib.Core.Path.{◌≡◌, refl}
use mathlib.Core.Bool.{Bool, true, false, not, beq}
use Rattle.std.proofs.lemmas.Result.{err_from_is_err_and}
use Rattle.pktree.proofs.Absurd.{zero_is_not_one}
use Rattle.update.proofs.ChangeEnds.{Told, never_located, already_so, disallowed, at_most_one, can_renumber, can_propagate, carried_up, stopped}
use Rattle.update.proofs.marks.change_pixel.Goals as goal
use Rattle.update.proofs.marks.change_pixel.Goals.{After-layout_of-layout}

told : (c : After-layout_of-layout) → (let a = c.args in Told a.store.now a.sizes c.layout_of-layout.result a.code a.allowed a.removed a.inserted)
told c = record { can = c.requires; laid = c.layout_of-layout.ensures }

-- the two ways of the test whether the pixel is as the change expects
unlike : (a b : Bool) → not (beq a b) ≡ true → a ≡ not b
unlike true false e = refl
unlike false true e = refl
unlike true true e = zero_is_not_one (cc)
unlike false false e = zero_is_not_one (cc)

alike : (a b : Bool) → not (beq a b) ≡ false → a ≡ b
alike true true e = refl
alike false false e = refl
alike true false e = zero_is_not_one (cc)
alike false true e = zero_is_not_one (cc)

pub returns-in_err-located : goal.returns-in_err-located
returns-in_err-located c =
    let p = err_from_is_err_and c.from_residual.result c.from_residual.ensures.1 in
    rw (p.1, p.2) (never_located (told (goal.at.returns-in_err-located c).After-layout_of-layout) c.in_err-located.ensures)

pub returns-then-located-removed : goal.returns-then-located-removed
returns-then-located-removed c =
    already_so (told (goal.at.returns-then-located-removed c).After-layout_of-layout) c.in_ok-located.ensures (unlike _ _ c.if-located-removed.true)

pub returns-then-not-allowed : goal.returns-then-not-allowed
returns-then-not-allowed c =
    disallowed (told (goal.at.returns-then-not-allowed c).After-layout_of-layout) c.in_ok-located.ensures (alike _ _ c.if-located-removed.false) (c.if-not-allowed.true)

pub renumber_path-requires : goal.renumber_path-requires
renumber_path-requires c =
    let u = told (goal.at.renumber_path-requires c).After-layout_of-layout in
    let few = at_most_one u in
    can_renumber u c.in_ok-located.ensures (omega (arith, few)) (omega (arith, few))

pub propagate-requires : goal.propagate-requires
propagate-requires c = can_propagate (told (goal.at.propagate-requires c).After-layout_of-layout) c.in_ok-located.ensures c.wide.ensures c.renumber_path.ensures

pub returns-in_err-propagate : goal.returns-in_err-propagate
returns-in_err-propagate c =
    let p = err_from_is_err_and c.from_residual-in_err-propagate.result c.from_residual-in_err-propagate.ensures.1 in
    rw (p.1, p.2)
    (stopped (told (goal.at.returns-in_err-propagate c).After-layout_of-layout) c.in_ok-located.ensures c.wide.ensures c.renumber_path.ensures
    (alike _ _ c.if-located-removed.false) (c.if-not-allowed.false) c.propagate.ensures c.in_err-propagate.was)

pub returns : goal.returns
returns c =
    carried_up (told (goal.at.returns c).After-layout_of-layout) c.in_ok-located.ensures c.wide.ensures c.renumber_path.ensures
    (alike _ _ c.if-located-removed.false) (c.if-not-allowed.false) c.propagate.ensures
