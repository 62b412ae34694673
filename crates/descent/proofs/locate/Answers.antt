-- `descent::locate` meets its contract. The loop's invariant is Descended: each turn steps down to a block that holds the code, or ends. The measure is the level.
use Prim.Native.Nat.{ℕ}
use native.Mathlib.Omega.{arith}
use mathlib.Core.Path.{◌≡◌}
use mathlib.Core.Bool.{Bool}
use mathlib.Core.List.{List}
use Rattle.std.proofs.lemmas.Result.{err_from_is_err_and}
use Rattle.measures.specs.Slot.{slot_part}
use Rattle.store.specs.Opening.{HeaderSays}
use Rattle.descent.specs.Located.{CanEnter, InnerBlock}
use Rattle.measures.proofs.Usable.{slot_long}
use Rattle.descent.proofs.Descending.{at_root, never_at_pixel, never_closed, few_elements, found_here, never_barred, steps_down}
use Rattle.descent.proofs.locate.Goals as goal
use Rattle.descent.proofs.locate.Goals.{After-can_enter, After-part-part, At-loop-block, In_ok-count, In-Inner}

-- the words of the block that was reached
abbrev part_of : At-loop-block → List ℕ
part_of c = slot_part c.args.store.now.layout.width c.args.store.now.words.now c.loop-block.block.slot

part_is : (c : After-part-part) → c.part-part.result.now ≡ part_of (goal.at.After-part-part c).At-loop-block
part_is c = rw (← c.wide.ensures) c.part-part.ensures

header : (c : In_ok-count) → HeaderSays (part_of (goal.at.In_ok-count c).At-loop-block) c.loop-block.block.level c.loop-block.block.code c.in_ok-count.count
header c = rw (part_is (goal.at.In_ok-count c).After-part-part) at c.in_ok-count.ensures

inner : (c : In-Inner)
    → InnerBlock (part_of (goal.at.In-Inner c).At-loop-block) c.in_ok-count.count c.args.code c.in-Inner.place c.in-Inner.inner.slot c.in-Inner.inner.level c.in-Inner.inner.code
inner c = rw (part_is (goal.at.In-Inner c).After-part-part) at c.in-Inner.ensures

-- what the test of the inner block says
entering : (c : After-can_enter) {r : Bool} → c.can_enter.result ≡ r → CanEnter c.args.store.now.layout c.loop-block.block.level c.in-Inner.inner.slot c.in-Inner.inner.level r
entering c e = rw e at c.can_enter.ensures

pub loop-block-init : goal.loop-block-init
loop-block-init c = at_root _ _ _ _ _ c.args.store.now.fits (omega arith)

pub open_part-requires : goal.open_part-requires
open_part-requires c =
    let fits = c.args.store.now.fits in
    rw (part_is c) (omega (arith, slot_long _ _ _ fits c.loop-block.invariant.slot_below, fits.within.width_from, fits.within.width_to))

pub returns-in_err-count : goal.returns-in_err-count
returns-in_err-count c =
    let p = err_from_is_err_and c.from_residual.result c.from_residual.ensures.1 in
    let closed = rw (part_is (goal.at.returns-in_err-count c).After-part-part) at c.in_err-count.ensures in
    rw p.1 (never_closed c.args.store.now.fits c.loop-block.invariant closed)

pub look-requires : goal.look-requires
look-requires c = rw (part_is (goal.at.look-requires c).After-part-part) ((header c).laid, few_elements c.args.store.now.fits c.loop-block.invariant (header c))

pub returns-in-Here : goal.returns-in-Here
returns-in-Here c =
    found_here c.args.store.now.fits c.loop-block.invariant (header (goal.at.returns-in-Here c).In_ok-count) c.in-Here.place c.in-Here.marked c.loop-block-test.true
    (rw (part_is (goal.at.returns-in-Here c).After-part-part) at c.in-Here.ensures)

pub returns-then-not-can_enter : goal.returns-then-not-can_enter
returns-then-not-can_enter c =
    never_barred c.args.store.now.fits c.loop-block.invariant (header (goal.at.returns-then-not-can_enter c).In_ok-count)
    (inner (goal.at.returns-then-not-can_enter c).In-Inner) (entering (goal.at.returns-then-not-can_enter c).After-can_enter (c.if-not-can_enter.true))

pub loop-block-preserved : goal.loop-block-preserved
loop-block-preserved c =
    let lower = entering (goal.at.loop-block-preserved c).After-can_enter (c.if-not-can_enter.false) in
    steps_down c.args.store.now.fits c.loop-block.invariant (header (goal.at.loop-block-preserved c).In_ok-count) (inner (goal.at.loop-block-preserved c).In-Inner) c.requires lower.0 lower.1

pub returns : goal.returns
returns c = never_at_pixel c.args.store.now.fits c.loop-block.invariant c.loop-block-test.false
