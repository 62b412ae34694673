-- `step::put` meets its contract: the tests are those of a splice that can be done, and `splice_slot` does it.
use native.Mathlib.Omega.{arith}
use Prim.Native.Nat.{ℕ, ◌+◌, ◌-◌, ◌/◌, ◌≤◌}
use mathlib.Core.Path.{◌≡◌, refl, ap, ◌∙◌}
use Rattle.measures.specs.Slot.{slot_part, count_word}
use Rattle.elements.specs.Splice.{CanSplice}
use Rattle.step.proofs.PutLaws.{count_at, put_can, put_cannot}
use Rattle.step.proofs.put.Goals as goal
use Rattle.step.proofs.put.Goals.{After-splice_slot-arg-1, After-wide-count}

-- the number of elements that was read
count_is : (c : After-wide-count) → (let a = c.args in c.wide-count.result ≡ count_word (slot_part a.layout.width a.store.now a.slot))
count_is c = let p = c.requires in c.wide-count.ensures ∙ count_at p.fits p.slot_below c.offset-at.ensures

-- a splice that can be done passes the tests
passes : (c : After-wide-count) → (let a = c.args in
    let room = (a.layout.width - 8) / 2 in
    CanSplice (slot_part a.layout.width a.store.now a.slot) a.scratch.now a.place a.removed a.inserted
    → (c.wide-count.result ≤ room) × (a.place + a.removed ≤ c.wide-count.result) × (c.wide-count.result - a.removed + a.inserted ≤ room))
passes c = let p = c.requires in put_cannot p.fits p.slot_below c.offset-at.ensures (count_is c)

-- the tests passed, a splice can be done
can : (c : After-splice_slot-arg-1) → (let a = c.args in CanSplice (slot_part a.layout.width a.store.now a.slot) a.scratch.now a.place a.removed a.inserted)
can c =
    let p = c.requires in
    put_can p.fits p.slot_below c.offset-at.ensures (count_is (goal.at.After-splice_slot-arg-1 c).After-wide-count) (omega (arith, c.if-room-count.false))
    (omega (arith, c.if-count-place.false)) (omega (arith, c.if-room-after.false)) (omega (arith, p.room, p.inserted_to))

pub splice_slot-requires-clause-can_splice : goal.splice_slot-requires-clause-can_splice
splice_slot-requires-clause-can_splice c = can (goal.at.splice_slot-requires-clause-can_splice c).After-splice_slot-arg-1

pub returns : goal.returns
returns c =
    let a = c.args in
    (ap (λ (n : ℕ). n - a.removed + a.inserted) (count_is (goal.at.returns c).After-wide-count), can (goal.at.returns c).After-splice_slot-arg-1, c.splice_slot.ensures)

pub returns-then-room-count : goal.returns-then-room-count
returns-then-room-count c = (refl, λ can. omega (arith, c.if-room-count.true, passes (goal.at.returns-then-room-count c).After-wide-count can))

pub returns-then-count-place : goal.returns-then-count-place
returns-then-count-place c = (refl, λ can. omega (arith, c.if-count-place.true, passes (goal.at.returns-then-count-place c).After-wide-count can))

pub returns-then-room-after : goal.returns-then-room-after
returns-then-room-after c = (refl, λ can. omega (arith, c.if-room-after.true, passes (goal.at.returns-then-room-after c).After-wide-count can))
