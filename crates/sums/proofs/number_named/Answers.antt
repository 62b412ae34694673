-- `sums::number_named` meets its contract: its tests are those of `number_said`.
use Prim.Native.Nat.{ℕ, ◌+◌}
use native.Mathlib.Omega.{arith}
use mathlib.Core.Path.{◌≡◌, refl, sym, ◌∙◌}
use lib.ListN.{get_or}
use Rattle.measures.specs.Slot.{slot_part, number_word, number_index}
use Rattle.measures.proofs.SlotWrites.{slot_word}
use Rattle.sums.proofs.ElementNumbers.{said_too_many, said, named_slot}
use Rattle.sums.proofs.number_named.Goals as goal
use Rattle.sums.proofs.number_named.Goals.{After-offset-at}

-- the word that is read is the number of the slot
slot_number : (c : After-offset-at) (i : ℕ) → i ≡ c.offset-at.result + number_index
    → (let a = c.args in
    number_word (slot_part a.layout.width a.store.now c.wide-slot.result) ≡ get_or a.store.now i 0)
slot_number c i e =
    let a = c.args in
    slot_word a.layout.width _ a.store.now i number_index (omega (arith, c.offset-at.ensures.is)) (omega (arith, c.requires.within.width_from))

pub returns-then-number-gt-LARGEST_MOST : goal.returns-then-number-gt-LARGEST_MOST
returns-then-number-gt-LARGEST_MOST c =
    let a = c.args in
    let n = slot_number (goal.at.returns-then-number-gt-LARGEST_MOST c).After-offset-at _ refl in (
      sym (named_slot a.layout a.store.now a.tag (omega arith)
          ∙ said_too_many a.layout a.store.now _ (omega (arith, c.wide-slot.ensures)) (rw (← c.wide-slot.ensures) (omega (arith, n)))),
      omega arith,
    )

pub returns : goal.returns
returns c =
    let a = c.args in
    let n = slot_number (goal.at.returns c).After-offset-at _ refl in (
      sym (named_slot a.layout a.store.now a.tag (omega arith)
          ∙ said a.layout a.store.now _ (omega (arith, c.wide-slot.ensures)) (rw (← c.wide-slot.ensures) (omega (arith, n))) ∙ rw (← c.wide-slot.ensures) n),
      omega arith,
    )
