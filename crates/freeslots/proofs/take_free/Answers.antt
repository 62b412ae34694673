-- `freeslots::take_free` meets its contract: the words that it reads, at the slot's offset, are the slot's level and its next free slot.
use Prim.Native.Nat.{ℕ, ◌+◌, ◌<◌}
use native.Mathlib.Omega.{arith}
use mathlib.Core.Path.{◌≡◌, refl, sym, ◌∙◌}
use lib.ListN.{get_or}
use Rattle.measures.specs.Layout.{narrowest_slot}
use Rattle.measures.specs.Words.{first_free_word}
use Rattle.measures.specs.Slot.{slot_part}
use Rattle.measures.proofs.SlotWrites.{slot_word}
use Rattle.freeslots.proofs.take_free.Goals as goal
use Rattle.freeslots.proofs.take_free.Goals.{After-offset-at}

-- a word of the slot that word 7 names
free_word : (c : After-offset-at) (i j : ℕ) → i ≡ c.offset-at.result + j → j < narrowest_slot
    → (let a = c.args in
    get_or (slot_part a.layout.width a.store.now (first_free_word a.store.now)) j 0 ≡ get_or a.store.now i 0)
free_word c i j e h =
    let a = c.args in
    let at = rw c.wide-3.ensures at c.offset-at.ensures.is in
    slot_word a.layout.width (first_free_word a.store.now) a.store.now i j (omega arith) (omega arith)

pub returns-then-store-at-ne0 : goal.returns-then-store-at-ne0
returns-then-store-at-ne0 c = (refl, λ inside free few. c.if-store-at-ne0.true (sym (free_word (goal.at.returns-then-store-at-ne0 c).After-offset-at _ 0 (omega arith) (omega arith)) ∙ free))

pub returns : goal.returns
returns c = (
  refl,
  omega arith,
  free_word (goal.at.returns c).After-offset-at _ 0 (omega arith) (omega arith) ∙ c.if-store-at-ne0.false,
  omega arith,
  rw (free_word (goal.at.returns c).After-offset-at (c.offset-at.result + 3) 3 refl (omega arith)),
)
