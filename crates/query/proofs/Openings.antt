-- One more block opened, or none: what a walk learns of it.
use Rattle.std.proofs.Common.{◌≡◌, ℕ, ◌+◌, ◌<◌, List, refl, arith, w32, Fits}
use Rattle.pktree.specs.Elements.{Forest}
use Rattle.pktree.proofs.Absurd.{zero_is_not_one}
use Rattle.measures.specs.Layout.{LayoutFits}
use Rattle.measures.specs.Slot.{slot_part}
use Rattle.measures.specs.declared.sizes.Layout.{Layout}
use Rattle.store.specs.Opening.{CannotOpen, damaged}
use Rattle.store.specs.Placed.{Placed}
use Rattle.store.specs.declared.Damaged.{Damaged}
use Rattle.std.specs.Prelude.{Result, Ok, Err}
use Rattle.store.proofs.BlockView.{BlockView}
use Rattle.store.proofs.OpenedSlot.{view_opens}
use Rattle.walks.specs.Entered.{Entered}
use Rattle.walks.proofs.Walks.{Walk, InLoop, loop_begins}
use Rattle.query.specs.Opened.{NextEntered, NextBarred, OpenedNext}

pub as_entered : {layout : Layout} {words : List ℕ} {above slot level code opened n : ℕ} (r : Result ℕ Damaged) → Entered layout words above slot level code r → n ≡ opened → n < layout.slots
    → OpenedNext layout words above slot level code opened r
as_entered (Ok count) entered is room = record { case = record { slot_entered = entered.entered count refl; room = omega arith } }
as_entered (Err _) entered is room = record { case = record { barred = λ less p q. entered.barred refl p q } }

module _ {layout : Layout} {words : List ℕ} {above slot level code opened : ℕ} {o : Result ℕ Damaged} (next : OpenedNext layout words above slot level code opened o) where
  pub next_entered : {count : ℕ} → o ≡ Ok count → NextEntered layout words above slot level code opened count
  next_entered e = rw e at next.case

  pub next_below : {count : ℕ} → o ≡ Ok count → slot < layout.slots
  next_below e = (next_entered e).slot_entered.slot_below

  -- one more is no more than there are slots
  pub next_fits : {count : ℕ} → o ≡ Ok count → LayoutFits layout words → Fits w32 (opened + 1)
  next_fits e fits = record { fits = omega (arith, (next_entered e).room, fits.within.slots_to) }

  -- the loop over its elements begins
  pub next_begins : {S : Type 0} {W : S → Forest → S → Type 0} {count : ℕ} {part : List ℕ} {s : S} → o ≡ Ok count → part ≡ slot_part layout.width words slot → Walk W
      → InLoop W layout words above slot level code count part 0 s s
  next_begins e p walk = loop_begins e (record { entered = λ n f. (next_entered f).slot_entered; barred = λ f. absurd (zero_is_not_one (cc (e, f))) }) p walk

  -- a block of a sound store is opened, while there is room
  pub never_barred : {k : ℕ} {es : Placed} → o ≡ damaged → LayoutFits layout words → level < above → BlockView k layout.width layout.slots words slot level code es
      → opened < layout.slots → ⊥
  never_barred e fits low view room = view_opens fits view (record { shut = barred (rw e at next.case) room view.slot_below low })
    where
      barred : NextBarred layout words above slot level code opened → opened < layout.slots → slot < layout.slots → level < above → CannotOpen layout.width words slot level code
      barred b = b.barred
