-- What `put` finds in a slot's words.
use Prim.Native.Nat.{ℕ, ◌+◌, ◌-◌, ◌*◌, ◌/◌, ◌≤◌, ◌<◌}
use native.Mathlib.Omega.{arith}
use mathlib.Core.Path.{◌≡◌, sym}
use mathlib.Core.List.{List}
use lib.ListN.{length, get_or}
use Rattle.measures.specs.declared.sizes.Layout.{Layout}
use Rattle.measures.specs.Layout.{LayoutFits, SlotOffset}
use Rattle.measures.specs.Slot.{slot_part, count_word}
use Rattle.elements.specs.Splice.{CanSplice}
use Rattle.measures.proofs.SlotWrites.{slot_word}
use Rattle.measures.proofs.Usable.{slot_long}

module _ {layout : Layout} {words : List ℕ} {slot at : ℕ} (fits : LayoutFits layout words) (below : slot < layout.slots) (o : SlotOffset layout slot at) where
  -- the number of elements, read in the store
  pub count_at : get_or words (at + 2) 0 ≡ count_word (slot_part layout.width words slot)
  count_at = sym (slot_word layout.width slot words (at + 2) 2 (omega (arith, o.is)) (omega (arith, fits.within.width_from)))

  -- the three tests are those of a splice that can be done
  module _ {count place removed inserted : ℕ} {scratch : List ℕ} (e : count ≡ count_word (slot_part layout.width words slot)) where
    pub put_can : count ≤ (layout.width - 8) / 2 → place + removed ≤ count → count - removed + inserted ≤ (layout.width - 8) / 2 → 2 * inserted ≤ length scratch
        → CanSplice (slot_part layout.width words slot) scratch place removed inserted
    put_can a b c d =
        let long = slot_long layout words slot fits below in
        record {
          short = omega (arith, fits.within.width_to);
          laid = omega (arith, fits.within.width_from);
          cut = omega arith;
          room = omega (arith, fits.within.width_from);
          source_long = d;
        }

    pub put_cannot : CanSplice (slot_part layout.width words slot) scratch place removed inserted
        → (count ≤ (layout.width - 8) / 2) × (place + removed ≤ count) × (count - removed + inserted ≤ (layout.width - 8) / 2)
    put_cannot can =
        let long = slot_long layout words slot fits below in
        (omega (arith, can.laid), omega (arith, can.cut), omega (arith, can.room))
