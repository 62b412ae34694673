-- A slot lent for writing, `&mut store[at..at + width]`: what its writer says of the part that it was lent, the slot says when it comes back.
use Prim.Native.Nat.{ℕ, ◌+◌, ◌-◌, ◌<◌}
use mathlib.Core.Path.{◌≡◌}
use mathlib.Core.List.{List}
use lib.ListN.{length, take, drop}
use lib.Seq.{paste}
use borrow.Rule.Slice.PartMut.{put_mid}
use Rattle.measures.specs.declared.sizes.Layout.{Layout}
use Rattle.measures.specs.Layout.{LayoutFits, SlotOffset}
use Rattle.measures.specs.Slot.{slot_part, slot_head}
use Rattle.measures.proofs.SlotWrites.{SlotWritten, lent_part, slot_given_back}
use Rattle.measures.proofs.Usable.{slot_within}
use Rattle.elements.specs.Splice.{Spliced, with_header}
use Rattle.rewrite.specs.Rewrite.{SplicedSlot}

module _ {layout : Layout} {words : List ℕ} {slot at : ℕ} (part : List ℕ) (fits : LayoutFits layout words) (below : slot < layout.slots) (o : SlotOffset layout slot at)
    (long : length part ≡ length (take (at + layout.width - at) (drop at words))) where
  -- the part that is lent is the slot
  lent : take (at + layout.width - at) (drop at words) ≡ slot_part layout.width words slot
  lent = lent_part layout.width slot at words o.is

  -- and the slot is what comes back
  back : SlotWritten layout.width slot words part (put_mid at (at + layout.width - at) words part)
  back = slot_given_back layout.width slot at words part o.is (slot_within layout slot words fits below) long

  pub headed_back : (level code count number : ℕ) → part ≡ with_header (take (at + layout.width - at) (drop at words)) level code count number
      → SlotWritten layout.width slot words (with_header (slot_part layout.width words slot) level code count number) (put_mid at (at + layout.width - at) words part)
  headed_back level code count number e = record { self = rw (back.self, ← lent) e; only = back.only }

  pub laid_back : (source : List ℕ) (n : ℕ) → part ≡ paste (take (at + layout.width - at) (drop at words)) slot_head source n
      → SlotWritten layout.width slot words (paste (slot_part layout.width words slot) slot_head source n) (put_mid at (at + layout.width - at) words part)
  laid_back source n e = record { self = rw (back.self, ← lent) e; only = back.only }

  pub spliced_back : {source : List ℕ} {place removed inserted : ℕ} → Spliced (take (at + layout.width - at) (drop at words)) source place removed inserted part
      → SplicedSlot layout.width slot place removed inserted source words (put_mid at (at + layout.width - at) words part)
  spliced_back s = record { spliced = rw (back.self, ← lent) s; only = back.only }
