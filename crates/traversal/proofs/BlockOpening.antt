-- A block's slot is opened: what stands in it says so in its header.
use Prim.Native.Nat.{ℕ}
use mathlib.Core.Path.{◌≡◌, refl}
use mathlib.Core.List.{List}
use Rattle.measures.specs.Layout.{LayoutFits}
use Rattle.measures.specs.Slot.{slot_part}
use Rattle.measures.proofs.Usable.{part_length}
use Rattle.store.specs.Opening.{Opened, damaged}
use Rattle.store.specs.declared.Damaged.{Damaged}
use Rattle.std.specs.Prelude.{Result}
use Rattle.store.proofs.OpenedSlot.{slot_shut, header_of_standing}
use Rattle.traversal.specs.declared.Claim.{Claim}
use Rattle.traversal.specs.declared.Seen.{Seen}
use Rattle.traversal.specs.Walk.{Limits, CanWalk, NoneClaimed}

module _ {limits : Limits} {words part : List ℕ} {claim : Claim} {seen : Seen} {o : Result ℕ Damaged} (fits : LayoutFits limits.layout words) (can : CanWalk limits claim seen)
    (e : part ≡ slot_part limits.layout.width words claim.block.slot) (said : Opened part claim.block.level claim.block.code o) where
  -- a slot that cannot be opened has no block as claimed
  pub shut : o ≡ damaged → NoneClaimed limits words claim seen
  shut f = record { none = λ es b room. (slot_shut e said f).shut (header_of_standing (part_length fits can.slot_below refl).0 b.says) }
