-- A slot written anew: what it says when its elements are copied, its header is written and it comes back as a part of the store.
use Prim.Native.Nat.{ℕ, ◌+◌, ◌-◌, ◌*◌, ◌/◌, ◌%◌, ◌≤◌}
use native.Mathlib.Omega.{arith}
use mathlib.Core.Path.{◌≡◌, subst}
use mathlib.Core.List.{List}
use lib.ListN.{length, take, drop}
use lib.Seq.{paste}
use Rattle.std.proofs.lemmas.List.{take_all}
use borrow.Rule.Slice.PartMut.{put_mid}
use Rattle.measures.specs.declared.sizes.Layout.{Layout}
use Rattle.measures.specs.Layout.{SlotOffset}
use Rattle.measures.specs.Slot.{slot_head}
use Rattle.measures.proofs.SlotWrites.{slot_given_back}
use Rattle.measures.proofs.Usable.{slot_within}
use Rattle.elements.specs.Splice.{with_header}
use Rattle.rewrite.specs.Rewrite.{SlotNow}
use Rattle.rewrite.proofs.SlotNows.{slot_wrote}
use Rattle.laying.specs.Blocks.{LayDue, PartLaid, BlockLaid}

pub part_laid : (part elements laid after : List ℕ) (level code count number : ℕ) → after ≡ with_header laid level code count number → laid ≡ paste part slot_head elements (length elements)
    → count ≡ length elements / 2 → slot_head + length elements ≤ length part → length elements % 2 ≡ 0 → PartLaid after level code number elements
part_laid part elements laid after level code count number headed copied counted room pairs =
    let n : length elements ≡ 2 * count = omega arith in
    let copied' : laid ≡ paste part slot_head elements (2 * count) = subst (λ (m : ℕ). laid ≡ paste part slot_head elements m) n copied in
    let all : take (2 * count) elements ≡ elements = take_all (2 * count) elements (omega arith) in
    let wrote = slot_wrote part elements level code count number (omega arith) (omega arith) in
    let says = subst (λ (e : List ℕ). SlotNow (with_header (paste part slot_head elements (2 * count)) level code count number) level code e) all wrote.0 in
    rw (headed, copied') (record { says = says; number_is = wrote.1 })

-- the part that is lent and comes back is the slot
pub block_laid : {layout : Layout} {words elements : List ℕ} {slot at level code number : ℕ} (part : List ℕ) → LayDue layout words slot elements → SlotOffset layout slot at
    → length part ≡ length (take (at + layout.width - at) (drop at words)) → PartLaid part level code number elements
    → BlockLaid layout.width slot level code number elements words (put_mid at (at + layout.width - at) words part)
block_laid {layout} {words} {slot = slot} {at = at} part due offset long laid =
    let back = slot_given_back layout.width slot at words part offset.is (slot_within layout slot words due.fits due.slot_below) long in
    record { says = rw back.self laid.says; number_is = rw back.self laid.number_is; only = back.only }
