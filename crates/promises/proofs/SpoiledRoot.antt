-- The root of a spoiled store cannot be opened.
use Prim.Native.Nat.{ℕ, ◌*◌, ◌<◌}
use native.Mathlib.Omega.{arith}
use native.Mathlib.Nat.{mul-pos}
use mathlib.Core.Path.{◌≡◌}
use mathlib.Core.List.{List}
use lib.ListN.{get_or}
use Rattle.measures.specs.Sizes.{slot_count, slot_width, UsableStore, sizes_of}
use Rattle.measures.specs.Slot.{slot_part, level_word}
use Rattle.store.specs.Opening.{CannotOpen}
use Rattle.measures.proofs.SlotWrites.{slot_word}
use Rattle.promises.specs.Walk.{Spoiled}

-- a spoiled store's root is no block of the panel
pub spoiled_level : (words : List ℕ) → UsableStore words → Spoiled words → level_word (slot_part (slot_width (sizes_of words).k) words 0) ≡ (sizes_of words).order → ⊥
spoiled_level words usable s level_is =
    let w = slot_width (sizes_of words).k in
    let at : get_or (slot_part w words 0) 0 0 ≡ get_or words 8 0 = slot_word w 0 words 8 0 (omega arith) (omega arith) in
    let some : 0 < slot_count (sizes_of words).k (sizes_of words).most * w = mul-pos (omega arith) (omega arith) in
    let ff : get_or words 8 0 ≡ 0xFFFFFFFF = s 8 (omega arith) (omega (arith, some)) in
    omega (arith, at, ff, level_is, usable.valid.panel.order_to)

pub spoiled_shut : (words : List ℕ) → UsableStore words → Spoiled words → CannotOpen (slot_width (sizes_of words).k) words 0 (sizes_of words).order 0
spoiled_shut words usable s says = spoiled_level words usable s says.level_is
