-- A usable store has valid sizes, stays usable where words 0 to 3 and the length stay, and its slots lie within it.
use Prim.Native.Nat.{ℕ, ◌≤◌, ◌<◌}
use native.Mathlib.Omega.{arith}
use mathlib.Core.Path.{◌≡◌, ap, sym, ◌∙◌, subst}
use mathlib.Core.List.{List}
use lib.ListN.{length, take}
use Rattle.measures.specs.declared.sizes.Sizes.{Sizes}
use Rattle.measures.specs.declared.sizes.Layout.{Layout}
use Rattle.measures.specs.Sizes.{sizes_of, store_words, ValidSizes, UsableStore}
use Rattle.measures.specs.Layout.{layout_of, store_end, widest_slot, LaidOut, LayoutFits}
use Rattle.measures.specs.Slot.{slot_part, slot_head, Within}
use Rattle.measures.proofs.Bounds.{slot_ends}
use Rattle.measures.proofs.SlotWrites.{word_in_front, slot_length}

-- refusal 3 judges the sizes
pub sizes_valid : {words : List ℕ} {sizes : Sizes} → UsableStore words → sizes ≡ sizes_of words → ValidSizes sizes
sizes_valid usable said = rw said usable.valid

-- the sizes are words 1 to 3
pub sizes_kept : (before after : List ℕ) → take 4 after ≡ take 4 before → sizes_of after ≡ sizes_of before
sizes_kept before after e =
    rw (word_in_front 4 1 before after (omega arith) e, word_in_front 4 2 before after (omega arith) e, word_in_front 4 3 before after (omega arith) e)

-- refusal 3 asks for words 0 to 3 and the length only
pub usable_kept : (before after : List ℕ) → take 4 after ≡ take 4 before → length after ≡ length before → UsableStore before → UsableStore after
usable_kept before after e long u =
    let s = sizes_kept before after e in
    record {
      long = rw long u.long;
      mark = rw (word_in_front 4 0 before after (omega arith) e) u.mark;
      valid = rw s u.valid;
      enough = subst (λ (z : Sizes). store_words z ≤ length after) (sym s) (rw long u.enough);
    }

-- the layout is the one that the store's own words say
pub layout_said : (words : List ℕ) {sizes : Sizes} {layout : Layout} → sizes ≡ sizes_of words → LaidOut sizes layout → layout ≡ layout_of (sizes_of words)
layout_said words said laid = laid.is ∙ ap layout_of said

-- the formula's words are there
pub layout_fits : (sizes : Sizes) (layout : Layout) (words : List ℕ) → UsableStore words → sizes ≡ sizes_of words → LaidOut sizes layout
    → LayoutFits layout words
layout_fits sizes layout words u e l =
    record { within = l.within; lies = subst (λ (z : Layout). store_end z ≤ length words) (sym (layout_said words e l)) u.enough }

-- a slot ends before the last one does
pub slot_within : (layout : Layout) (slot : ℕ) (words : List ℕ) → LayoutFits layout words → slot < layout.slots → Within layout.width words slot
slot_within layout slot words f h = omega (arith, f.lies, slot_ends slot layout.slots layout.width h)

-- and is as long as the layout says
pub slot_long : (layout : Layout) (words : List ℕ) (slot : ℕ) → LayoutFits layout words → slot < layout.slots
    → length (slot_part layout.width words slot) ≡ layout.width
slot_long layout words slot fits below = slot_length layout.width slot words (slot_within layout slot words fits below)

-- which the limits of k and N bound
pub part_has_head : {layout : Layout} {words part : List ℕ} {slot : ℕ} → LayoutFits layout words → slot < layout.slots → part ≡ slot_part layout.width words slot
    → slot_head ≤ length part
part_has_head {layout} {words} {slot = slot} fits below e = omega (arith, ap length e, slot_long layout words slot fits below, fits.within.width_from)

pub part_narrow : {layout : Layout} {words part : List ℕ} {slot : ℕ} → LayoutFits layout words → slot < layout.slots → part ≡ slot_part layout.width words slot
    → length part ≤ widest_slot
part_narrow {layout} {words} {slot = slot} fits below e = omega (arith, ap length e, slot_long layout words slot fits below, fits.within.width_to)

pub part_length : {layout : Layout} {words part : List ℕ} {slot : ℕ} → LayoutFits layout words → slot < layout.slots → part ≡ slot_part layout.width words slot
    → (slot_head ≤ length part) × (length part ≤ widest_slot)
part_length fits below e = (part_has_head fits below e, part_narrow fits below e)
