-- The slot of a block, opened: when what it says of itself is right, and how many elements it may have.
use Prim.Native.Nat.{ℕ, ◌≤◌, ◌<◌}
use native.Mathlib.Omega.{arith}
use mathlib.Core.Path.{◌≡◌, refl, subst₂}
use mathlib.Core.List.{List}
use lib.ListN.{length}
use Rattle.measures.specs.declared.sizes.Layout.{Layout}
use Rattle.measures.specs.Layout.{LayoutFits, most_elements}
use Rattle.measures.specs.Slot.{slot_part, count_word, slot_head}
use Rattle.measures.proofs.Usable.{part_length}
use Rattle.store.specs.declared.Damaged.{Damaged}
use Rattle.std.specs.Prelude.{Result, Ok, Err}
use Rattle.store.specs.Opening.{HeaderSays, CannotOpen, Opened, damaged}
use Rattle.store.specs.Placed.{Placed}
use Rattle.store.proofs.Standing.{SlotSays}
use Rattle.store.proofs.BlockView.{BlockView, elements_lie}

-- what opening the slot found: it says what its parent says of it, or not
pub record SlotOpened (width : ℕ) (words : List ℕ) (slot level code count : ℕ) : Type 0 where
  pub header : HeaderSays (slot_part width words slot) level code count

pub record SlotShut (width : ℕ) (words : List ℕ) (slot level code : ℕ) : Type 0 where
  pub shut : CannotOpen width words slot level code

module _ {width : ℕ} {words : List ℕ} {slot level code : ℕ} {part : List ℕ} {o : Result ℕ Damaged} (e : part ≡ slot_part width words slot) (said : Opened part level code o) where
  pub slot_opened : {count : ℕ} → o ≡ Ok count → SlotOpened width words slot level code count
  slot_opened f = record { header = subst₂ (λ (p : List ℕ) (r : Result ℕ Damaged). Opened p level code r) e f said }

  pub slot_shut : o ≡ damaged → SlotShut width words slot level code
  slot_shut f = record { shut = subst₂ (λ (p : List ℕ) (r : Result ℕ Damaged). Opened p level code r) e f said }

pub opened_not_shut : {width : ℕ} {words : List ℕ} {slot level code count : ℕ} → SlotOpened width words slot level code count → CannotOpen width words slot level code → ⊥
opened_not_shut o shut = shut (rw o.header.count_is o.header)

-- so few elements lie in a slot that their number does not matter to a word
pub few_elements : {layout : Layout} {words : List ℕ} {slot level code count : ℕ} → LayoutFits layout words → slot < layout.slots
    → HeaderSays (slot_part layout.width words slot) level code count → count ≤ most_elements
few_elements fits below header = omega (arith, header.laid, (part_length fits below refl).1)

-- a slot in which elements stand has a header that says so
pub header_of_standing : {part : List ℕ} {level code : ℕ} {es : Placed} → slot_head ≤ length part → SlotSays part level code es → HeaderSays part level code (count_word part)
header_of_standing {part} {level} {code} {es} long says =
    record {
      level_is = says.level_is;
      code_is = says.code_is;
      count_is = refl;
      laid = omega (arith, elements_lie part level code es says long, says.count_is);
    }

-- a block of a sound store is not shut
pub view_opens : {layout : Layout} {words : List ℕ} {k slot level code : ℕ} {es : Placed} → LayoutFits layout words
    → BlockView k layout.width layout.slots words slot level code es → SlotShut layout.width words slot level code → ⊥
view_opens fits view s = s.shut (header_of_standing (part_length fits view.slot_below refl).0 view.says)
