-- What entering the slot of a block finds.
use Rattle.std.specs.Prelude.{ℕ, ◌≤◌, ◌<◌, ◌≡◌, List, Result, Ok}
use Rattle.measures.specs.Layout.{most_elements}
use Rattle.measures.specs.declared.sizes.Layout.{Layout}
use Rattle.measures.specs.Slot.{slot_part}
use Rattle.store.specs.Opening.{HeaderSays, CannotOpen, damaged}
use Rattle.store.specs.declared.Damaged.{Damaged}

-- the slot is one of the slots, its block is lower than the one around it, and it says what its parent says of it
pub record SlotEntered (layout : Layout) (words : List ℕ) (above slot level code count : ℕ) : Type 0 where
  pub slot_below : slot < layout.slots
  pub level_below : level < above
  pub header : HeaderSays (slot_part layout.width words slot) level code count
  pub few : count ≤ most_elements

pub record Entered (layout : Layout) (words : List ℕ) (above slot level code : ℕ) (r : Result ℕ Damaged) : Type 0 where
  pub entered : (count : ℕ) → r ≡ Ok count → SlotEntered layout words above slot level code count
  pub barred : r ≡ damaged → slot < layout.slots → level < above → CannotOpen layout.width words slot level code
