-- What opening one more block finds, where so many were opened before.
use Rattle.std.specs.Prelude.{ℕ, ◌<◌, List, Result, Ok, Err}
use Rattle.measures.specs.declared.sizes.Layout.{Layout}
use Rattle.store.specs.Opening.{CannotOpen}
use Rattle.store.specs.declared.Damaged.{Damaged}
use Rattle.walks.specs.Entered.{SlotEntered}

-- the slot is entered, and there are more slots than blocks were opened
pub record NextEntered (layout : Layout) (words : List ℕ) (above slot level code opened count : ℕ) : Type 0 where
  pub slot_entered : SlotEntered layout words above slot level code count
  pub room : opened < layout.slots

-- or as many blocks were opened as there are slots, or the block cannot be opened: on damaged words
pub record NextBarred (layout : Layout) (words : List ℕ) (above slot level code opened : ℕ) : Type 0 where
  pub barred : opened < layout.slots → slot < layout.slots → level < above → CannotOpen layout.width words slot level code

abbrev pub NextCase : Layout → List ℕ → ℕ → ℕ → ℕ → ℕ → ℕ → Result ℕ Damaged → Type 0
NextCase layout words above slot level code opened (Ok count) = NextEntered layout words above slot level code opened count
NextCase layout words above slot level code opened (Err _) = NextBarred layout words above slot level code opened

pub record OpenedNext (layout : Layout) (words : List ℕ) (above slot level code opened : ℕ) (r : Result ℕ Damaged) : Type 0 where
  pub case : NextCase layout words above slot level code opened r
