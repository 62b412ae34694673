-- A block of a sound store whose slot is opened: its words, the number of its elements, and the elements.
use Rattle.std.specs.Prelude.{ℕ, ◌≡◌, List}
use Rattle.measures.specs.Slot.{slot_part}
use Rattle.store.specs.Placed.{Placed}
use Rattle.store.proofs.BlockView.{BlockView}
use Rattle.store.proofs.OpenedSlot.{SlotOpened}

pub record Shown (width slots : ℕ) (words part : List ℕ) (count level : ℕ) (es : Placed) : Type 0 where
  pub k : ℕ
  pub slot : ℕ
  pub code : ℕ
  pub part_is : part ≡ slot_part width words slot
  pub opened : SlotOpened width words slot level code count
  pub view : BlockView k width slots words slot level code es
