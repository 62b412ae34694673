-- What following the chain of free slots finds.
use Rattle.std.specs.Prelude.{ℕ, ◌≤◌, ◌<◌, ◌≡◌, List, length, Result, Ok, Err}
use Rattle.pktree.specs.Lists.{Every}
use Rattle.measures.specs.declared.sizes.Layout.{Layout}
use Rattle.freeslots.specs.FreeSlots.{FreeSlots}
use Rattle.store.specs.declared.Damaged.{Damaged}

-- the chain of free slots, of slots that there are
pub record ChainOf (layout : Layout) (words free : List ℕ) : Type 0 where
  pub chain : FreeSlots layout.width words free
  pub inside : Every (λ s. s < layout.slots) free

pub record ChainEnds (layout : Layout) (words : List ℕ) (count : ℕ) : Type 0 where
  pub free : List ℕ
  pub is : ChainOf layout words free
  pub many : length free ≡ count
  pub few : count ≤ layout.slots

-- it has no end among as many slots as there are
pub record NoEnd (layout : Layout) (words : List ℕ) : Type 0 where
  pub none : (free : List ℕ) → ChainOf layout words free → length free ≤ layout.slots → ⊥

-- the number of its slots, or it has no end
abbrev pub ChainMeets : Layout → List ℕ → Result ℕ Damaged → Type 0
ChainMeets layout words (Ok count) = ChainEnds layout words count
ChainMeets layout words (Err _) = NoEnd layout words
