-- The slots that are available: a chain from word 7, each naming the next in its word 3, FFFFFFFF at the end. A free slot has level 0.
use Rattle.std.specs.Prelude.{ℕ, zero, suc, ◌+◌, ◌-◌, ◌*◌, ◌<◌, ◌≡◌, List, [], ◌∷◌, eqb, length, take, drop, set, Option, Some, None}
use Rattle.pktree.specs.Lists.{Every, select}
use Rattle.measures.specs.Words.{head_words, blocks_word, blocks_index, first_free_word, first_free_index}
use Rattle.measures.specs.declared.sizes.Layout.{Layout}
use Rattle.measures.specs.Layout.{store_end}
use Rattle.measures.specs.Slot.{slot_part, level_word, next_word}

abbrev pub no_slot : ℕ
no_slot = 0xFFFFFFFF

-- `free` is the chain that starts at `first`
abbrev pub FreeChain : ℕ → List ℕ → ℕ → List ℕ → Type 0
FreeChain width words first [] = first ≡ no_slot
FreeChain width words first (s ∷ free) =
    (first ≡ s) × (level_word (slot_part width words s) ≡ 0) × FreeChain width words (next_word (slot_part width words s)) free

abbrev pub FreeSlots : ℕ → List ℕ → List ℕ → Type 0
FreeSlots width words free = FreeChain width words (first_free_word words) free

-- how often a slot is in a list
abbrev pub occurrences : ℕ → List ℕ → ℕ
occurrences slot l = length (select (λ s. eqb s slot) l)

-- what taking the first free slot does: word 7 names the next, and word 6 counts one block more; or word 7 names no free slot or word 6 as
-- many blocks as there are slots, and nothing changed
abbrev pub TookFree : Layout → List ℕ → List ℕ → Option ℕ → Type 0
TookFree layout before after (Some s) =
    (s ≡ first_free_word before) × (s < layout.slots) × (level_word (slot_part layout.width before s) ≡ 0) × (blocks_word before < layout.slots)
    × (after ≡ set (set before first_free_index (next_word (slot_part layout.width before s))) blocks_index (blocks_word before + 1))
TookFree layout before after None =
    (after ≡ before)
    × (first_free_word before < layout.slots → level_word (slot_part layout.width before (first_free_word before)) ≡ 0 → blocks_word before < layout.slots → ⊥)

-- a slot put before the chain: word 7 and words 0 and 3 of the slot changed, and so many blocks are held then
pub record Released (width slot held : ℕ) (before after : List ℕ) : Type 0 where
  pub long : length after ≡ length before
  pub head : take head_words after ≡ set (set (take head_words before) first_free_index slot) blocks_index held
  pub others : (other : ℕ) → (other ≡ slot → ⊥) → slot_part width after other ≡ slot_part width before other
  pub freed : level_word (slot_part width after slot) ≡ 0
  pub chain : (free : List ℕ) → Every (λ s. s ≡ slot → ⊥) free → FreeSlots width before free → FreeSlots width after (slot ∷ free)
  pub past : (n : ℕ) → slot < n → drop (head_words + n * width) after ≡ drop (head_words + n * width) before

-- n numbers from `first` on
abbrev pub numbers_from : ℕ → ℕ → List ℕ
numbers_from first zero = []
numbers_from first (suc n) = first ∷ numbers_from (suc first) n

-- the slots from `first` on are free and the others counted as blocks; those and words 0 to 5 are as they were
pub record FreeFrom (layout : Layout) (first : ℕ) (before after : List ℕ) : Type 0 where
  pub long : length after ≡ length before
  pub head : take blocks_index after ≡ take blocks_index before
  pub kept : (s : ℕ) → s < first → slot_part layout.width after s ≡ slot_part layout.width before s
  pub counted : blocks_word after ≡ first
  pub chain : FreeSlots layout.width after (numbers_from first (layout.slots - first))
  pub past : drop (store_end layout) after ≡ drop (store_end layout) before
