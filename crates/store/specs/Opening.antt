-- What opening a block's slot finds.
use Rattle.std.specs.Prelude.{ℕ, ◌≤◌, ◌≡◌, List, length, Result, Ok, Err}
use Rattle.store.specs.declared.Damaged.{Damaged}
use Rattle.measures.specs.Sizes.{sizes_of, slot_width}
use Rattle.measures.specs.Slot.{slot_part, level_word, code_word, count_word, element_index}

-- the slot says this level and code, and its elements lie within it
pub record HeaderSays (part : List ℕ) (level code count : ℕ) : Type 0 where
  pub level_is : level_word part ≡ level
  pub code_is : code_word part ≡ code
  pub count_is : count_word part ≡ count
  pub laid : element_index count ≤ length part

-- the block of this slot is not one of this level and code, or its elements do not lie within the slot
abbrev pub CannotOpen : ℕ → List ℕ → ℕ → ℕ → ℕ → Type 0
CannotOpen width words slot level code = HeaderSays (slot_part width words slot) level code (count_word (slot_part width words slot)) → ⊥

-- so the root's slot does not say that it is the root
abbrev pub RootCannotOpen : List ℕ → Type 0
RootCannotOpen words = CannotOpen (slot_width (sizes_of words).k) words 0 (sizes_of words).order 0

-- the answer that the words are damaged
abbrev pub damaged : Result ℕ Damaged
damaged = Err (record {})

-- so many elements, or the words are damaged
abbrev pub Opened : List ℕ → ℕ → ℕ → Result ℕ Damaged → Type 0
Opened part level code (Ok count) = HeaderSays part level code count
Opened part level code (Err _) = HeaderSays part level code (count_word part) → ⊥
