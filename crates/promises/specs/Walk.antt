-- 01 "Whoever damaged the words": what the seven calls that walk the slots say where no check before the walk refuses them.
use Rattle.std.specs.Prelude.{ℕ, ◌≤◌, ◌<◌, ◌≡◌, ◌⊎◌, List, get_or}
use Rattle.measures.specs.Sizes.{store_words, sizes_of}
use Rattle.store.specs.Sound.{Holds}
use Rattle.promises.specs.Answer.{none, refused, block_told}
use Rattle.promises.specs.Effect.{Effect}

-- 01: words 0 to 3 right and all others FFFFFFFF hexadecimal; words past the formula may be anything
abbrev pub Spoiled : List ℕ → Type 0
Spoiled words = (i : ℕ) → 4 ≤ i → i < store_words (sizes_of words) → get_or words i 0 ≡ 0xFFFFFFFF

-- accepted, with two values of at most so much
pub record Accepts (first second : ℕ) (e : Effect) : Type 0 where
  pub accepted : e.answer.refusal ≡ 0
  pub first_to : e.answer.first ≤ first
  pub second_to : e.answer.second ≤ second
  pub no_further : e.answer.further ≡ none

-- 02, P8: accepted, with no more blocks opened than the order, and no level above it
pub record Locates (order : ℕ) (e : Effect) : Type 0 where
  pub answered : e.answer.refusal ≡ 0
  pub marked_to : e.answer.first ≤ 1
  pub opened_to : e.answer.second ≤ order
  pub level_to : e.answer.further.level ≤ order
  pub no_search : e.answer.further ≡ block_told e.answer.further.level e.answer.further.code

-- 02, P5: a search ended, with at most so many blocks opened
pub record Searches (opened : ℕ) (e : Effect) : Type 0 where
  pub ended : e.answer.refusal ≡ 0
  pub found_to : e.answer.first ≤ 1
  pub opened_to : e.answer.second ≤ opened
  pub no_level : e.answer.further.level ≡ 0

-- 13, with zeros: never on a sound store, always on a spoiled one
pub record Walks (words : List ℕ) (Answers Damaged : Effect → Type 0) (Right : List ℕ → Effect → Type 0) (e : Effect) : Type 0 where
  -- whatever the words are
  pub ends : Answers e ⊎ ((e.answer ≡ refused 13) × Damaged e)
  pub spoiled : Spoiled words → e.answer ≡ refused 13
  -- by equation, from the set that a sound store holds
  pub sound : (set : List ℕ) → Holds words set → Right set e
