-- 02, P6: each block carries, in word 4 of its slot, the number of marked pixels beneath it. It is said by the set, not by the tree.
use Rattle.std.specs.Prelude.{ℕ, ◌+◌, ◌^◌, ◌≤◌, ◌<◌, ◌≡◌, ◌&&◌, List, leb, ltb, length}
use Rattle.pktree.specs.Lists.{select}
use Rattle.measures.specs.Slot.{slot_part, level_word, code_word, number_word}

-- how many of the codes lie from `from` to below `to`
abbrev pub number_between : ℕ → ℕ → List ℕ → ℕ
number_between from to set = length (select (λ c. leb from c && ltb c to) set)

-- how many pixels of the set lie in the block of this level and code
abbrev pub number_in : List ℕ → ℕ → ℕ → ℕ
number_in set level code = number_between code (code + 4 ^ level) set

-- a slot in which a block stands says the number of the set's pixels in that block; a free slot has level 0 and may say anything
abbrev pub NumberRight : List ℕ → List ℕ → Type 0
NumberRight set part = 1 ≤ level_word part → number_word part ≡ number_in set (level_word part) (code_word part)

pub record Numbered (width slots : ℕ) (words set : List ℕ) : Type 0 where
  pub each : (slot : ℕ) → slot < slots → NumberRight set (slot_part width words slot)
