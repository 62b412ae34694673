-- 01 "The lent store": what words 0 to 3 say, and the formula.
use Rattle.std.specs.Prelude.{ℕ, ◌+◌, ◌-◌, ◌*◌, ◌/◌, ◌≤◌, ◌≡◌, List, length, get_or, drop, Option, None, Some}
use Rattle.pktree.specs.Panel.{Panel, Valid}
use Rattle.measures.specs.Words.{head_words, mark_word}
use Rattle.measures.specs.Slot.{slot_head}
use Rattle.measures.specs.declared.sizes.Sizes.{Sizes}

abbrev pub panel_of : Sizes → Panel
panel_of sizes = record { order = sizes.order; k = sizes.k }

-- 01: word 0
abbrev pub register_mark : ℕ
register_mark = 0x504B0001

-- 02, P7: the largest N, in place of 01's
abbrev pub largest_most : ℕ
largest_most = 24576

-- m, k and N within their limits; N is `most`
pub record ValidSizes (sizes : Sizes) : Type 0 where
  pub panel : Valid (panel_of sizes)
  pub most_from : 1 ≤ sizes.most
  pub most_to : sizes.most ≤ largest_most

-- 01: S slots
abbrev pub slot_count : ℕ → ℕ → ℕ
slot_count k most = 1 + (most - 1) / (k - 1)

-- the words of one slot: its head, and two for each of 5(k - 1) elements
abbrev pub slot_width : ℕ → ℕ
slot_width k = slot_head + 10 * (k - 1)

-- 01: the words that a store needs, 8 + S × (8 + 10(k - 1))
abbrev pub store_words : Sizes → ℕ
store_words sizes = head_words + slot_count sizes.k sizes.most * slot_width sizes.k

-- words 1 to 3
abbrev pub sizes_of : List ℕ → Sizes
sizes_of words = record { order = get_or words 1 0; k = get_or words 2 0; most = get_or words 3 0 }

-- refusal 3 does not apply
pub record UsableStore (words : List ℕ) : Type 0 where
  pub long : head_words ≤ length words
  pub mark : mark_word words ≡ register_mark
  pub valid : ValidSizes (sizes_of words)
  pub enough : store_words (sizes_of words) ≤ length words

-- the sizes of a store to which refusal 3 does not apply; or it applies
abbrev pub ReadSizes : List ℕ → Option Sizes → Type 0
ReadSizes words (Some sizes) = (sizes ≡ sizes_of words) × UsableStore words
ReadSizes words None = UsableStore words → ⊥

-- the store is now one of these sizes; no other word changed
pub record WroteSizes (sizes : Sizes) (before after : List ℕ) : Type 0 where
  pub usable : UsableStore after
  pub sizes_are : sizes_of after ≡ sizes
  pub rest : drop 4 after ≡ drop 4 before
  pub long : length after ≡ length before
