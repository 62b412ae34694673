-- The free slots as a change sees them: the chain, and word 6, which counts all the others.
use Prim.Native.Nat.{ℕ, ◌+◌, ◌-◌, ◌≤◌}
use native.Mathlib.Omega.{arith}
use mathlib.Core.Path.{◌≡◌, ap, sym, ◌∙◌}
use mathlib.Core.List.{List, ◌∷◌}
use lib.ListN.{length, get_or, take, set}
use lib.Seq.{get_or-take, get_or-set_same, length-take-le}
use Rattle.pktree.specs.Lists.{Every}
use Rattle.measures.specs.Words.{head_words, blocks_word, blocks_index, first_free_index}
use Rattle.measures.specs.declared.sizes.Layout.{Layout}
use Rattle.measures.specs.Layout.{LayoutFits}
use Rattle.measures.specs.Slot.{slot_part}
use Rattle.measures.proofs.SlotWrites.{HeadWritten, word_in_front}
use Rattle.std.proofs.Common.{Some}
use Rattle.freeslots.specs.FreeSlots.{FreeSlots, occurrences, TookFree, Released}
use Rattle.store.specs.Sound.{SlotsShared}
use Rattle.freeslots.proofs.FreeChains.{free_kept, head_taken, first_taken, chain_released}
use Rattle.store.proofs.SlotTotals.{shared_length}

pub record SlotsLeft (width slots : ℕ) (words free : List ℕ) : Type 0 where
  pub chain : FreeSlots width words free
  pub others : blocks_word words + length free ≡ slots

-- word 6 counts the blocks exactly where it counts the slots that are not free
module _ {width slots : ℕ} {words used free : List ℕ} (shared : SlotsShared slots used free) where
  pub slots_left : FreeSlots width words free → blocks_word words ≡ length used → SlotsLeft width slots words free
  slots_left chain counted = record { chain = chain; others = omega (arith, shared_length shared) }

  pub blocks_counted : SlotsLeft width slots words free → blocks_word words ≡ length used
  blocks_counted left = omega (arith, left.others, shared_length shared)

-- kept where the first words and the slots of the chain are
pub left_kept : {width slots : ℕ} {words words' free : List ℕ} → take head_words words' ≡ take head_words words
    → Every (λ s. slot_part width words s ≡ slot_part width words' s) free → SlotsLeft width slots words free → SlotsLeft width slots words' free
left_kept {width} {slots} {words} {words'} {free} head same left =
    record {
      chain = free_kept width words words' free (word_in_front head_words first_free_index words words' (omega arith) head) same left.chain;
      others = omega (arith, left.others, word_in_front head_words blocks_index words words' (omega arith) head);
    }

-- the first free slot taken
pub record LeftTaken (layout : Layout) (slot : ℕ) (free before after : List ℕ) : Type 0 where
  pub rest : List ℕ
  pub is : free ≡ slot ∷ rest
  pub left : SlotsLeft layout.width layout.slots after rest
  pub written : HeadWritten layout.width (head_taken layout slot before) before after

pub left_taken : {layout : Layout} {slot : ℕ} {free before after : List ℕ} → LayoutFits layout before → TookFree layout before after (Some slot)
    → SlotsLeft layout.width layout.slots before free → LeftTaken layout slot free before after
left_taken {layout} {slot} {free} {before} {after} fits took left =
    let f = first_taken layout slot free before after fits took left.chain in
    record {
      rest = f.rest;
      is = f.is;
      left = record { chain = f.chain; others = omega (arith, f.counted, left.others, ap length f.is) };
      written = f.written;
    }

-- a slot given back, and word 6 one less
pub left_released : {width slots slot : ℕ} {used free before after : List ℕ} → head_words ≤ length before → Released width slot (blocks_word before - 1) before after
    → SlotsShared slots used free → 1 ≤ length used → occurrences slot free ≡ 0 → SlotsLeft width slots before free → SlotsLeft width slots after (slot ∷ free)
left_released {width} {slots} {slot} {used} {free} {before} {after} long r shared some out left =
    let front : List ℕ = set (take head_words before) first_free_index slot in
    let held : ℕ = blocks_word before - 1 in
    let e : blocks_word after ≡ held =
    sym (get_or-take head_words after blocks_index 0 (omega arith)) ∙ ap (λ (l : List ℕ). get_or l blocks_index 0) r.head
    ∙ get_or-set_same front blocks_index held 0 (omega (arith, lib.ListN.length-set (take head_words before) first_free_index slot, length-take-le head_words before long)) in
    record { chain = chain_released width slot free before after r out left.chain; others = omega (arith, left.others, shared_length shared) }
