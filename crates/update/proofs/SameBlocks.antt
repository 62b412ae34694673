-- Words that differ in numbers only: the same blocks stand in them, and the same slots are free.
use Prim.Native.Nat.{ℕ}
use native.Mathlib.Omega.{arith}
use mathlib.Core.Path.{◌≡◌, ◌∙◌}
use mathlib.Core.List.{List, [], ◌∷◌}
use lib.ListN.{take}
use Rattle.pktree.specs.Elements.{empty, pixel, block_at, ◌⧺◌}
use Rattle.measures.specs.Words.{head_words, blocks_index, first_free_index, first_free_word}
use Rattle.measures.specs.Slot.{slot_part, next_word}
use Rattle.measures.proofs.SlotWrites.{word_in_front}
use Rattle.store.specs.Placed.{Placed}
use Rattle.freeslots.specs.FreeSlots.{FreeChain}
use Rattle.store.proofs.Standing.{SlotSays, Stands}
use Rattle.store.proofs.SlotsLeft.{SlotsLeft}
use Rattle.descent.specs.Way.{Frame}
use Rattle.ascent.proofs.Frames.{FramesStand}
use Rattle.renumbering.specs.Renumber.{SameBlock}

module _ (width : ℕ) (before after : List ℕ) (same : (t : ℕ) → SameBlock (slot_part width before t) (slot_part width after t)) where
  pub says_same : (s level code : ℕ) (es : Placed) → SlotSays (slot_part width before s) level code es → SlotSays (slot_part width after s) level code es
  says_same s level code es h =
      let b = same s in
      record { level_is = b.level_is ∙ h.level_is; code_is = b.code_is ∙ h.code_is; count_is = b.count_is ∙ h.count_is; elements_are = rw b.elements_are h.elements_are }

  pub stands_same : (t : Placed) → Stands width before t → Stands width after t
  stands_same empty h = tt
  stands_same (pixel c t) h = stands_same t h
  stands_same (block_at s i c es t) h = (h.0, says_same s i c es h.1, stands_same es h.2, stands_same t h.3)

  pub frames_same : (way : List Frame) (s i d : ℕ) → FramesStand width before way s i d → FramesStand width after way s i d
  frames_same [] s i d h = h
  frames_same (f ∷ way) s i d h =
      (h.0, says_same f.slot f.level f.code (f.before ⧺ block_at s i d empty f.after) h.1, stands_same f.before h.2, stands_same f.after h.3, frames_same way f.slot f.level f.code h.4)

  chain_same : (first : ℕ) (free : List ℕ) → FreeChain width before first free → FreeChain width after first free
  chain_same first [] c = c
  chain_same first (s ∷ free) c = (c.0, (same s).level_is ∙ c.1, rw (same s).next_is (chain_same (next_word (slot_part width before s)) free c.2))

  pub left_same : {slots : ℕ} {free : List ℕ} → take head_words after ≡ take head_words before → SlotsLeft width slots before free → SlotsLeft width slots after free
  left_same {free = free} head left =
      record {
        chain = rw (word_in_front head_words first_free_index before after (omega arith) head) (chain_same (first_free_word before) free left.chain);
        others = omega (arith, left.others, word_in_front head_words blocks_index before after (omega arith) head);
      }
