-- What each way out of `read_numbers` shows: on a sound store the root's number is that of the pixels, and word 6 that of the blocks.
use Rattle.std.proofs.Common.{◌≡◌, ℕ, ◌<◌, ◌≤◌, List, length, refl, ap, ◌∙◌, subst, ap₂, subst₂, arith}
use Rattle.pktree.proofs.Absurd.{zero_is_not_one}
use Rattle.measures.specs.Words.{blocks_word}
use Rattle.measures.specs.Slot.{slot_part, number_word}
use Rattle.measures.specs.declared.sizes.Layout.{Layout}
use Rattle.measures.specs.declared.sizes.Sizes.{Sizes}
use Rattle.measures.specs.Layout.{LaidOut}
use Rattle.measures.specs.Sizes.{slot_count, slot_width, sizes_of, UsableStore}
use Rattle.measures.proofs.Usable.{layout_said, layout_fits}
use Rattle.store.specs.Opening.{Opened, damaged}
use Rattle.store.specs.declared.Damaged.{Damaged as DamagedWords}
use Rattle.std.specs.Prelude.{Result, Ok, Err, IsErr}
use Rattle.store.proofs.SoundView.{sound_view}
use Rattle.store.proofs.BlockView.{root_view}
use Rattle.store.proofs.OpenedSlot.{slot_opened, slot_shut, opened_not_shut, view_opens}
use Rattle.store.proofs.Held.{held_blocks, held_number, blocks_of_held}
use Rattle.saving.specs.declared.numbers.Numbers.{Numbers}
use Rattle.saving.specs.Numbers.{NumbersAnswer}

abbrev pub said_of : ℕ → ℕ → Result Numbers DamagedWords
said_of pixels blocks = Ok (record { pixels = pixels; blocks = blocks })

abbrev pub not_said : Result Numbers DamagedWords
not_said = Err (record {})

module _ {words : List ℕ} {sizes : Sizes} {layout : Layout} (usable : UsableStore words) (said : sizes ≡ sizes_of words) (laid : LaidOut sizes layout) where
  same_slots : layout.slots ≡ slot_count (sizes_of words).k (sizes_of words).most
  same_slots = ap (λ (l : Layout). l.slots) (layout_said words said laid)

  -- a sound store has no more blocks than slots
  pub too_many_blocks : layout.slots < blocks_word words → NumbersAnswer words not_said
  too_many_blocks h = record { bounds = tt; sound = λ set holds. absurd (omega (arith, same_slots, blocks_of_held holds, held_blocks holds)); closed = λ shut. refl }

  module _ {root : List ℕ} (root_is : root ≡ slot_part layout.width words 0) where
    -- the root's slot, by the sizes that the words say
    root_slot_lem : root ≡ slot_part (slot_width (sizes_of words).k) words 0
    root_slot_lem = root_is ∙ ap (λ (l : Layout). slot_part l.width words 0) (layout_said words said laid)

    root_opened : (o : Result ℕ DamagedWords) → Opened root sizes.order 0 o → Opened root (sizes_of words).order 0 o
    root_opened o = subst (λ (z : Sizes). Opened root z.order 0 o) said

    -- its root can be opened
    pub not_opened : {o : Result ℕ DamagedWords} → o ≡ damaged → Opened root sizes.order 0 o → (r : Result Numbers DamagedWords) → IsErr r → NumbersAnswer words r
    not_opened e opened (Ok _) h = absurd (zero_is_not_one (cc h))
    not_opened {o} e opened (Err _) h =
        let fits = layout_fits _ _ words usable refl (subst₂ LaidOut said (layout_said words said laid) laid) in
        record {
          bounds = tt;
          sound = λ set holds.
              let (es, v) = sound_view words holds.placed holds.sound in
              absurd (view_opens fits (root_view words holds.placed es holds.sound v) (slot_shut root_slot_lem (root_opened o opened) e));
          closed = λ shut. refl;
        }

    -- and it has no more pixels than N
    pub too_many_pixels : sizes.most < number_word root → NumbersAnswer words not_said
    too_many_pixels h =
        record {
          bounds = tt;
          sound = λ set holds. absurd (omega (arith, ap number_word root_slot_lem, held_number holds, holds.sound.fits, ap length holds.set_is, ap (λ (z : Sizes). z.most) said));
          closed = λ shut. refl;
        }

    pub numbers_said : {o : Result ℕ DamagedWords} {count : ℕ} → o ≡ Ok count → Opened root sizes.order 0 o → number_word root ≤ sizes.most → blocks_word words ≤ layout.slots
        → NumbersAnswer words (said_of (number_word root) (blocks_word words))
    numbers_said {o} e opened few within =
        record {
          bounds = (omega (arith, ap (λ (z : Sizes). z.most) said), omega (arith, same_slots));
          sound = λ set holds. ap₂ said_of (ap number_word root_slot_lem ∙ held_number holds) (blocks_of_held holds);
          closed = λ shut. absurd (opened_not_shut (slot_opened root_slot_lem (root_opened o opened) e) shut);
        }
