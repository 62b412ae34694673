-- The block that is changed has its slot for itself, so another content of the slot leaves all around it.
use Prim.Native.Nat.{ℕ, zero, suc, ◌+◌, ◌^◌, ◌≤◌, ◌<◌}
use native.Mathlib.Omega.{arith}
use mathlib.Core.Path.{◌≡◌, refl, subst, sym}
use mathlib.Core.List.{List, [], ◌∷◌, ◌++◌, append_assoc}
use Rattle.pktree.specs.Lists.{Every}
use Rattle.pktree.proofs.Arranged.{quarter_level}
use Rattle.measures.specs.Slot.{slot_part, OnlySlot}
use Rattle.store.specs.Placed.{Placed, slots_of}
use Rattle.freeslots.specs.FreeSlots.{occurrences}
use Rattle.store.specs.Numbers.{Numbered}
use Rattle.store.proofs.Standing.{frame, every_right}
use Rattle.freeslots.proofs.FreeChains.{absent, occurrences_same, occurrences_join}
use Rattle.store.proofs.SlotsLeft.{left_kept}
use Rattle.descent.specs.Way.{Frame}
use Rattle.ascent.proofs.Frames.{way_slots}
use Rattle.ascent.proofs.Pending.{Setting, width_in, slots_in, Around}
use Rattle.ascent.proofs.FramesStand.{frames_kept}

-- the block of this level holds x
pub level_is : (level : ℕ) → 1 ≤ level → level ≡ suc (quarter_level level)
level_is zero h = absurd (omega arith)
level_is (suc n) h = refl

-- words that differ in one slot only
pub others_agree : (width s : ℕ) (words after : List ℕ) → ((t : ℕ) → (t ≡ s → ⊥) → slot_part width after t ≡ slot_part width words t) → (l : List ℕ) → Every (λ t. t ≡ s → ⊥) l
    → Every (λ t. slot_part width words t ≡ slot_part width after t) l
others_agree width s words after others [] e = tt
others_agree width s words after others (t ∷ l) e = (sym (others t e.0), others_agree width s words after others l e.1)

module _ {σ : Setting} {words : List ℕ} {way : List Frame} {s level code : ℕ} {es : Placed} {free : List ℕ} (h : Around σ words way s level code es free) where
  pub holds_x : (code ≤ σ.x) × (σ.x < code + 4 ^ level)
  holds_x = (h.disturbed.above, subst (λ (l : ℕ). σ.x < code + 4 ^ l) (sym (level_is level h.level_from)) h.disturbed.below)

  pub slot_below : s < slots_in σ
  slot_below = (every_right (λ t. t < slots_in σ) (way_slots way) (s ∷ (slots_of es ++ free)) (subst (Every (λ t. t < slots_in σ)) (append_assoc (way_slots way) (s ∷ slots_of es) free) h.shared.inside)).0

  -- it is in one place
  pub slot_once : occurrences s (way_slots way) + (suc (occurrences s (slots_of es)) + occurrences s free) ≡ 1
  slot_once =
      omega (
        arith,
        h.shared.once s slot_below,
        occurrences_join s (way_slots way ++ (s ∷ slots_of es)) free,
        occurrences_join s (way_slots way) (s ∷ slots_of es),
        occurrences_same s (slots_of es),
      )

  pub way_elsewhere : Every (λ t. t ≡ s → ⊥) (way_slots way)
  way_elsewhere = absent s (way_slots way) (omega (arith, slot_once))

  pub elements_elsewhere : Every (λ t. t ≡ s → ⊥) (slots_of es)
  elements_elsewhere = absent s (slots_of es) (omega (arith, slot_once))

  pub free_elsewhere : Every (λ t. t ≡ s → ⊥) free
  free_elsewhere = absent s free (omega (arith, slot_once))

  -- another content of the slot, with the right number, leaves all around it
  pub around_kept : {after : List ℕ} → OnlySlot (width_in σ) s words after → Numbered (width_in σ) (slots_in σ) after σ.target → Around σ after way s level code es free
  around_kept {after} only numbered =
      let agree = others_agree (width_in σ) s words after only.others in
      record {
        frames_right = h.frames_right;
        frames_stand = frames_kept (width_in σ) words after way s level code (agree (way_slots way) way_elsewhere) h.frames_stand;
        stands = frame (width_in σ) words after es (agree (slots_of es) elements_elsewhere) h.stands;
        level_from = h.level_from;
        disturbed = h.disturbed;
        fits = h.fits;
        some = h.some;
        free_chain = left_kept only.head (agree free free_elsewhere) h.free_chain;
        shared = h.shared;
        pixels_are = h.pixels_are;
        numbered = numbered;
      }
