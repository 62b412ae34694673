-- An underfull block below the root hands its elements up, as they are or with a block formed of a run: the change is pending in the block around.
use Prim.Native.Nat.{ℕ, ◌+◌, ◌≤◌, ◌<◌}
use native.Mathlib.Omega.{arith}
use mathlib.Core.Path.{◌≡◌, refl, ap, subst, sym, ◌∙◌}
use mathlib.Core.Logic.{◌⊎◌, inl, inr}
use mathlib.Core.List.{List, [], ◌∷◌}
use Rattle.elements.specs.Element.{tag_slots}
use Rattle.pktree.specs.Elements.{size}
use Rattle.pktree.proofs.Alignment.{block_code}
use Rattle.pktree.proofs.Arranged.{LocallyRight}
use Rattle.measures.specs.Layout.{LayoutFits}
use Rattle.measures.specs.Slot.{slot_part}
use Rattle.store.specs.Placed.{Placed, slots_of}
use Rattle.store.proofs.Standing.{SlotSays, frame}
use Rattle.freeslots.proofs.FreeChains.{occurrences_join}
use Rattle.store.proofs.SlotsLeft.{left_kept, left_released}
use Rattle.descent.specs.Way.{Frame}
use Rattle.rewrite.specs.Rewrite.{SlotNow, HandedUpBlock, HandedUpAll}
use Rattle.rewrite.proofs.SlotNows.{says_now, now_says}
use Rattle.ascent.proofs.Frames.{way_slots, frames_level}
use Rattle.ascent.proofs.Pending.{Setting, width_in, Laid}
use Rattle.ascent.proofs.FormedAt.{FormedAt}
use Rattle.step.specs.Step.{PendingAbove}
use Rattle.ascent.proofs.FramesStand.{frames_kept}
use Rattle.ascent.proofs.Around.{others_agree, slot_once, way_elsewhere, elements_elsewhere, free_elsewhere}
use Rattle.step.proofs.Laid.{sizes}
use Rattle.ascent.proofs.HandUp.{LeftOver, handed_up}
use Rattle.step.proofs.StepNumbers.{numbered_by_release, numbered_by_hand_up}
use Rattle.step.proofs.Formed.{formed_as, formed_pixels, formed_size, slots_and_block, run_words_lem, with_block_words, block_stands}

module _ {σ : Setting} {words : List ℕ} {f : Frame} {way : List Frame} {s level code : ℕ} {es : Placed} {free : List ℕ} (h : Laid σ words (f ∷ way) s level code es free) where
  -- it is not the root, so it has an element
  has_some : (level ≡ σ.m) ⊎ (1 ≤ size es) → 1 ≤ size es
  has_some (inl e) = let r = h.around.frames_right in absurd (omega (arith, frames_level σ.k σ.m way f.level f.code r.1, r.0.under))
  has_some (inr n) = n

  -- it forms none
  pub up_with_all : {after scratch scratch' : List ℕ} {r : ℕ} → LayoutFits σ.layout words → LocallyRight σ.k level code es → size es < σ.k
      → HandedUpAll σ.layout s words after scratch scratch' r → PendingAbove σ after scratch' f way s r
  up_with_all {after} fits right few u =
      let o = h.around in
      let same = others_agree (width_in σ) s words after u.freed.others in
      let left_over : LeftOver σ after f way s level code es es free (s ∷ free) = record {
        few = few;
        some = has_some o.some;
        arranged = right.arranged;
        same_pixels = refl;
        frames_stand = frames_kept (width_in σ) words after (f ∷ way) s level code (same (way_slots (f ∷ way)) (way_elsewhere o)) o.frames_stand;
        stands = frame (width_in σ) words after es (same (slots_of es) (elements_elsewhere o)) o.stands;
        free_chain = left_released (omega (arith, fits.lies)) u.freed o.shared (omega arith) (omega (arith, slot_once o)) o.free_chain;
        counts = λ t. omega (
          arith,
          occurrences_join t (slots_of es) (s ∷ free),
          occurrences_join t (s ∷ []) free,
          occurrences_join t (s ∷ slots_of es) free,
          occurrences_join t (s ∷ []) (slots_of es),
        );
        numbered = numbered_by_release o.numbered u.freed;
      } in
      record {
        level = level;
        code = code;
        left = es;
        free = s ∷ free;
        pending = handed_up o left_over;
        count_is = sym (u.rest_is ∙ h.says.count_is);
        scratch_is = u.handed ∙ (says_now h.says).elements_are;
      }

  -- it forms one, in its own slot
  pub up_with_block : {after scratch scratch' : List ℕ} {j first n r : ℕ} (g : FormedAt σ.k level code σ.x j first n es) → s < tag_slots → size es + 1 < n + σ.k
      → HandedUpBlock σ.layout s j (block_code j σ.x) first n words after scratch scratch' r → PendingAbove σ after scratch' f way s r
  up_with_block {after} {j = j} g small few u =
      let o = h.around in
      let same = others_agree (width_in σ) s words after u.only.others in
      let says : SlotSays (slot_part (width_in σ) after s) j (block_code j σ.x) g.run =
      now_says (subst (SlotNow (slot_part (width_in σ) after s) j (block_code j σ.x)) (run_words_lem g h.says) u.taken_over) in
      let parts : size es ≡ size g.before + (size g.run + size g.after) = ap size g.is ∙ sizes g.before g.run g.after in
      let left_over : LeftOver σ after f way s level code es (formed_as g s) free free = record {
        few = omega (arith, formed_size g s);
        some = omega (arith, formed_size g s, parts, g.size_is);
        arranged = (g.right s).arranged;
        same_pixels = formed_pixels g s;
        frames_stand = frames_kept (width_in σ) words after (f ∷ way) s level code (same (way_slots (f ∷ way)) (way_elsewhere o)) o.frames_stand;
        stands = block_stands g (width_in σ) words after s (same (slots_of es) (elements_elsewhere o)) o.stands small says;
        free_chain = left_kept u.only.head (same free (free_elsewhere o)) o.free_chain;
        counts = λ t. omega (
          arith,
          occurrences_join t (slots_of (formed_as g s)) free,
          slots_and_block g s t,
          occurrences_join t (s ∷ slots_of es) free,
          occurrences_join t (s ∷ []) (slots_of es),
        );
        numbered = numbered_by_hand_up h g u;
      } in
      record {
        level = level;
        code = code;
        left = formed_as g s;
        free = free;
        pending = handed_up o left_over;
        count_is = omega (arith, formed_size g s, u.rest_is, h.says.count_is);
        scratch_is = u.handed ∙ with_block_words g h.says s;
      }
