-- The new elements are laid in the slot of a register's words; where they are right as they are, the change is at rest.
use Prim.Native.Nat.{ℕ, ◌+◌, ◌*◌, ◌≤◌, ◌<◌}
use native.Mathlib.Omega.{arith}
use mathlib.Core.Path.{◌≡◌, ap, subst, sym, ◌∙◌}
use mathlib.Core.Logic.{◌⊎◌}
use mathlib.Core.List.{List, ◌++◌}
use lib.ListN.{length, take, drop}
use Rattle.pktree.specs.Elements.{◌⧺◌, size}
use Rattle.pktree.proofs.Forests.{size_join}
use Rattle.pktree.proofs.Arranged.{quarter_level, LocallyRight}
use Rattle.measures.specs.Slot.{slot_part}
use Rattle.elements.specs.Splice.{CanSplice}
use Rattle.measures.specs.Layout.{LayoutFits}
use Rattle.store.specs.Placed.{Placed}
use Rattle.store.proofs.Standing.{element_words, SlotSays}
use Rattle.measures.proofs.Usable.{slot_long}
use Rattle.store.proofs.BlockView.{elements_lie}
use Rattle.descent.specs.Way.{Frame}
use Rattle.runs.specs.Run.{codes_from, count_near}
use Rattle.rewrite.specs.Rewrite.{SplicedSlot, scratch_words}
use Rattle.rewrite.proofs.SlotNows.{says_now, now_says, spliced_now}
use Rattle.ascent.proofs.Pending.{Setting, width_in, Pending, Laid}
use Rattle.ascent.proofs.Completed.{Completed, AtRest, completed}
use Rattle.step.specs.Step.{most_handed_up}
use Rattle.ascent.proofs.Around.{level_is, holds_x, slot_below, around_kept}
use Rattle.ascent.proofs.RunLaw.{no_run}
use Rattle.step.proofs.PlacedWords.{spliced_words}
use Rattle.step.proofs.StepNumbers.{numbered_by_splice}

pub sizes : (a t b : Placed) → size (a ⧺ (t ⧺ b)) ≡ size a + (size t + size b)
sizes a t b = size_join a (t ⧺ b) ∙ ap (λ (n : ℕ). size a + n) (size_join t b)

module _ {σ : Setting} {before : List ℕ} {way : List Frame} {s level code : ℕ} {a old new b : Placed} {free : List ℕ} {place removed inserted : ℕ}
    (h : Pending σ before way s level code a old new b free) (place_is : size a ≡ place) (removed_is : size old ≡ removed) (inserted_is : size new ≡ inserted) where
  -- the splice can be done
  pub can_splice : {scratch : List ℕ} → LayoutFits σ.layout before → length scratch ≡ scratch_words → inserted ≤ most_handed_up → CanSplice (slot_part (width_in σ) before s) scratch place removed inserted
  can_splice fits room few =
      let part : List ℕ = slot_part (width_in σ) before s in
      let long : length part ≡ width_in σ = slot_long σ.layout before s fits (slot_below h.around) in
      let lie = elements_lie part level code (a ⧺ (old ⧺ b)) h.says (omega (arith, fits.within.width_from)) in
      let n = h.says.count_is in
      record {
        short = omega (arith, fits.within.width_to);
        laid = omega arith;
        cut = omega (arith, sizes a old b);
        room = omega (arith, sizes a old b, sizes a new b, h.around.fits, σ.width_is, σ.k_from);
        source_long = omega arith;
      }

  pub laid_by_splice : {scratch after : List ℕ} → take (2 * inserted) scratch ≡ element_words new → CanSplice (slot_part (width_in σ) before s) scratch place removed inserted
      → SplicedSlot (width_in σ) s place removed inserted scratch before after → Laid σ after way s level code (a ⧺ (new ⧺ b)) free
  laid_by_splice {scratch} scratch_is can r =
      let now = spliced_now can r.spliced in
      let e = ap (λ (l : List ℕ). take (2 * place) l ++ (take (2 * inserted) scratch ++ drop (2 * (place + removed)) l)) (says_now h.says).elements_are
      ∙ spliced_words a old b scratch new place removed inserted place_is removed_is scratch_is in
      record {
        around = around_kept h.around r.only (numbered_by_splice h.around.numbered (slot_below h.around) can r);
        says = now_says (record {
          level_is = now.level_is ∙ h.says.level_is;
          code_is = now.code_is ∙ h.says.code_is;
          count_is = now.count_is ∙ ap length e;
          elements_are = now.elements_are ∙ e;
        });
      }

module _ {σ : Setting} {words : List ℕ} {way : List Frame} {s level code : ℕ} {es : Placed} {free : List ℕ} (h : Laid σ words way s level code es free) where
  -- no block is to be formed
  pub right_as_it_is : ((i : ℕ) → i < level → count_near i σ.x (codes_from (slot_part (width_in σ) words s) 0 (size es)) < σ.k)
      → LocallyRight σ.k level code es
  right_as_it_is few =
      let e = level_is level h.around.level_from in
      subst (λ (l : ℕ). LocallyRight σ.k l code es) (sym e)
      (no_run σ.k (quarter_level level) code σ.x (slot_part (width_in σ) words s) es σ.k_from
      (subst (λ (l : ℕ). SlotSays (slot_part (width_in σ) words s) l code es) e h.says) h.around.disturbed (λ i p. few i (omega arith)))

  pub done_as_it_is : LocallyRight σ.k level code es → (level ≡ σ.m) ⊎ (σ.k ≤ size es) → Completed σ words
  done_as_it_is right enough =
      let o = h.around in
      let rest : AtRest σ words way s level code es free = record {
        frames_right = o.frames_right;
        frames_stand = o.frames_stand;
        above = (holds_x o).0;
        below = (holds_x o).1;
        says = h.says;
        stands = o.stands;
        right = right;
        enough = enough;
        free_chain = o.free_chain;
        shared = o.shared;
        pixels_are = o.pixels_are;
        numbered = o.numbered;
      } in
      completed rest
