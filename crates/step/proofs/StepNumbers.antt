-- The numbers of pixels through one step: a splice and a release leave them, a formed block gets the sum over its run.
use Prim.Native.Nat.{ℕ, ◌<◌}
use native.Mathlib.Omega.{arith}
use native.Mathlib.Decide.{ℕ_discrete}
use mathlib.Core.Path.{◌≡◌, ap, ap₂, subst, sym, ◌∙◌}
use mathlib.Core.List.{List}
use Rattle.pktree.proofs.Alignment.{block_code}
use Rattle.measures.specs.Slot.{slot_part, level_word}
use Rattle.elements.specs.Splice.{elements_in, CanSplice}
use Rattle.freeslots.specs.FreeSlots.{Released}
use Rattle.store.specs.Placed.{Placed}
use Rattle.store.specs.Numbers.{number_in, NumberRight, Numbered}
use Rattle.sums.specs.Sum.{number_of_elements}
use Rattle.store.proofs.BlockNumbers.{number_right_kept, numbered_but_slot}
use Rattle.descent.specs.Way.{Frame}
use Rattle.rewrite.specs.Rewrite.{SplicedSlot, BlockFormed, HandedUpBlock, run_words}
use Rattle.rewrite.proofs.SlotNows.{spliced_now, spliced_number}
use Rattle.ascent.proofs.FormedAt.{FormedAt}
use Rattle.ascent.proofs.Pending.{Setting, width_in, slots_in, Laid}
use Rattle.ascent.proofs.Around.{slot_below}
use Rattle.ascent.proofs.RunNumber.{run_numbered}
use Rattle.step.proofs.Formed.{run_words_lem}

module _ {width slots slot : ℕ} {before after set : List ℕ} (h : Numbered width slots before set) where
  pub numbered_by_splice : {place removed inserted : ℕ} {source : List ℕ} → slot < slots → CanSplice (slot_part width before slot) source place removed inserted
      → SplicedSlot width slot place removed inserted source before after → Numbered width slots after set
  numbered_by_splice below can r =
      let now = spliced_now can r.spliced in
      numbered_but_slot width slots slot before after set r.only.others
      (number_right_kept set (slot_part width before slot) (slot_part width after slot) now.level_is now.code_is (spliced_number r.spliced) (h.each slot below)) h

  -- a free slot has no number
  pub numbered_by_release : {held : ℕ} → Released width slot held before after → Numbered width slots after set
  numbered_by_release r = numbered_but_slot width slots slot before after set r.others (λ one. absurd (omega (arith, r.freed))) h

module _ {σ : Setting} {words : List ℕ} {way : List Frame} {s level code : ℕ} {es : Placed} {free : List ℕ} (h : Laid σ words way s level code es free) {j first n : ℕ}
    (g : FormedAt σ.k level code σ.x j first n es) where
  -- the run stands for the set's pixels in the block that it becomes
  run_number : number_of_elements σ.layout words n (run_words (elements_in (slot_part (width_in σ) words s)) first n) ≡ number_in σ.target j (block_code j σ.x)
  run_number = ap (number_of_elements σ.layout words n) (run_words_lem g h.says) ∙ run_numbered h.around g

  pub numbered_by_hand_up : {after scratch scratch' : List ℕ} {r : ℕ} → HandedUpBlock σ.layout s j (block_code j σ.x) first n words after scratch scratch' r
      → Numbered (width_in σ) (slots_in σ) after σ.target
  numbered_by_hand_up {after} u =
      numbered_but_slot (width_in σ) (slots_in σ) s words after σ.target u.only.others
      (λ one. u.number_is ∙ run_number ∙ sym (ap₂ (number_in σ.target) u.taken_over.level_is u.taken_over.code_is)) h.around.numbered

  pub numbered_by_forming : {fresh : ℕ} {after : List ℕ} → BlockFormed σ.layout s j (block_code j σ.x) first n fresh words after → Numbered (width_in σ) (slots_in σ) after σ.target
  numbered_by_forming {fresh} {after} u = record { each = λ t p. go t p (ℕ_discrete t s) (ℕ_discrete t fresh) }
    where
      old : Numbered (width_in σ) (slots_in σ) words σ.target
      old = h.around.numbered

      apart : fresh ≡ s → ⊥
      apart e = omega (arith, u.was_free, ap (λ (t : ℕ). level_word (slot_part (width_in σ) words t)) e, h.says.level_is, h.around.level_from)

      go : (t : ℕ) → t < slots_in σ → Dec (t ≡ s) → Dec (t ≡ fresh) → NumberRight σ.target (slot_part (width_in σ) after t)
      go t p (yes e) f =
          let now = u.around apart in
          subst (λ (v : ℕ). NumberRight σ.target (slot_part (width_in σ) after v)) (sym e)
          (number_right_kept σ.target (slot_part (width_in σ) words s) (slot_part (width_in σ) after s) now.level_is now.code_is (u.number_kept apart) (old.each s (slot_below h.around)))
      go t p (no ne) (yes f) =
          let now = u.new_block apart in
          subst (λ (v : ℕ). NumberRight σ.target (slot_part (width_in σ) after v)) (sym f)
          (λ one. u.new_number apart ∙ run_number ∙ sym (ap₂ (number_in σ.target) now.level_is now.code_is))
      go t p (no ne) (no nf) = subst (NumberRight σ.target) (sym (u.others t ne nf)) (old.each t p)
