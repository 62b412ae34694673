-- A block is formed in a free slot: there is one, and the change is at rest.
use Prim.Native.Nat.{ℕ, ◌+◌, ◌≤◌}
use native.Mathlib.Omega.{arith}
use mathlib.Core.Path.{◌≡◌, refl, ap, subst, sym, ◌∙◌}
use mathlib.Core.Logic.{◌⊎◌}
use mathlib.Core.List.{List, [], ◌∷◌, ◌++◌}
use lib.ListN.{length}
use Rattle.pktree.specs.Lists.{Every}
use Rattle.pktree.specs.Elements.{size}
use Rattle.pktree.proofs.Alignment.{block_code}
use Rattle.measures.specs.Slot.{slot_part}
use Rattle.measures.specs.Layout.{LayoutFits}
use Rattle.store.specs.Placed.{Placed, slots_of}
use Rattle.std.proofs.Common.{None}
use Rattle.freeslots.specs.FreeSlots.{occurrences, TookFree}
use Rattle.store.proofs.Standing.{every_right}
use Rattle.measures.proofs.SlotWrites.{HeadWritten}
use Rattle.freeslots.proofs.FreeChains.{absent, every_map, head_taken, none_free_lem, occurrences_join, occurrences_same}
use Rattle.store.proofs.SlotsLeft.{SlotsLeft, left_kept, left_taken}
use Rattle.descent.specs.Way.{Frame}
use Rattle.rewrite.specs.Rewrite.{SlotNow, BlockFormed}
use Rattle.rewrite.proofs.SlotNows.{now_says}
use Rattle.ascent.proofs.Frames.{way_slots, plug_pixels}
use Rattle.ascent.proofs.Pending.{Setting, width_in, slots_in, Laid}
use Rattle.ascent.proofs.FormedAt.{FormedAt}
use Rattle.ascent.proofs.Completed.{Completed, AtRest, completed}
use Rattle.ascent.proofs.FramesStand.{frames_kept}
use Rattle.ascent.proofs.SlotCounts.{shared_moves}
use Rattle.ascent.proofs.Around.{holds_x, way_elsewhere, elements_elsewhere, free_elsewhere}
use Rattle.ascent.proofs.SlotForBlock.{slot_for_block}
use Rattle.step.proofs.StepNumbers.{numbered_by_forming}
use Rattle.step.proofs.Formed.{formed_as, formed_pixels, one_block_more, slots_and_block, run_words_lem, with_block_words, block_stands}

module _ {σ : Setting} {words : List ℕ} {way : List Frame} {s level code : ℕ} {es : Placed} {free : List ℕ} (h : Laid σ words way s level code es free)
    {j first n : ℕ} (g : FormedAt σ.k level code σ.x j first n es) where
  pub never_without_slot : {after : List ℕ} → (level ≡ σ.m) ⊎ (σ.k ≤ size (formed_as g 0))
      → TookFree σ.layout words after None → ⊥
  never_without_slot {after} enough missing =
      let o = h.around in
      slot_for_block o (g.right 0) enough (one_block_more g 0) (formed_pixels g 0)
      (none_free_lem σ.layout free words after (every_right _ (way_slots way ++ (s ∷ slots_of es)) free o.shared.inside) missing o.free_chain.chain o.free_chain.others)

  -- the block stands in the first free slot
  pub at_rest_with_block : {fresh : ℕ} {after : List ℕ} → LayoutFits σ.layout words → (level ≡ σ.m) ⊎ (σ.k ≤ size (formed_as g fresh))
      → BlockFormed σ.layout s j (block_code j σ.x) first n fresh words after → Completed σ after
  at_rest_with_block {fresh} {after} fits enough u =
      let taken = left_taken fits (u.fresh_is, u.fresh_below, u.was_free, u.some_left, refl) h.around.free_chain in
      finish taken.rest taken.is taken.left taken.written
    where
      finish : {mid : List ℕ} (rest : List ℕ) → free ≡ fresh ∷ rest → SlotsLeft (width_in σ) (slots_in σ) mid rest → HeadWritten (width_in σ) (head_taken σ.layout fresh words) words mid → Completed σ after
      finish rest e left written =
          let o = h.around in
          let around-says = u.around not_s.0 in
          let rests : AtRest σ after way s level code (formed_as g fresh) rest = record {
            frames_right = o.frames_right;
            frames_stand = frames_kept (width_in σ) words after way s level code (same (way_slots way) (way_elsewhere o) (absent fresh (way_slots way) (omega (arith, once)))) o.frames_stand;
            above = (holds_x o).0;
            below = (holds_x o).1;
            says = now_says (record {
              level_is = around-says.level_is ∙ h.says.level_is;
              code_is = around-says.code_is ∙ h.says.code_is;
              count_is = around-says.count_is ∙ ap length (with_block_words g h.says fresh);
              elements_are = around-says.elements_are ∙ with_block_words g h.says fresh;
            });
            stands = block_stands g (width_in σ) words after fresh (same (slots_of es) (elements_elsewhere o) (absent fresh (slots_of es) (omega (arith, once)))) o.stands
                (omega (arith, u.fresh_below, fits.within.slots_to))
                (now_says (subst (SlotNow (slot_part (width_in σ) after fresh) j (block_code j σ.x)) (run_words_lem g h.says) (u.new_block not_s.0)));
            right = g.right fresh;
            enough = enough;
            free_chain = left_kept (u.head ∙ sym written.head_is) (every_map _ _ rest (λ t q. written.slots t ∙ q) (same rest not_s.1 (absent fresh rest (omega (arith, once))))) left;
            shared = shared_moves (slots_in σ) (way_slots way ++ (s ∷ slots_of es)) free (way_slots way ++ (s ∷ slots_of (formed_as g fresh))) rest o.shared moved;
            pixels_are = plug_pixels way s level code (formed_as g fresh) es (formed_pixels g fresh) ∙ o.pixels_are;
            numbered = numbered_by_forming h g u;
          } in
          completed rests
        where
          not_s : Every (λ t. t ≡ s → ⊥) (fresh ∷ rest)
          not_s = subst (Every (λ t. t ≡ s → ⊥)) e (free_elsewhere h.around)

          -- the fresh slot is in no other place
          once : occurrences fresh (way_slots way) + (occurrences fresh (slots_of es) + occurrences fresh rest) ≡ 0
          once =
              omega (
                arith,
                h.around.shared.once fresh u.fresh_below,
                occurrences_join fresh (way_slots way ++ (s ∷ slots_of es)) free,
                occurrences_join fresh (way_slots way) (s ∷ slots_of es),
                occurrences_join fresh (s ∷ []) (slots_of es),
                ap (occurrences fresh) e,
                occurrences_same fresh rest,
              )

          same : (l : List ℕ) → Every (λ t. t ≡ s → ⊥) l → Every (λ t. t ≡ fresh → ⊥) l → Every (λ t. slot_part (width_in σ) words t ≡ slot_part (width_in σ) after t) l
          same [] p q = tt
          same (t ∷ l) p q = (sym (u.others t p.0 q.0), same l p.1 q.1)

          moved : (t : ℕ) → occurrences t ((way_slots way ++ (s ∷ slots_of (formed_as g fresh))) ++ rest) ≡ occurrences t ((way_slots way ++ (s ∷ slots_of es)) ++ free)
          moved t =
              let w : List ℕ = way_slots way in
              omega (
                arith,
                occurrences_join t (w ++ (s ∷ slots_of (formed_as g fresh))) rest,
                occurrences_join t w (s ∷ slots_of (formed_as g fresh)),
                occurrences_join t (s ∷ []) (slots_of (formed_as g fresh)),
                slots_and_block g fresh t,
                occurrences_join t (w ++ (s ∷ slots_of es)) free,
                occurrences_join t w (s ∷ slots_of es),
                occurrences_join t (s ∷ []) (slots_of es),
                ap (occurrences t) e,
                occurrences_join t (fresh ∷ []) rest,
              )
