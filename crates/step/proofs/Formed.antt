-- A run of a block's elements becomes a block: the pixels are the same, there is one block more, and it stands in its slot.
use Prim.Native.Nat.{ℕ, suc, ◌+◌, ◌<◌}
use native.Mathlib.Omega.{arith}
use mathlib.Core.Path.{◌≡◌, ap, subst, sym, ◌∙◌}
use mathlib.Core.List.{List, [], ◌∷◌, ◌++◌}
use Rattle.elements.specs.Element.{tag_slots}
use Rattle.pktree.specs.Lists.{Every}
use Rattle.pktree.specs.Elements.{◌⧺◌, size, block_at}
use Rattle.pktree.specs.Tree.{pixels}
use Rattle.pktree.proofs.Forests.{size_join, pixels_join, block_count, block_count_join}
use Rattle.pktree.proofs.Alignment.{block_code}
use Rattle.measures.specs.Slot.{slot_part}
use Rattle.elements.specs.Splice.{elements_in}
use Rattle.store.specs.Placed.{Placed, slots_of}
use Rattle.freeslots.specs.FreeSlots.{occurrences}
use Rattle.store.proofs.Standing.{element_words, SlotSays, Stands, frame, every_left, every_right}
use Rattle.store.proofs.PlacedJoin.{slots_join, stands_join, stands_parts}
use Rattle.freeslots.proofs.FreeChains.{occurrences_join}
use Rattle.rewrite.specs.Rewrite.{block_words, run_words, with_block}
use Rattle.rewrite.proofs.SlotNows.{says_now}
use Rattle.ascent.proofs.FormedAt.{FormedAt, pixels_in_parts, slots_in_parts}
use Rattle.step.proofs.PlacedWords.{middle_words, block_words_lem}

module _ {k level code x j first n : ℕ} {es : Placed} (g : FormedAt k level code x j first n es) where
  -- the elements with the run as a block in slot t
  abbrev pub formed_as : ℕ → Placed
  formed_as t = g.before ⧺ block_at t j (block_code j x) g.run g.after

  pub formed_pixels : (t : ℕ) → pixels (formed_as t) ≡ pixels es
  formed_pixels t = pixels_join g.before (block_at t j (block_code j x) g.run g.after) ∙ sym (pixels_in_parts g)

  -- how many elements there are then
  pub formed_size : (t : ℕ) → size (formed_as t) + n ≡ size es + 1
  formed_size t =
      omega (
        arith,
        size_join g.before (block_at t j (block_code j x) g.run g.after),
        ap size g.is,
        size_join g.before (g.run ⧺ g.after),
        size_join g.run g.after,
        g.size_is,
      )

  pub one_block_more : (t : ℕ) → block_count (formed_as t) ≡ suc (block_count es)
  one_block_more t =
      omega (
        arith,
        block_count_join g.before (block_at t j (block_code j x) g.run g.after),
        ap block_count g.is,
        block_count_join g.before (g.run ⧺ g.after),
        block_count_join g.run g.after,
      )

  -- the slots are those that were there, and the block's
  pub slots_and_block : (t u : ℕ) → occurrences u (slots_of (formed_as t)) ≡ occurrences u (t ∷ []) + occurrences u (slots_of es)
  slots_and_block t u =
      let a : List ℕ = slots_of g.before in
      let b : List ℕ = slots_of g.run in
      let c : List ℕ = slots_of g.after in
      omega (
        arith,
        ap (occurrences u) (slots_join g.before (block_at t j (block_code j x) g.run g.after)),
        occurrences_join u a (t ∷ (b ++ c)),
        occurrences_join u (t ∷ []) (b ++ c),
        ap (occurrences u) (slots_in_parts g),
        occurrences_join u a (b ++ c),
      )

  -- the words of the run, and of the elements with the block in its place, cut out of those of the slot
  module _ {part : List ℕ} {i c : ℕ} (says : SlotSays part i c es) where
    in_parts : elements_in part ≡ element_words (g.before ⧺ (g.run ⧺ g.after))
    in_parts = (says_now says).elements_are ∙ ap element_words g.is

    pub run_words_lem : run_words (elements_in part) first n ≡ element_words g.run
    run_words_lem = ap (λ (l : List ℕ). run_words l first n) in_parts ∙ middle_words g.before g.run g.after first n g.first_is g.size_is

    pub with_block_words : (t : ℕ) → with_block (elements_in part) first n (block_words t j (block_code j x)) ≡ element_words (formed_as t)
    with_block_words t =
        ap (λ (l : List ℕ). with_block l first n (block_words t j (block_code j x))) in_parts
        ∙ block_words_lem g.before g.run g.after t j (block_code j x) first n g.first_is g.size_is

  -- the elements stand, with the block in a slot that says the run, in words that agree on the slots that were there
  pub block_stands : (width : ℕ) (words after : List ℕ) (t : ℕ) → Every (λ i. slot_part width words i ≡ slot_part width after i) (slots_of es) → Stands width words es
      → t < tag_slots → SlotSays (slot_part width after t) j (block_code j x) g.run → Stands width after (formed_as t)
  block_stands width words after t agree st small says =
      let there = stands_parts width words g.before (g.run ⧺ g.after) (subst (Stands width words) g.is st) in
      let behind = stands_parts width words g.run g.after there.1 in
      let same = subst (Every (λ i. slot_part width words i ≡ slot_part width after i)) (slots_in_parts g) agree in
      let same-behind = every_right _ (slots_of g.before) (slots_of g.run ++ slots_of g.after) same in
      stands_join width after g.before (block_at t j (block_code j x) g.run g.after)
      (frame width words after g.before (every_left _ (slots_of g.before) (slots_of g.run ++ slots_of g.after) same) there.0) (
        small,
        says,
        frame width words after g.run (every_left _ (slots_of g.run) (slots_of g.after) same-behind) behind.0,
        frame width words after g.after (every_right _ (slots_of g.run) (slots_of g.after) same-behind) behind.1,
      )
