-- What the walk, the chain and the numbers say together: a sound store exactly if all agree.
use Prim.Native.Nat.{ℕ, suc, ◌+◌, ◌-◌, ◌^◌, ◌≤◌, ◌<◌}
use native.Mathlib.Omega.{arith}
use mathlib.Core.Path.{◌≡◌, refl, ap, subst, sym, ◌∙◌}
use mathlib.Core.Bool.{Bool, true, false}
use mathlib.Core.List.{List, append-nil}
use lib.Dec.{eqb}
use lib.ListN.{length}
use borrow.Author.Tests.{eqb-true, eqb-false}
use Rattle.pktree.specs.Elements.{block_at, empty}
use Rattle.pktree.specs.Lists.{Every}
use Rattle.pktree.specs.Panel.{Panel}
use Rattle.pktree.specs.Tree.{pixels}
use Rattle.pktree.proofs.Forests.{block_count}
use Rattle.pktree.proofs.Arranged.{Arranged, LocallyRight}
use Rattle.pktree.proofs.LocalTest.{local_test}
use Rattle.pktree.proofs.Unlabelled.{labelled_tree}
use Rattle.measures.specs.Words.{blocks_word, first_free_word}
use Rattle.measures.specs.Decides.{Decides}
use Rattle.measures.specs.Sizes.{panel_of, sizes_of, slot_count, slot_width, UsableStore}
use Rattle.measures.specs.Layout.{layout_of}
use Rattle.measures.specs.Slot.{slot_part}
use Rattle.store.specs.Placed.{Placed, slots_of}
use Rattle.freeslots.specs.FreeSlots.{no_slot}
use Rattle.store.specs.Sound.{Sound, SlotsShared, IsSound}
use Rattle.store.specs.Numbers.{NumberRight}
use Rattle.measures.proofs.Bounds.{slot_count_bounded}
use Rattle.freeslots.proofs.FreeChains.{one_chain}
use Rattle.store.proofs.BlockNumbers.{OwnPixels, own_whole, block_right, tree_right, numbered_by_used}
use Rattle.store.proofs.Standing.{depth, complete_slot, depth_below_level, every_right, every_join}
use Rattle.inspection.specs.Chain.{ChainOf, ChainEnds, NoEnd}
use Rattle.traversal.specs.declared.Seen.{Seen}
use Rattle.traversal.specs.Walk.{BlockWalked, NoneClaimed}
use Rattle.traversal.proofs.OneReading.{one_reading}
use Rattle.store.proofs.SlotTotals.{shared_length, shared_of_length}
use Rattle.store.proofs.PlacedJoin.{slots_are_blocks}
use Rattle.soundness.proofs.RootSlots.{root_slots_once}
use Rattle.soundness.proofs.RootWalks.{root_claim, none_seen, root_limits, tested_exactly, sound_root}

module _ (words : List ℕ) where
  -- the walk finds the root of a sound store
  pub root_stands : NoneClaimed (root_limits words) words (root_claim (sizes_of words)) none_seen → IsSound words → ⊥
  root_stands none h = let r = sound_root words h.placed h.sound in none.none r.es r.at r.room

  free_of : (placed : Placed) (sound : Sound words placed) → ChainOf (layout_of (sizes_of words)) words sound.free
  free_of placed sound = record { chain = sound.chain; inside = every_right _ (slots_of placed) sound.free sound.shared.inside }

  -- and its chain comes to an end
  pub chain_stands : NoEnd (layout_of (sizes_of words)) words → IsSound words → ⊥
  chain_stands none h = none.none h.sound.free (free_of h.placed h.sound) (omega (arith, shared_length h.sound.shared))

  -- what was walked and what was followed
  module _ {seen : Seen} {count : ℕ} (usable : UsableStore words) (w : BlockWalked (root_limits words) words (root_claim (sizes_of words)) none_seen seen)
      (ends : ChainEnds (layout_of (sizes_of words)) words count) where
    abbrev found : Placed
    found = block_at 0 (sizes_of words).order 0 w.found empty

    blocks_seen : seen.blocks ≡ block_count found
    blocks_seen = omega (arith, ap (λ (s : Seen). s.blocks) w.now_is)

    pixels_seen : seen.pixels ≡ length (pixels found)
    pixels_seen = omega (arith, ap (λ (s : Seen). s.pixels) w.now_is)

    -- every slot of the tree says the number of pixels in its block
    root_numbers : Arranged (sizes_of words).k (sizes_of words).order 0 (0 + 4 ^ (sizes_of words).order) w.found
        → Every (λ s. NumberRight (pixels found) (slot_part (slot_width (sizes_of words).k) words s)) (slots_of found)
    root_numbers arranged =
        let width : ℕ = slot_width (sizes_of words).k in
        let end : ℕ = 0 + 4 ^ (sizes_of words).order in
        let own : OwnPixels (pixels found) 0 end w.found =
        subst (λ (set : List ℕ). OwnPixels set 0 end w.found) (sym (append-nil (pixels w.found))) (own_whole 0 end w.found) in (
          block_right (sizes_of words).k w.at.says own refl arranged w.at.number,
          rw (append-nil (slots_of w.found))
              (tree_right (sizes_of words).k width words (sizes_of words).order w.found own arranged w.at.elements.stands w.at.elements.numbers),
        )

    few_slots : slot_count (sizes_of words).k (sizes_of words).most ≤ no_slot
    few_slots = omega (arith, slot_count_bounded usable.valid)

    -- on a sound store they are its tree and its chain
    pub numbers_agree : IsSound words → (seen.blocks + count ≡ slot_count (sizes_of words).k (sizes_of words).most) × (blocks_word words ≡ seen.blocks)
    numbers_agree h =
        let r = sound_root words h.placed h.sound in
        let e : r.es ≡ w.found = one_reading (slot_width (sizes_of words).k) words 0 (sizes_of words).order 0 (sizes_of words).order 0 r.es w.found
        r.at.says r.at.elements.stands w.at.says w.at.elements.stands in
        let p : h.placed ≡ found = r.is ∙ ap (λ (t : Placed). block_at 0 (sizes_of words).order 0 t empty) e in
        let f = free_of h.placed h.sound in
        let l : h.sound.free ≡ ends.free = one_chain (slot_width (sizes_of words).k) words (slot_count (sizes_of words).k (sizes_of words).most) few_slots (first_free_word words)
        h.sound.free ends.free f.inside ends.is.inside f.chain ends.is.chain in (
          omega (
            arith,
            blocks_seen,
            slots_are_blocks h.placed,
            ap block_count p,
            ap length l,
            ends.many,
            shared_length h.sound.shared,
          ),
          h.sound.counted ∙ slots_are_blocks h.placed ∙ ap block_count p ∙ sym blocks_seen,
        )

    -- where they agree, the store is sound
    pub sound_where_agree : seen.blocks + count ≡ slot_count (sizes_of words).k (sizes_of words).most → blocks_word words ≡ seen.blocks → IsSound words
    sound_where_agree all counted =
        let k : ℕ = (sizes_of words).k in
        let order : ℕ = (sizes_of words).order in
        let panel : Panel = panel_of (sizes_of words) in
        let valid = usable.valid.panel in
        let b = w.at in
        let es : Placed = w.found in
        let tested : local_test k (order - 1) 0 es ≡ true = rw (b.passes, b.elements.right) in
        let right : LocallyRight k order 0 es = (tested_exactly k order 0 es valid.order_from (omega (arith, valid.k_from))).0 tested in
        let deep : depth es < order = depth_below_level k order 0 (0 + 4 ^ order) es valid.order_from right.arranged in
        let level : suc (order - 1) ≡ order = omega (arith, valid.order_from) in
        let read = complete_slot (slot_width k) words (order - 1) 0 order 0 es b.says b.elements.stands (omega arith) in
        let shared : SlotsShared (slot_count k (sizes_of words).most) (slots_of found) ends.free =
        shared_of_length
        (root_slots_once (slot_width k) words k order 0 (0 + 4 ^ order) 0 (slot_count k (sizes_of words).most) (first_free_word words) es ends.free valid.order_from few_slots
        b.says b.elements.stands right.arranged ends.is.inside ends.is.chain)
        (every_join _ (slots_of found) ends.free (omega arith, rw (append-nil (slots_of es)) b.elements.inside) ends.is.inside)
        (omega (arith, blocks_seen, slots_are_blocks found, ends.many)) in
        record {
          placed = found;
          sound = record {
            usable = usable;
            reads = rw level at read;
            is_tree = labelled_tree panel 0 es valid.k_from right;
            fits = omega (arith, pixels_seen, w.within.pixels_to);
            free = ends.free;
            chain = ends.is.chain;
            shared = shared;
            counted = counted ∙ blocks_seen ∙ sym (slots_are_blocks found);
            numbered = numbered_by_used (slot_width k) (slot_count k (sizes_of words).most) words (pixels found) (slots_of found) ends.free shared ends.is.chain
                (root_numbers right.arranged);
          };
        }

    -- so the last two comparisons decide
    pub decided_by_counts : seen.blocks + count ≡ slot_count (sizes_of words).k (sizes_of words).most → Decides (eqb (blocks_word words) seen.blocks) (IsSound words)
    decided_by_counts all = go (eqb (blocks_word words) seen.blocks) refl
      where
        go : (t : Bool) → eqb (blocks_word words) seen.blocks ≡ t → Decides t (IsSound words)
        go true e = sound_where_agree all (eqb-true (blocks_word words) seen.blocks e)
        go false e = λ h. eqb-false (blocks_word words) seen.blocks e (numbers_agree h).1
