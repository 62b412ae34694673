-- What a sound store holds, by its set: the set's tree, whose pixels are the set, and no more blocks than there are slots.
use Prim.Native.Nat.{ℕ, ◌≤◌}
use native.Mathlib.Omega.{arith}
use mathlib.Core.Path.{◌≡◌, ap, sym, subst, ◌∙◌}
use mathlib.Core.List.{List}
use lib.ListN.{length}
use Rattle.pktree.specs.PixelSet.{member, PixelSet}
use Rattle.pktree.specs.Elements.{unlabelled}
use Rattle.pktree.specs.Tree.{tree, pixels, blocks}
use Rattle.pktree.proofs.Forests.{block_count, length_blocks}
use Rattle.pktree.proofs.Pixels.{pixels_of_tree_are_set}
use Rattle.pktree.proofs.Unlabelled.{pixels_unlabelled, block_count_unlabelled}
use Rattle.measures.specs.Words.{blocks_word}
use Rattle.measures.specs.Sizes.{panel_of, sizes_of, slot_count, slot_width}
use Rattle.measures.specs.Slot.{slot_part, number_word}
use Rattle.store.specs.Sound.{Holds}
use Rattle.store.proofs.SoundView.{sound_view}
use Rattle.store.proofs.BlockView.{root_view}
use Rattle.store.proofs.PlacedJoin.{slots_are_blocks}

module _ {words set : List ℕ} (holds : Holds words set) where
  pub tree_of_held : unlabelled holds.placed ≡ tree (panel_of (sizes_of words)) (member set)
  tree_of_held = holds.sound.is_tree ∙ ap (λ (l : List ℕ). tree (panel_of (sizes_of words)) (member l)) holds.set_is

  pub pixels_of_held : pixels (tree (panel_of (sizes_of words)) (member set)) ≡ set
  pixels_of_held = ap pixels (sym tree_of_held) ∙ pixels_unlabelled holds.placed ∙ holds.set_is

  pub held_set : PixelSet (panel_of (sizes_of words)) set
  held_set = subst (PixelSet (panel_of (sizes_of words))) pixels_of_held (pixels_of_tree_are_set (panel_of (sizes_of words)) (member set))

  pub held_blocks : length (blocks (tree (panel_of (sizes_of words)) (member set))) ≤ slot_count (sizes_of words).k (sizes_of words).most
  held_blocks =
      let (es, v) = sound_view words holds.placed holds.sound in
      omega (arith, length_blocks (tree (panel_of (sizes_of words)) (member set)), ap block_count (sym tree_of_held ∙ ap unlabelled v.is), block_count_unlabelled es, v.few)

  -- 02, P6: the root's number is that of the pixels, and word 6 is that of the blocks
  pub held_number : number_word (slot_part (slot_width (sizes_of words).k) words 0) ≡ length set
  held_number =
      let (es, v) = sound_view words holds.placed holds.sound in
      (root_view words holds.placed es holds.sound v).number ∙ ap length (sym v.same_pixels ∙ holds.set_is)

  pub blocks_of_held : blocks_word words ≡ length (blocks (tree (panel_of (sizes_of words)) (member set)))
  blocks_of_held =
      holds.sound.counted ∙ slots_are_blocks holds.placed ∙ sym (block_count_unlabelled holds.placed) ∙ ap block_count tree_of_held
      ∙ sym (length_blocks (tree (panel_of (sizes_of words)) (member set)))
