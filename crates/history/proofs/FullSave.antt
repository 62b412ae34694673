-- A store that holds a set has a full save: the set's image, before what else the output held.
use Prim.Native.Nat.{ℕ, ◌+◌, ◌≤◌}
use native.Mathlib.Omega.{arith}
use mathlib.Core.Path.{◌≡◌, refl, ap, sym, ◌∙◌}
use mathlib.Core.Logic.{inl}
use mathlib.Core.List.{List, ◌++◌}
use lib.Seq.{drop_at}
use lib.ListN.{length, drop, length-append, length-drop}
use Rattle.pktree.specs.Tree.{pixels, blocks}
use Rattle.pktree.proofs.Forests.{block_count, length_blocks}
use Rattle.pktree.proofs.Images.{image_length_lem}
use Rattle.pktree.proofs.Unlabelled.{block_count_unlabelled}
use Rattle.measures.specs.Sizes.{panel_of, sizes_of}
use Rattle.store.specs.Sound.{Holds}
use Rattle.store.proofs.SoundView.{sound_view}
use Rattle.walks.proofs.RootWalk.{held_tree}
use Rattle.image.specs.Held.{most_bytes}
use Rattle.store.proofs.Held.{tree_of_held}
use Rattle.saving.proofs.SavedImage.{entries_counted}
use Rattle.promises.specs.Answer.{accepted}
use Rattle.promises.specs.Effect.{passed}
use Rattle.promises.specs.Walk.{Spoiled}
use Rattle.promises.specs.Calls.{SaveMeets, image_of}
use Rattle.promises.proofs.SpoiledRoot.{spoiled_level}

module _ {words set : List ℕ} (holds : Holds words set) where
  -- it holds no other set
  one_set : {other : List ℕ} → Holds words other → other ≡ set
  one_set h =
      let same : h.placed ≡ holds.placed = cc (h.sound.reads, holds.sound.reads) in
      sym h.set_is ∙ ap pixels same ∙ holds.set_is

  not_spoiled : Spoiled words → ⊥
  not_spoiled s = let (es, v) = sound_view words holds.placed holds.sound in spoiled_level words holds.sound.usable s v.says.level_is

  -- at most N pixels, in at most S blocks
  bounded : length (image_of words set) ≤ most_bytes words
  bounded =
      let (es, v) = sound_view words holds.placed holds.sound in
      let n : length (blocks (held_tree words set)) ≡ block_count es + 1 =
      length_blocks (held_tree words set) ∙ ap block_count (sym (tree_of_held holds)) ∙ block_count_unlabelled holds.placed ∙ ap block_count v.is ∙ omega arith in
      omega (arith, image_length_lem (panel_of (sizes_of words)) set, entries_counted holds, holds.sound.fits, ap length holds.set_is, n, v.few)

  pub full_save : (output : List ℕ) → length (image_of words set) ≤ length output
      → SaveMeets words output (image_of words set ++ drop (length (image_of words set)) output) (accepted (length (image_of words set)) 0)
  full_save output room =
      let bytes : List ℕ = image_of words set in
      let rest : List ℕ = drop (length bytes) output in
      let long : length (bytes ++ rest) ≡ length output = omega (arith, length-append bytes rest, length-drop (length bytes) output) in
      passed holds.sound.usable
      (record {
        ends = inl (inl (record { accepts = record { accepted = refl; first_to = bounded; second_to = omega arith; no_further = refl }; room = room; rest = drop_at bytes rest (length bytes) refl; long = long }));
        spoiled = λ s. absurd (not_spoiled s);
        sound = λ other h. rw (one_set h) (passed room (record { is = refl; wrote = refl }));
      })
