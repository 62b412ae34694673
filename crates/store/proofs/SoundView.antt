-- A sound store as the walks see it: the root's slot names its elements, and all is right block by block.
use Prim.Native.Nat.{ℕ, zero, suc, ◌+◌, ◌-◌, ◌/◌, ◌^◌, ◌≤◌, ◌<◌}
use native.Mathlib.Omega.{arith}
use native.Mathlib.Nat.{le-div_iff_mul-le}
use native.Mathlib.Decide.{dec_le}
use mathlib.Core.Path.{◌≡◌, ap, ap₂, subst, subst₂, ◌∙◌}
use mathlib.Core.List.{List, [], ◌++◌, append-nil}
use lib.ListN.{length}
use Rattle.pktree.specs.Lists.{Every}
use Rattle.pktree.specs.Panel.{Panel}
use Rattle.pktree.specs.Elements.{ForestOf, empty, pixel, block, size, block_at, unlabelled}
use Rattle.pktree.specs.PixelSet.{member}
use Rattle.pktree.specs.Tree.{tree, pixels}
use Rattle.pktree.proofs.Forests.{block_count}
use Rattle.pktree.proofs.Arranged.{LocallyRight}
use Rattle.pktree.proofs.Unlabelled.{pixels_unlabelled, labelled_local}
use Rattle.pktree.proofs.BlockNumber.{blocks_take_pixels}
use Rattle.pktree.proofs.LocalLaw.{tree_exactly_local}
use Rattle.measures.specs.Sizes.{panel_of, slot_count, slot_width, sizes_of}
use Rattle.measures.specs.Slot.{slot_part}
use Rattle.store.specs.Placed.{Placed, slots_of}
use Rattle.store.specs.Sound.{Sound}
use Rattle.store.proofs.Standing.{SlotSays, Stands, found, every_left}

pub record SoundView (words : List ℕ) (placed es : Placed) : Type 0 where
  pub is : placed ≡ block_at 0 (sizes_of words).order 0 es empty
  pub says : SlotSays (slot_part (slot_width (sizes_of words).k) words 0) (sizes_of words).order 0 es
  pub stands : Stands (slot_width (sizes_of words).k) words es
  pub right : LocallyRight (sizes_of words).k (sizes_of words).order 0 es
  pub inside : Every (λ s. s < slot_count (sizes_of words).k (sizes_of words).most) (slots_of es)
  pub few : suc (block_count es) ≤ slot_count (sizes_of words).k (sizes_of words).most
  pub same_pixels : pixels placed ≡ pixels es

some_element : {A : Type 0} (f : ForestOf A) → 1 ≤ block_count f → 1 ≤ size f
some_element empty p = p
some_element (pixel c f) p = omega arith
some_element (block_at v i c es f) p = omega arith

-- a root with at most N pixels has no more blocks than there are slots
pub slots_suffice : {A : Type 0} (k m most : ℕ) (es : ForestOf A) → 2 ≤ k → 1 ≤ most → LocallyRight k m 0 es → length (pixels es) ≤ most → suc (block_count es) ≤ slot_count k most
slots_suffice zero m most es h one r n = absurd (omega arith)
slots_suffice (suc K) m most es h one r n = go (dec_le 1 (block_count es))
  where
    e : suc K - 1 ≡ K
    e = omega arith

    go : Dec (1 ≤ block_count es) → suc (block_count es) ≤ slot_count (suc K) most
    go (yes p) =
        let pos : 0 < K = omega arith in
        let q : block_count es ≤ (most - 1) / K =
        (le-div_iff_mul-le pos).1 (omega (arith, blocks_take_pixels K m 0 (0 + 4 ^ m) es r.arranged, some_element es p)) in
        rw e (omega arith)
    go (no p) = omega arith

-- the tree read, without its slots, is the tree of its own pixels
own_tree : {words : List ℕ} {placed : Placed} → Sound words placed → unlabelled placed ≡ tree (panel_of (sizes_of words)) (member (pixels (unlabelled placed)))
own_tree {words} {placed} sound = rw (pixels_unlabelled placed) sound.is_tree

pub sound_view : (words : List ℕ) (placed : Placed) → Sound words placed → (es : Placed) × SoundView words placed es
sound_view words placed sound =
    let f = found (slot_width (sizes_of words).k) words (sizes_of words).order 0 placed sound.reads in
    let es : Placed = f.elements in
    let panel : Panel = panel_of (sizes_of words) in
    let root : unlabelled placed ≡ block f.level f.code (unlabelled es) empty = ap unlabelled f.is in
    let (g, e, right) = (tree_exactly_local panel (unlabelled placed) sound.usable.valid.panel.k_from).0 (own_tree sound) in
    let el : f.level ≡ (sizes_of words).order = cc (root, e) in
    let ec : f.code ≡ 0 = cc (root, e) in
    let eg : g ≡ unlabelled es = cc (root, e) in
    let r : LocallyRight (sizes_of words).k (sizes_of words).order 0 es = labelled_local (subst (LocallyRight (sizes_of words).k (sizes_of words).order 0) eg right) in
    let ep : pixels placed ≡ pixels es = ap pixels f.is ∙ append-nil (pixels es) in (
      es,
      record {
        is = f.is ∙ ap₂ (λ (i c : ℕ). block_at 0 i c es empty) el ec;
        says = subst₂ (λ (i c : ℕ). SlotSays (slot_part (slot_width (sizes_of words).k) words 0) i c es) el ec f.says;
        stands = f.stands;
        right = r;
        inside = every_left _ (slots_of es) [] (every_left _ (slots_of es ++ []) sound.free (subst (λ (l : List ℕ). Every (λ s. s < slot_count (sizes_of words).k (sizes_of words).most) (l ++ sound.free)) (ap slots_of f.is) sound.shared.inside).1);
        few = slots_suffice (sizes_of words).k (sizes_of words).order (sizes_of words).most es sound.usable.valid.panel.k_from sound.usable.valid.most_from r
            (subst (λ (l : List ℕ). length l ≤ (sizes_of words).most) ep sound.fits);
        same_pixels = ep;
      },
    )
