-- The root of a sound store as a window walk sees it: all that 01 counts of the set is seen below it, and there is room for that.
use Rattle.std.proofs.Common.{◌≡◌, ℕ, ◌≤◌, true, List, length, sym, refl, ap, ◌∙◌, subst, append-nil, arith}
use Rattle.morton.specs.Code.{gather_bits, x_of, y_of}
use Rattle.pktree.specs.Panel.{Panel, HasPixel, Block}
use Rattle.pktree.specs.PixelSet.{member}
use Rattle.pktree.specs.Elements.{Forest, empty, block, unlabelled}
use Rattle.pktree.specs.Tree.{tree, pixels, block_of}
use Rattle.pktree.specs.Window.{Window, Ordered, found, shares_pixel}
use Rattle.pktree.proofs.Forests.{block_count}
use Rattle.pktree.proofs.Windows.{corners_meet_exactly}
use Rattle.pktree.proofs.WindowParts.{found_few, tested_few}
use Rattle.pktree.proofs.Insides.{largest, largest_valid}
use Rattle.pktree.proofs.Parts.{part_begins}
use Rattle.pktree.proofs.Unlabelled.{pixels_unlabelled, block_count_unlabelled}
use Rattle.measures.specs.Sizes.{panel_of, slot_count, slot_width, sizes_of}
use Rattle.measures.specs.Layout.{LayoutWithin, layout_of}
use Rattle.store.specs.Placed.{Placed}
use Rattle.store.specs.Sound.{Holds}
use Rattle.store.proofs.SoundView.{sound_view}
use Rattle.store.proofs.BlockView.{BlockView, root_view}
use Rattle.windows.specs.declared.Corners.{Corners}
use Rattle.windows.specs.Corners.{window_between, PartBetween}
use Rattle.query.specs.Counting.{of_blocks, Room}
use Rattle.query.proofs.Opens.{Opens}

pub record WholeTree (words : List ℕ) (window : Window) (set : List ℕ) (es : Placed) : Type 0 where
  pub view : BlockView (sizes_of words).k (slot_width (sizes_of words).k) (slot_count (sizes_of words).k (sizes_of words).most) words 0 (sizes_of words).order 0 es
  pub is_tree : tree (panel_of (sizes_of words)) (member set) ≡ block (sizes_of words).order 0 (unlabelled es) empty
  pub shares : shares_pixel window (block_of (sizes_of words).order 0 (unlabelled es)) ≡ true
  pub all_found : found window (pixels (tree (panel_of (sizes_of words)) (member set))) ≡ found window set
  pub few : length (found window set) ≤ (sizes_of words).most
  pub room : {opens : Window → Forest → ℕ} → Opens opens window → LayoutWithin (layout_of (sizes_of words))
      → Room (of_blocks opens window) (sizes_of words).most (slot_count (sizes_of words).k (sizes_of words).most) (0, 0, 0) (tree (panel_of (sizes_of words)) (member set))

-- the root's lowest corner is the panel's
first_corner : (x_of 0 ≡ 0) × (y_of 0 ≡ 0)
unfolding gather_bits
first_corner = (refl, refl)

-- the corners of a part are in order, and the first is on the panel
pub between_ordered : {panel : Panel} {window : Window} {corners : Corners} → PartBetween panel window corners → Ordered (window_between corners)
between_ordered b = subst Ordered (sym b.is) b.ordered

between_begins : (panel : Panel) {window : Window} {corners : Corners} → PartBetween panel window corners → HasPixel panel (x_of corners.first) (y_of corners.first)
between_begins panel {window} b = subst (λ (w : Window). HasPixel panel w.x0 w.y0) (sym b.is) (part_begins panel window b.ordered).on_panel

-- so that the root is opened
pub whole_tree : (words : List ℕ) {window : Window} {corners : Corners} (set : List ℕ) → Holds words set → PartBetween (panel_of (sizes_of words)) window corners
    → (es : Placed) × WholeTree words (window_between corners) set es
whole_tree words {corners = corners} set holds between =
    let part : Window = window_between corners in
    let placed : Placed = holds.placed in
    let panel : Panel = panel_of (sizes_of words) in
    let ordered = between_ordered between in
    let on = between_begins panel between in
    let (es, v) = sound_view words placed holds.sound in
    let root = root_view words placed es holds.sound v in
    let is : tree panel (member set) ≡ block (sizes_of words).order 0 (unlabelled es) empty =
    ap (λ (l : List ℕ). tree panel (member l)) (sym holds.set_is) ∙ sym holds.sound.is_tree ∙ ap unlabelled v.is in
    let same : pixels (tree panel (member set)) ≡ set = ap pixels is ∙ rw (append-nil (pixels (unlabelled es))) (pixels_unlabelled es ∙ sym v.same_pixels ∙ holds.set_is) in
    let block : Block largest (sizes_of words).order 0 = record { low = root.level_to; aligned = root.aligned; corner = omega arith } in
    let few : block_count (tree panel (member set)) ≤ slot_count (sizes_of words).k (sizes_of words).most = omega (arith, ap block_count is, block_count_unlabelled es, v.few) in
    let many : length (pixels (tree panel (member set))) ≤ (sizes_of words).most = omega (arith, ap length same, ap length holds.set_is, holds.sound.fits) in (
      es,
      record {
        view = root;
        is_tree = is;
        shares = (corners_meet_exactly largest part (sizes_of words).order 0 (unlabelled es) largest_valid block ordered.x_ordered ordered.y_ordered).1
            (omega (arith, first_corner, on.0, on.1));
        all_found = ap (found part) same;
        few = omega (arith, found_few part set, ap length same, many);
        room = λ o within. record {
          few_found = omega (arith, found_few part (pixels (tree panel (member set))), many);
          few_opened = omega (arith, o.few (tree panel (member set)), few);
          few_tested = omega (arith, tested_few part (tree panel (member set)), few, many, holds.sound.usable.valid.most_to, within.slots_to);
        };
      },
    )
