-- What a window sees of one element, and of the block around its elements, by the tests that the code makes.
use Rattle.std.proofs.Common.{◌≡◌, ℕ, suc, ◌+◌, Bool, true, false, List, [], ◌∷◌, sym, refl, ◌∙◌}
use Rattle.pktree.specs.Elements.{Forest, empty, pixel, block, unlabelled, size}
use Rattle.pktree.specs.Tree.{block_of, pixels}
use Rattle.pktree.specs.Window.{Window, in_window, Ordered, found, shares_pixel, wholly_inside, crossed_by_window, tested_by_window}
use Rattle.pktree.proofs.Unlabelled.{local_unlabelled}
use Rattle.pktree.proofs.WindowParts.{NothingSeen, OneOpened, block_apart, block_opened, edge_crossed, edge_tested}
use Rattle.pktree.proofs.Insides.{AllSeen, block_inside}
use Rattle.store.specs.Placed.{Placed}
use Rattle.store.proofs.BlockView.{BlockView}
use Rattle.windows.specs.declared.Corners.{Corners}
use Rattle.windows.specs.Corners.{window_between, OnGrid, SharingTested, InsideTested}

-- a pixel
pub pixel_outside : (window : Window) (c : ℕ) → in_window window c ≡ false → NothingSeen window (pixel c empty)
pixel_outside window c e = record { none_found = rw e; none_opened = refl; none_crossed = refl; none_tested = refl }

pub pixel_inside : (window : Window) (c : ℕ) → in_window window c ≡ true → found window (pixels {A = Unit {0}} (pixel c empty)) ≡ c ∷ []
pixel_inside window c e = rw e

-- a block over the window's edge is opened, and its elements are tested
pub record OverEdge (window : Window) (f es : Forest) : Type 0 where
  pub opened : OneOpened window f es
  pub crossed : crossed_by_window window f ≡ suc (crossed_by_window window es)
  pub singly : tested_by_window window f ≡ size es + tested_by_window window es

-- a block as the walks see it
pub on_grid : {k width slots : ℕ} {words : List ℕ} {slot level code : ℕ} {es : Placed} → BlockView k width slots words slot level code es → OnGrid level code
on_grid view = record { level_from = view.level_from; level_to = view.level_to; aligned = view.aligned; ends = view.ends }

pub nothing_seen : {k width slots : ℕ} {words : List ℕ} {slot level code : ℕ} {es : Placed} {window : Window} → BlockView k width slots words slot level code es
    → shares_pixel window (block_of level code (unlabelled es)) ≡ false → NothingSeen window (block level code (unlabelled es) empty)
nothing_seen {k} {level = level} {code = code} {es = es} {window = window} view = block_apart window k level code (unlabelled es) (local_unlabelled view.right)

pub edge_of : {window : Window} {level code : ℕ} {es : Forest} → shares_pixel window (block_of level code es) ≡ true → wholly_inside window (block_of level code es) ≡ false
    → OverEdge window (block level code es empty) es
edge_of {window} {level} {code} {es} shares over =
    record { opened = block_opened window level code es shares; crossed = edge_crossed window level code es shares over; singly = edge_tested window level code es shares over }

module _ {k width slots : ℕ} {words : List ℕ} {slot level code : ℕ} {es : Placed} (view : BlockView k width slots words slot level code es) {corners : Corners} {b : Bool} where
  pub shares_as_tested : SharingTested corners level code b → Ordered (window_between corners) → shares_pixel (window_between corners) (block_of level code (unlabelled es)) ≡ b
  shares_as_tested tested ordered = sym (tested.says (on_grid view) ordered (unlabelled es))

  inside_as_tested : InsideTested corners level code b → wholly_inside (window_between corners) (block_of level code (unlabelled es)) ≡ b
  inside_as_tested tested = sym (tested.says (on_grid view) (unlabelled es))

  pub skipped : SharingTested corners level code b → Ordered (window_between corners) → b ≡ false → NothingSeen (window_between corners) (block level code (unlabelled es) empty)
  skipped tested ordered e = nothing_seen view (shares_as_tested tested ordered ∙ e)

  pub all_seen : InsideTested corners level code b → b ≡ true → AllSeen (window_between corners) (block level code (unlabelled es) empty)
  all_seen tested e = block_inside (window_between corners) k level code (unlabelled es) (local_unlabelled view.right) (inside_as_tested tested ∙ e)

  pub over_edge_lem : InsideTested corners level code b → b ≡ false → shares_pixel (window_between corners) (block_of level code (unlabelled es)) ≡ true
      → OverEdge (window_between corners) (block level code (unlabelled es) empty) (unlabelled es)
  over_edge_lem tested e shares = edge_of shares (inside_as_tested tested ∙ e)
