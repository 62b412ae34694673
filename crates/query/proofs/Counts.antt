-- The walk that counts a block over the window's edge, and the number that a block wholly inside is taken by.
use Rattle.std.proofs.Common.{◌≡◌, ℕ, ◌+◌, ◌%◌, ◌^◌, ◌<◌, ◌≤◌, Bool, true, false, List, length, sym, refl, ap, ◌∙◌, subst, append-nil, arith}
use Rattle.pktree.specs.Elements.{Forest, empty, pixel, block, unlabelled}
use Rattle.pktree.specs.Tree.{block_of, pixels}
use Rattle.pktree.specs.Window.{Window, Ordered, wholly_inside, crossed_by_window}
use Rattle.pktree.proofs.WindowParts.{NothingSeen, edge_crossed}
use Rattle.pktree.proofs.Insides.{AllSeen, block_inside}
use Rattle.pktree.proofs.Absurd.{zero_is_not_one}
use Rattle.pktree.proofs.Unlabelled.{pixels_unlabelled, local_unlabelled}
use Rattle.measures.specs.Sizes.{largest_most}
use Rattle.measures.specs.Layout.{LayoutFits, level_above_root}
use Rattle.measures.specs.Slot.{slot_part, number_word}
use Rattle.store.specs.Placed.{Placed}
use Rattle.elements.specs.declared.Element.{Element}
use Rattle.elements.specs.Element.{element_at, named}
use Rattle.store.specs.declared.Damaged.{Damaged}
use Rattle.store.specs.Opening.{damaged}
use Rattle.std.specs.Prelude.{Result, Ok, Err, IsErr}
use Rattle.store.proofs.BlockView.{BlockView}
use Rattle.store.proofs.OpenedSlot.{opened_not_shut, view_opens}
use Rattle.walks.specs.Entered.{Entered}
use Rattle.walks.proofs.Walks.{ElementWalked, ElementBroken, InLoop, walked_child, broken_child, loop_inside, loop_open, loop_breaks}
use Rattle.windows.specs.declared.Corners.{Corners}
use Rattle.windows.specs.declared.Lying.{Lying}
use Rattle.windows.specs.declared.Lying.TheVariants.{Apart, OverEdge as Over, Inside}
use Rattle.windows.specs.Corners.{window_between, PixelTested, InsideTested, LyingCase, LyingTested}
use Rattle.query.specs.WindowRange.{Range}
use Rattle.query.specs.declared.walk.Sum.{Sum}
use Rattle.query.specs.Opened.{OpenedNext}
use Rattle.query.specs.Counting.{of_blocks, of_elements, Room, Counts, CountsTo, Ending, done, broken, PixelCounted, NumberCase, NumberTaken, EdgeCounted, BlockCounted, RootCounted, numbers_of}
use Rattle.query.proofs.Openings.{never_barred}
use Rattle.query.proofs.SeenParts.{pixel_outside, pixel_inside, OverEdge, on_grid, nothing_seen, edge_of}
use Rattle.query.proofs.Opens.{Opens, count_opens}
use Rattle.query.proofs.Findings.{elements_additive, room_between}

module _ {corners : Corners} {c found : ℕ} {b : Bool} (tested : PixelTested corners c b) where
  pub outside_not_counted : b ≡ false → PixelCounted corners c found found
  outside_not_counted e = record { says = λ o few. omega (arith, ap length (pixel_outside (window_between corners) c (sym (tested.says o) ∙ e)).none_found) }

  pub inside_counted : {r : ℕ} → b ≡ true → r ≡ (found + 1) % 2 ^ 32 → PixelCounted corners c found r
  inside_counted e f = record { says = λ o few. let one = ap length (pixel_inside (window_between corners) c (sym (tested.says o) ∙ e)) in omega (arith, f, one) }

pub numbers_are : {n m x p q r : ℕ} → p ≡ n → q ≡ m → r ≡ x → ◌≡◌ {A = ℕ × ℕ × ℕ} (p, q, r) (n, m, x)
numbers_are e f g = rw (e, f, g)

-- an element of a block over the window's edge: it is tested, and one test more is counted
module _ {opens : Window → Forest → ℕ} (corners : Corners) {most slots n m x y : ℕ} (o : Opens opens (window_between corners)) (ordered : Ordered (window_between corners))
    (one : y ≡ (x + 1) % 2 ^ 32) where
  pub pixel_counted : {c r : ℕ} → most ≤ largest_most → PixelCounted corners c n r → Counts (of_elements opens (window_between corners)) most slots (n, m, x) (pixel c empty) (r, m, y)
  pixel_counted {c} few p =
      record {
        says = λ room.
            record { found_is = p.says ordered (omega (arith, room.few_found)); opened_is = omega (arith, o.no_pixel c); tested_is = omega (arith, one, room.few_tested) };
      }

  pub skipped_counts : {i c : ℕ} {f : Forest} → NothingSeen (window_between corners) (block i c f empty) → Counts (of_elements opens (window_between corners)) most slots (n, m, x) (block i c f empty) (n, m, y)
  skipped_counts none =
      record {
        says = λ room.
            record { found_is = omega (arith, ap length none.none_found); opened_is = omega (arith, o.apart none); tested_is = omega (arith, one, none.none_tested, room.few_tested) };
      }

  -- what is counted of an opened block is counted of it as an element, with its own test
  pub room_tested : {i c : ℕ} {f : Forest} → Room (of_elements opens (window_between corners)) most slots (n, m, x) (block i c f empty)
      → Room (of_blocks opens (window_between corners)) most slots (n, m, y) (block i c f empty)
  room_tested room = record { few_found = room.few_found; few_opened = room.few_opened; few_tested = omega (arith, one, room.few_tested) }

  pub opened_counts : {i c : ℕ} {f : Forest} {t : ℕ × ℕ × ℕ} → Counts (of_blocks opens (window_between corners)) most slots (n, m, y) (block i c f empty) t
      → Counts (of_elements opens (window_between corners)) most slots (n, m, x) (block i c f empty) t
  opened_counts in-it =
      record {
        says = λ room. let a = in-it.says (room_tested room) in
            record { found_is = a.found_is; opened_is = a.opened_is; tested_is = omega (arith, one, a.tested_is, room.few_tested) };
      }

-- 02, P6: a block wholly inside is seen by its number
number_of_block : {k width slots : ℕ} {words : List ℕ} {slot level code : ℕ} {es : Placed} → BlockView k width slots words slot level code es
    → number_word (slot_part width words slot) ≡ length (pixels (block level code (unlabelled es) empty))
number_of_block {es = es} view = view.number ∙ ap length (sym (pixels_unlabelled es)) ∙ ap length (sym (append-nil (pixels (unlabelled es))))

-- there is one kind of damage
pub is_broken : (r : Ending) → IsErr r → r ≡ broken
is_broken (Ok _) h = absurd (zero_is_not_one (cc h))
is_broken (Err _) h = refl

-- a walk that broke off has not come to its end
pub not_done : {r : Ending} → r ≡ broken → r ≡ done → ⊥
not_done e f = zero_is_not_one (cc (f, e))

module _ {range : Range} {words : List ℕ} {above slot level code found : ℕ} where
  pub number_barred : {o : Result ℕ Damaged} {after : ℕ} → o ≡ damaged → Entered range.layout words above slot level code o → NumberTaken range words above slot level code found after broken
  number_barred e h = record { case = λ below low opens. absurd (opens (h.barred e below low)) }

  module _ {part : List ℕ} {p : ℕ} (is : part ≡ slot_part range.layout.width words slot) (number_is : p ≡ number_word part) where
    pub number_passes : {after : ℕ} → range.most < found + p → NumberTaken range words above slot level code found after broken
    number_passes past = record { case = λ below low opens. omega (arith, number_is ∙ ap number_word is, past) }

    pub number_taken : {o : Result ℕ Damaged} {count n : ℕ} → o ≡ Ok count → Entered range.layout words above slot level code o → found + p ≤ range.most → n ≡ found + p
        → NumberTaken range words above slot level code found n done
    number_taken {count = count} e h room n_is =
        record { case = (omega (arith, n_is, number_is ∙ ap number_word is), omega (arith, n_is, room), (λ shut. opened_not_shut (record { header = (h.entered count e).header }) shut)) }

  -- on a sound store it is that of the pixels in the block, which is not opened
  number_counts : {k after opened x : ℕ} {r : Ending} {es : Placed} → LayoutFits range.layout words → level < above → BlockView k range.layout.width range.layout.slots words slot level code es
      → wholly_inside (window_between range.corners) (block_of level code (unlabelled es)) ≡ true → NumberTaken range words above slot level code found after r
      → CountsTo r (of_blocks crossed_by_window (window_between range.corners)) range.most range.layout.slots (found, opened, x) (block level code (unlabelled es) empty) (after, opened, x)
  number_counts {k} {after} {opened} {x} {r} {es = es} fits low view inside number = go r number.case
    where
      all : AllSeen (window_between range.corners) (block level code (unlabelled es) empty)
      all = block_inside (window_between range.corners) k level code (unlabelled es) (local_unlabelled view.right) inside

      go : (r : Ending) → NumberCase range words above slot level code found after r
          → CountsTo r (of_blocks crossed_by_window (window_between range.corners)) range.most range.layout.slots (found, opened, x) (block level code (unlabelled es) empty) (after, opened, x)
      go (Ok tt) a = record {
        counts = record {
          says = λ room. record {
            found_is = omega (arith, a.0, number_of_block view, ap length all.all_found);
            opened_is = omega (arith, all.none_crossed);
            tested_is = omega (arith, all.none_tested);
          };
        };
        ends = λ room. refl;
      }
      go (Err _) d =
          let never : Room (of_blocks crossed_by_window (window_between range.corners)) range.most range.layout.slots (found, opened, x) (block level code (unlabelled es) empty) → ⊥ =
          λ room. omega (arith, d view.slot_below low (λ shut. view_opens fits view (record { shut = shut })), number_of_block view, ap length all.all_found, room.few_found) in
          record { counts = record { says = λ room. absurd (never room) }; ends = λ room. absurd (never room) }

-- count's walk over the elements of a block over the edge
abbrev pub CountsElements : Range → ℕ × ℕ × ℕ → Forest → ℕ × ℕ × ℕ → Type 0
CountsElements range = Counts (of_elements crossed_by_window (window_between range.corners)) range.most range.layout.slots

-- room for elements of such a block
abbrev pub RoomElements : Range → ℕ × ℕ × ℕ → Forest → Type 0
RoomElements range = Room (of_elements crossed_by_window (window_between range.corners)) range.most range.layout.slots

-- what the test of a block says of it
as_tested : (range : Range) {words : List ℕ} {s i c : ℕ} {lying r : Lying} {k : ℕ} {fs : Placed} → Ordered (window_between range.corners) → LyingTested range.corners i c lying → lying ≡ r
    → BlockView k range.layout.width range.layout.slots words s i c fs → LyingCase (window_between range.corners) i c (unlabelled fs) r
as_tested range {i = i} {c = c} {fs = fs} ordered tested is view =
    subst (LyingCase (window_between range.corners) i c (unlabelled fs)) is (tested.says (on_grid view) ordered (unlabelled fs))

-- a block among the elements of a block over the edge: apart, over the edge itself, or wholly inside and taken by its number
module _ (range : Range) {words : List ℕ} {element : Element} {level n m x y s i c : ℕ} {lying : Lying} (ordered : Ordered (window_between range.corners)) (one : y ≡ (x + 1) % 2 ^ 32)
    (e : element ≡ named s i c) (tested : LyingTested range.corners i c lying) where
  pub block_skipped : lying ≡ Apart → ElementWalked (CountsElements range) range.layout words level element (n, m, x) (n, m, y)
  block_skipped is =
      walked_child e (λ k at fs low child.
      skipped_counts range.corners (count_opens (window_between range.corners)) ordered one (nothing_seen child.view (as_tested range ordered tested is child.view)))

  pub block_counted : {t : ℕ × ℕ × ℕ} {r : Ending} → lying ≡ Over → EdgeCounted range words level s i c (n, m, y) t r
      → ElementWalked (CountsElements range) range.layout words level element (n, m, x) t
  block_counted is counted =
      walked_child e (λ k at fs low child. let (shares, over) = as_tested range ordered tested is child.view in
      opened_counts range.corners (count_opens (window_between range.corners)) ordered one (counted.walked k fs child.below child.view shares over).counts)

  pub block_taken : {after : ℕ} {r : Ending} → LayoutFits range.layout words → lying ≡ Inside → NumberTaken range words level s i c n after r
      → ElementWalked (CountsElements range) range.layout words level element (n, m, x) (after, m, y)
  block_taken fits is number =
      walked_child e (λ k at fs low child. let (shares, inside) = as_tested range ordered tested is child.view in
      opened_counts range.corners (count_opens (window_between range.corners)) ordered one (number_counts fits child.below child.view inside number).counts)

  pub block_broken : {t : ℕ × ℕ × ℕ} {r : Ending} → lying ≡ Over → EdgeCounted range words level s i c (n, m, y) t r → r ≡ broken
      → ElementBroken (RoomElements range (n, m, x)) range.layout words level element
  block_broken is counted broke =
      broken_child e (λ k at fs child. λ room. let (shares, over) = as_tested range ordered tested is child.view in
      not_done broke ((counted.walked k fs child.below child.view shares over).ends (room_tested range.corners (count_opens (window_between range.corners)) ordered one room)))

  pub number_broken : {after : ℕ} {r : Ending} → LayoutFits range.layout words → lying ≡ Inside → NumberTaken range words level s i c n after r → r ≡ broken
      → ElementBroken (RoomElements range (n, m, x)) range.layout words level element
  number_broken fits is number broke =
      broken_child e (λ k at fs child. λ room. let (shares, inside) = as_tested range ordered tested is child.view in
      not_done broke ((number_counts fits child.below child.view inside number).ends (room_tested range.corners (count_opens (window_between range.corners)) ordered one room)))

-- a block over the window's edge, from what was found of its elements
module _ {opens : Window → Forest → ℕ} {window : Window} {most slots n m x : ℕ} {f es : Forest} (o : Opens opens window) (edge : OverEdge window f es) where
  pub room_edge : Room (of_blocks opens window) most slots (n, m, x) f → Room (of_elements opens window) most slots (n, m + 1, x) es
  room_edge room =
      record {
        few_found = omega (arith, ap length edge.opened.same_found, room.few_found);
        few_opened = omega (arith, o.edge edge, room.few_opened);
        few_tested = omega (arith, edge.singly, room.few_tested);
      }

  pub edge_counts : {t : ℕ × ℕ × ℕ} → Counts (of_elements opens window) most slots (n, m + 1, x) es t → Counts (of_blocks opens window) most slots (n, m, x) f t
  edge_counts counted =
      record {
        says = λ room. let a = counted.says (room_edge room) in
            record {
              found_is = omega (arith, ap length edge.opened.same_found, a.found_is);
              opened_is = omega (arith, o.edge edge, a.opened_is);
              tested_is = omega (arith, edge.singly, a.tested_is);
            };
      }

module _ {range : Range} {words : List ℕ} {above slot level code found opened tests : ℕ} where
  pub count_barred : {o : Result ℕ Damaged} {t : ℕ × ℕ × ℕ} → OpenedNext range.layout words above slot level code opened o → o ≡ damaged → LayoutFits range.layout words
      → (r : Ending) → IsErr r → EdgeCounted range words above slot level code (found, opened, tests) t r
  count_barred next e fits r h =
      rw (is_broken r h) (record {
        walked = λ k es low view shares over.
            let never : Room (of_blocks crossed_by_window (window_between range.corners)) range.most range.layout.slots (found, opened, tests) (block level code (unlabelled es) empty) → ⊥ =
            λ room. never_barred next e fits low view (omega (arith, edge_crossed (window_between range.corners) level code (unlabelled es) shares over, room.few_opened)) in
            record { counts = record { says = λ room. absurd (never room) }; ends = λ room. absurd (never room) };
        closed = λ shut. refl;
      })

  module _ {count i : ℕ} {part : List ℕ} {t : ℕ × ℕ × ℕ} (to : InLoop (CountsElements range) range.layout words above slot level code count part i (found, opened + 1, tests) t) where
    pub count_broken : {element : Element} {u : ℕ × ℕ × ℕ} → i < count → element ≡ element_at part i → ElementBroken (RoomElements range t) range.layout words level element
        → (r : Ending) → IsErr r → EdgeCounted range words above slot level code (found, opened, tests) u r
    count_broken below is broke r h =
        let o = count_opens (window_between range.corners) in
        rw (is_broken r h) (record {
          walked = λ k es low view shares over.
              let never : Room (of_blocks crossed_by_window (window_between range.corners)) range.most range.layout.slots (found, opened, tests) (block level code (unlabelled es) empty) → ⊥ =
              λ room. loop_breaks to (RoomElements range (found, opened + 1, tests)) (RoomElements range t) below is (room_between (elements_additive o)) broke k es view (room_edge o (edge_of shares over) room) in
              record { counts = record { says = λ room. absurd (never room) }; ends = λ room. absurd (never room) };
          closed = λ shut. refl;
        })

    pub count_whole : count ≤ i → EdgeCounted range words above slot level code (found, opened, tests) t done
    count_whole end =
        record {
          walked = λ k es low view shares over. record {
            counts = edge_counts (count_opens (window_between range.corners)) (edge_of shares over) ((loop_inside to end).right k es low view);
            ends = λ room. refl;
          };
          closed = λ shut. absurd (loop_open to shut);
        }

-- the root, where it does not lie wholly inside
module _ {range : Range} {words : List ℕ} {order : ℕ} (tested : InsideTested range.corners order 0 false) where
  root_block : {t : ℕ × ℕ × ℕ} {r : Ending} → EdgeCounted range words level_above_root 0 order 0 (0, 0, 0) t r → BlockCounted crossed_by_window range words level_above_root 0 order 0 (0, 0, 0) t r
  root_block counted =
      record {
        walked = record { right = λ k es low view shares. counted.walked k es low view shares (sym (tested.says (on_grid view) (unlabelled es))) };
        closed = counted.closed;
      }

  pub root_over_edge : {sum : Sum} {r : Ending} → EdgeCounted range words level_above_root 0 order 0 (0, 0, 0) (numbers_of sum) r → r ≡ done → RootCounted crossed_by_window range words order (Ok sum)
  root_over_edge {sum} counted e = record { case = subst (BlockCounted crossed_by_window range words level_above_root 0 order 0 (0, 0, 0) (numbers_of sum)) e (root_block counted) }

  pub root_broken : {t : ℕ × ℕ × ℕ} {e : Ending} → EdgeCounted range words level_above_root 0 order 0 (0, 0, 0) t e → e ≡ broken → (r : Result Sum Damaged) → IsErr r
      → RootCounted crossed_by_window range words order r
  root_broken counted e (Ok _) h = absurd (zero_is_not_one (cc h))
  root_broken {t} counted e (Err _) h = record { case = (t, subst (BlockCounted crossed_by_window range words level_above_root 0 order 0 (0, 0, 0) t) e (root_block counted)) }
