-- A block that is listed: wholly inside the window, or over its edge.
use Rattle.std.proofs.Common.{◌≡◌, ℕ, ◌+◌, ◌%◌, ◌^◌, ◌<◌, ◌≤◌, Bool, true, false, List, [], length, sym, refl, ap, ◌∙◌, append-nil, arith, length-append}
use Rattle.pktree.specs.Elements.{Forest, block, empty, unlabelled}
use Rattle.pktree.specs.Tree.{pixels}
use Rattle.pktree.specs.Window.{Window, Ordered, opened_by_window}
use Rattle.pktree.proofs.Forests.{pixels_join, block_count_join}
use Rattle.pktree.proofs.Insides.{AllSeen}
use Rattle.measures.specs.Sizes.{largest_most}
use Rattle.pktree.proofs.WindowParts.{block_opened}
use Rattle.measures.specs.Layout.{LayoutFits}
use Rattle.measures.specs.declared.sizes.Layout.{Layout}
use Rattle.elements.specs.declared.Element.{Element}
use Rattle.elements.specs.Element.{element_at, named}
use Rattle.store.specs.declared.Damaged.{Damaged}
use Rattle.store.specs.Opening.{damaged}
use Rattle.std.specs.Prelude.{Result, Ok, Err, IsErr}
use Rattle.walks.proofs.Walks.{ElementWalked, ElementBroken, InLoop, walked_child, broken_child, loop_inside, loop_open, loop_breaks}
use Rattle.query.specs.WindowRange.{Range}
use Rattle.windows.specs.Corners.{window_between, SharingTested, InsideTested}
use Rattle.query.specs.Opened.{OpenedNext}
use Rattle.query.specs.Counting.{Findings, of_blocks, of_elements, Room, Counts, Ending, broken, done}
use Rattle.query.proofs.Openings.{never_barred}
use Rattle.query.proofs.SeenParts.{shares_as_tested, skipped, all_seen, over_edge_lem}
use Rattle.query.proofs.Opens.{list_opens}
use Rattle.query.proofs.Findings.{Additive, elements_additive, room_between}
use Rattle.query.proofs.Counts.{is_broken, not_done, skipped_counts, room_tested, opened_counts, room_edge, edge_counts}
use Rattle.collecting.specs.Listing.{of_all, Lists, ListsTo, InsideListed, BlockListed}
use Rattle.collecting.proofs.WrittenAt.{written_none}

-- all of joined elements is all of each
pub all_additive : Additive of_all
all_additive = record { no_codes = refl; no_blocks = refl; no_tests = refl; codes_join = pixels_join; blocks_join = block_count_join; tests_join = λ f g. refl }

-- a block and its elements: the block itself is opened too
module _ {most slots level code n m x : ℕ} {f : Forest} where
  room_within : Room of_all most slots (n, m, x) (block level code f empty) → Room of_all most slots (n, m + 1, x) f
  room_within room =
      let l = length-append (pixels f) [] in
      record { few_found = omega (arith, l, room.few_found); few_opened = omega (arith, room.few_opened); few_tested = omega (arith, room.few_tested) }

  block_added : {t : ℕ × ℕ × ℕ} → Counts of_all most slots (n, m + 1, x) f t → Counts of_all most slots (n, m, x) (block level code f empty) t
  block_added counted =
      let l = length-append (pixels f) [] in
      record {
        says = λ room. let a = counted.says (room_within room) in
            record { found_is = omega (arith, l, a.found_is); opened_is = omega (arith, a.opened_is); tested_is = omega (arith, a.tested_is) };
      }

-- where there is no room anything may be written
no_room_lists : {r : Ending} {findings : Findings} {most slots : ℕ} {s t : List ℕ × ℕ × ℕ × ℕ} {f : Forest} → (Room findings most slots (s.1, s.2, s.3) f → ⊥) → ListsTo r findings most slots s f t
no_room_lists never =
    record { lists = record { counts = record { says = λ room. absurd (never room) }; wrote = λ room. absurd (never room) }; ends = λ room. absurd (never room) }

-- wholly inside
module _ {layout : Layout} {words : List ℕ} {above slot level code found opened tests : ℕ} {before : List ℕ} where
  pub all_barred : {o : Result ℕ Damaged} → OpenedNext layout words above slot level code opened o → o ≡ damaged → LayoutFits layout words → (r : Ending) → IsErr r
      → InsideListed layout words above slot level code before before (found, opened, tests) (found, opened, tests) r
  all_barred next e fits r h =
      rw (is_broken r h) (record {
        walked = record { right = λ k es low view. no_room_lists (λ room. never_barred next e fits low view (omega (arith, room.few_opened))) };
        long = refl;
        closed = λ shut. refl;
      })

  module _ {count i : ℕ} {part out : List ℕ} {t : ℕ × ℕ × ℕ}
      (to : InLoop (Lists of_all largest_most layout.slots) layout words above slot level code count part i (before, found, opened + 1, tests) (out, t.0, t.1, t.2)) where
    pub all_broken : {element : Element} {after : List ℕ} {u : ℕ × ℕ × ℕ} → i < count → element ≡ element_at part i → ElementBroken (Room of_all largest_most layout.slots t) layout words level element
        → length after ≡ length before → (r : Ending) → IsErr r → InsideListed layout words above slot level code before after (found, opened, tests) u r
    all_broken below is broke long r h =
        rw (is_broken r h) (record {
          walked = record {
            right = λ k es low view. no_room_lists (λ room. loop_breaks to (Room of_all largest_most layout.slots (found, opened + 1, tests)) (Room of_all largest_most layout.slots t) below is
                (λ f g h w. room_between all_additive f g h w.counts) broke k es view (room_within room));
          };
          long = long;
          closed = λ shut. refl;
        })

    pub all_whole : count ≤ i → length out ≡ length before → InsideListed layout words above slot level code before out (found, opened, tests) t done
    all_whole end long =
        record {
          walked = record {
            right = λ k es low view.
                let p = (loop_inside to end).right k es low view in
                record { lists = record { counts = block_added p.counts; wrote = λ room. rw (append-nil (pixels (unlabelled es))) (p.wrote (room_within room)) }; ends = λ room. refl };
          };
          long = long;
          closed = λ shut. absurd (loop_open to shut);
        }

-- an element that names a block wholly inside
pub inside_walked : {layout : Layout} {words : List ℕ} {level s i c : ℕ} {element : Element} {before after : List ℕ} {t u : ℕ × ℕ × ℕ} {r : Ending} → element ≡ named s i c
    → InsideListed layout words level s i c before after t u r → ElementWalked (Lists of_all largest_most layout.slots) layout words level element (before, t.0, t.1, t.2) (after, u.0, u.1, u.2)
inside_walked e listed = walked_child e (λ k at fs low child. (listed.walked.right k fs child.below child.view).lists)

pub inside_broken : {layout : Layout} {words : List ℕ} {level s i c : ℕ} {element : Element} {before after : List ℕ} {t u : ℕ × ℕ × ℕ} {r : Ending} → element ≡ named s i c
    → InsideListed layout words level s i c before after t u r → r ≡ broken → ElementBroken (Room of_all largest_most layout.slots t) layout words level element
inside_broken e listed broke = broken_child e (λ k at fs child. λ room. not_done broke ((listed.walked.right k fs child.below child.view).ends room))

-- room for elements of a block over the edge
abbrev pub RoomListed : Range → ℕ × ℕ × ℕ → Forest → Type 0
RoomListed range = Room (of_elements opened_by_window (window_between range.corners)) range.most range.layout.slots

-- list's walk over the elements of a block over the edge
abbrev pub ListsElements : Range → List ℕ × ℕ × ℕ × ℕ → Forest → List ℕ × ℕ × ℕ × ℕ → Type 0
ListsElements range = Lists (of_elements opened_by_window (window_between range.corners)) range.most range.layout.slots

-- an element that names a block, where the block around it is over the edge
module _ (range : Range) {words : List ℕ} {element : Element} {level n m x y s i c : ℕ} {before : List ℕ} {b : Bool} (ordered : Ordered (window_between range.corners))
    (one : y ≡ (x + 1) % 2 ^ 32) (e : element ≡ named s i c) (tested : SharingTested range.corners i c b) where
  pub block_skipped : b ≡ false
      → ElementWalked (ListsElements range) range.layout words level element (before, n, m, x) (before, n, m, y)
  block_skipped apart =
      walked_child e (λ k at fs low child.
      record {
        counts = skipped_counts range.corners (list_opens (window_between range.corners)) ordered one (skipped child.view tested ordered apart);
        wrote = λ room fits. rw (skipped child.view tested ordered apart).none_found (sym (written_none before n));
      })

  pub block_listed : {after : List ℕ} {t : ℕ × ℕ × ℕ} {r : Ending} → b ≡ true → BlockListed range words level s i c before after (n, m, y) t r
      → ElementWalked (ListsElements range) range.layout words level element (before, n, m, x) (after, t.0, t.1, t.2)
  block_listed shares listed =
      walked_child e (λ k at fs low child.
      let in-it = (listed.walked.right k fs child.below child.view (shares_as_tested child.view tested ordered ∙ shares)).lists in
      let opens = list_opens (window_between range.corners) in
      record { counts = opened_counts range.corners opens ordered one in-it.counts; wrote = λ room. in-it.wrote (room_tested range.corners opens ordered one room) })

  pub block_broken : {after : List ℕ} {t : ℕ × ℕ × ℕ} {r : Ending} → b ≡ true → BlockListed range words level s i c before after (n, m, y) t r → r ≡ broken
      → ElementBroken (RoomListed range (n, m, x)) range.layout words level element
  block_broken shares listed broke =
      broken_child e (λ k at fs child. λ room.
      not_done broke ((listed.walked.right k fs child.below child.view (shares_as_tested child.view tested ordered ∙ shares)).ends
      (room_tested range.corners (list_opens (window_between range.corners)) ordered one room)))

pub list_barred : {range : Range} {words : List ℕ} {above slot level code found opened tests : ℕ} {before : List ℕ} {o : Result ℕ Damaged}
    → OpenedNext range.layout words above slot level code opened o → o ≡ damaged → LayoutFits range.layout words → (r : Ending) → IsErr r
    → BlockListed range words above slot level code before before (found, opened, tests) (found, opened, tests) r
list_barred {range} {level = level} {code = code} next e fits r h =
    rw (is_broken r h) (record {
      walked = record {
        right = λ k es low view shares.
            let one = (block_opened (window_between range.corners) level code (unlabelled es) shares).one_opened in
            no_room_lists (λ room. never_barred next e fits low view (omega (arith, one, room.few_opened)));
      };
      long = refl;
      closed = λ shut. refl;
    })

-- elements that all lie in the window
module _ {window : Window} {most slots n m x : ℕ} {f : Forest} (few : most ≤ largest_most) (all : AllSeen window f) where
  room_all : Room (of_blocks opened_by_window window) most slots (n, m, x) f → Room of_all largest_most slots (n, m, x) f
  room_all room =
      record {
        few_found = omega (arith, ap length all.all_found, room.few_found);
        few_opened = omega (arith, all.all_opened, room.few_opened);
        few_tested = omega (arith, room.few_tested);
      }

  inside_counts : {t : ℕ × ℕ × ℕ} → Counts of_all largest_most slots (n, m, x) f t → Counts (of_blocks opened_by_window window) most slots (n, m, x) f t
  inside_counts counted =
      record {
        says = λ room. let a = counted.says (room_all room) in
            record {
              found_is = omega (arith, ap length all.all_found, a.found_is);
              opened_is = omega (arith, all.all_opened, a.opened_is);
              tested_is = omega (arith, all.none_tested, a.tested_is);
            };
      }

module _ {range : Range} {words : List ℕ} {above slot level code found opened tests : ℕ} {before : List ℕ} {b : Bool} (tested : InsideTested range.corners level code b) where
  pub list_inside : {out : List ℕ} {t : ℕ × ℕ × ℕ} {r : Ending} → b ≡ true → range.most ≤ largest_most
      → InsideListed range.layout words above slot level code before out (found, opened, tests) t r
      → BlockListed range words above slot level code before out (found, opened, tests) t r
  list_inside inside few listed =
      record {
        walked = record {
          right = λ k es low view shares.
              let all = all_seen view tested inside in
              let p = listed.walked.right k es low view in
              record {
                lists = record { counts = inside_counts few all p.lists.counts; wrote = λ room. rw all.all_found (p.lists.wrote (room_all few all room)) };
                ends = λ room. p.ends (room_all few all room);
              };
        };
        long = listed.long;
        closed = listed.closed;
      }

  module _ {count i : ℕ} {part out : List ℕ} {t : ℕ × ℕ × ℕ} (over : b ≡ false)
      (to : InLoop (ListsElements range) range.layout words above slot level code count part i (before, found, opened + 1, tests) (out, t.0, t.1, t.2)) where
    pub list_broken : {element : Element} {after : List ℕ} {u : ℕ × ℕ × ℕ} → i < count → element ≡ element_at part i → ElementBroken (RoomListed range t) range.layout words level element
        → length after ≡ length before → (r : Ending) → IsErr r → BlockListed range words above slot level code before after (found, opened, tests) u r
    list_broken below is broke long r h =
        let o = list_opens (window_between range.corners) in
        rw (is_broken r h) (record {
          walked = record {
            right = λ k es low view shares. no_room_lists (λ room. loop_breaks to (RoomListed range (found, opened + 1, tests)) (RoomListed range t) below is
                (λ f g h w. room_between (elements_additive o) f g h w.counts) broke k es view (room_edge o (over_edge_lem view tested over shares) room));
          };
          long = long;
          closed = λ shut. refl;
        })

    pub list_whole : count ≤ i → length out ≡ length before → BlockListed range words above slot level code before out (found, opened, tests) t done
    list_whole end long =
        record {
          walked = record {
            right = λ k es low view shares.
                let edge = over_edge_lem view tested over shares in
                let p = (loop_inside to end).right k es low view in
                let opens = list_opens (window_between range.corners) in
                record {
                  lists = record { counts = edge_counts opens edge p.counts; wrote = λ room. rw edge.opened.same_found (p.wrote (room_edge opens edge room)) };
                  ends = λ room. refl;
                };
          };
          long = long;
          closed = λ shut. absurd (loop_open to shut);
        }
