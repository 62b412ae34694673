-- The walks that write what they find.
use Rattle.std.proofs.Common.{◌≡◌, ℕ, ◌+◌, ◌%◌, ◌^◌, ◌<◌, ◌≤◌, Bool, true, false, List, length, set, sym, refl, ap, ◌∙◌, arith, length-append, length-set}
use Rattle.pktree.specs.Elements.{Forest, empty, pixel, ◌⧺◌}
use Rattle.pktree.specs.Window.{Ordered, opened_by_window}
use Rattle.windows.specs.declared.Corners.{Corners}
use Rattle.windows.specs.Corners.{window_between, PixelTested}
use Rattle.measures.specs.Sizes.{largest_most}
use Rattle.query.specs.declared.walk.Sum.{Sum}
use Rattle.query.specs.Counting.{Findings, of_elements}
use Rattle.query.proofs.Opens.{list_opens}
use Rattle.query.proofs.Findings.{Additive, room_first, room_second, count_walk}
use Rattle.query.proofs.SeenParts.{pixel_outside, pixel_inside}
use Rattle.query.proofs.Counts.{outside_not_counted, pixel_counted}
use Rattle.walks.proofs.Walks.{Walk}
use Rattle.collecting.specs.Listing.{of_all, Lists, CodeWritten, PixelListed}
use Rattle.collecting.proofs.WrittenAt.{written_none, written_one, written_join, length_written}

lists_join : {findings : Findings} {most slots : ℕ} {s t u : List ℕ × ℕ × ℕ × ℕ} {f g : Forest} → Additive findings → Lists findings most slots s f t → Lists findings most slots t g u
    → Lists findings most slots s (f ⧺ g) u
lists_join {findings} {most} {slots} {s} {t} {u} {f} {g} add p q =
    record {
      counts = (count_walk add).join p.counts q.counts;
      wrote = λ room fits.
          let l = ap length (add.codes_join f g) ∙ length-append (findings.codes f) (findings.codes g) in
          let a = p.counts.says (room_first add f g room) in
          let wf = p.wrote (room_first add f g room) (omega (arith, l)) in
          let long : length t.0 ≡ length s.0 = ap length wf ∙ length_written s.0 s.1 (findings.codes f) (omega (arith, l)) in
          let wg = q.wrote (room_second add f g room a) (omega (arith, l, a.found_is, long)) in
          wg ∙ rw (wf, a.found_is, add.codes_join f g) (written_join s.0 s.1 (findings.codes f) (findings.codes g) (omega (arith, l)));
    }

pub list_walk : {findings : Findings} {most slots : ℕ} → Additive findings → Walk (Lists findings most slots)
list_walk add =
    record { none = λ s. record { counts = (count_walk add).none (s.1, s.2, s.3); wrote = λ room fits. rw add.no_codes (sym (written_none s.0 s.1)) }; join = lists_join add }

pub all_are : {after o : List ℕ} {sum s : Sum} → o ≡ after → s ≡ sum → ◌≡◌ {A = List ℕ × ℕ × ℕ × ℕ} (o, s.found, s.opened, s.tested) (after, sum.found, sum.opened, sum.tested)
all_are e f = rw (e, f)

-- one code
module _ {code at : ℕ} {before : List ℕ} where
  pub no_room : {i r : ℕ} → i ≡ at → length before ≤ i → r ≡ (at + 1) % 2 ^ 32 → CodeWritten code at before before r
  no_room is full sum = record { counted = λ few. omega (arith, sum); long = refl; wrote = λ fits. absurd (omega (arith, fits)) }

  pub code_written : {i r : ℕ} → i ≡ at → i < length before → r ≡ (at + 1) % 2 ^ 32 → CodeWritten code at before (set before i code) r
  code_written is room sum = record { counted = λ few. omega (arith, sum); long = length-set before _ code; wrote = λ fits. rw is (written_one before at code (omega arith)) }

pub code_added : {slots c n m x r : ℕ} {before after : List ℕ} → CodeWritten c n before after r → Lists of_all largest_most slots (before, n, m, x) (pixel c empty) (after, r, m, x)
code_added w =
    record {
      counts = record { says = λ room. record { found_is = w.counted room.few_found; opened_is = omega arith; tested_is = omega arith } };
      wrote = λ room fits. w.wrote fits;
    }

-- one pixel
module _ {corners : Corners} {c at : ℕ} {before : List ℕ} {b : Bool} (tested : PixelTested corners c b) where
  pub outside_not_listed : b ≡ false → PixelListed corners c at before before at
  outside_not_listed e =
      record {
        counted = outside_not_counted tested e;
        long = refl;
        wrote = λ o fits. rw (pixel_outside (window_between corners) c (sym (tested.says o) ∙ e)).none_found (sym (written_none before at));
      }

  pub inside_listed : {after : List ℕ} {r : ℕ} → b ≡ true → CodeWritten c at before after r → PixelListed corners c at before after r
  inside_listed e w =
      record {
        counted = record { says = λ o few. let one = ap length (pixel_inside (window_between corners) c (sym (tested.says o) ∙ e)) in omega (arith, one, w.counted (omega (arith, one, few))) };
        long = w.long;
        wrote = λ o. rw (pixel_inside (window_between corners) c (sym (tested.says o) ∙ e)) w.wrote;
      }

pub pixel_listed : (corners : Corners) {most slots c n m x y r : ℕ} {before after : List ℕ} → Ordered (window_between corners) → y ≡ (x + 1) % 2 ^ 32 → most ≤ largest_most
    → PixelListed corners c n before after r → Lists (of_elements opened_by_window (window_between corners)) most slots (before, n, m, x) (pixel c empty) (after, r, m, y)
pixel_listed corners ordered one few p = record { counts = pixel_counted corners (list_opens (window_between corners)) ordered one few p.counted; wrote = λ room fits. p.wrote ordered fits }
