-- What each way out of list shows.
use Rattle.std.specs.Prelude.{Result, Ok, Err}
use Prim.Native.Nat.{ℕ, ◌≤◌, ◌<◌}
use native.Mathlib.Omega.{arith}
use native.Mathlib.Nat.{zero-add}
use mathlib.Core.Path.{◌≡◌, refl, ap, ap₂, sym, subst, ◌∙◌}
use mathlib.Core.Logic.{⊎_elim, inl, inr}
use mathlib.Core.List.{List, ◌++◌}
use lib.ListN.{length, take, drop, length-append, length-drop}
use lib.Seq.{length-take-le, drop_at}
use Rattle.pktree.specs.Elements.{Forest}
use Rattle.pktree.specs.PixelSet.{member}
use Rattle.pktree.specs.Tree.{tree}
use Rattle.pktree.specs.Window.{Window, found, opened_by_window, crossed_by_window, tested_by_window}
use Rattle.measures.specs.Layout.{LaidOut, LayoutWithin, layout_of, level_above_root}
use Rattle.measures.specs.Sizes.{UsableStore, panel_of, sizes_of}
use Rattle.measures.specs.declared.sizes.Sizes.{Sizes}
use Rattle.measures.specs.declared.sizes.Layout.{Layout}
use Rattle.store.specs.Sound.{Holds}
use Rattle.answers.specs.declared.Refusal.{Refusal}
use Rattle.promises.specs.Answer.{Answer, accepted, refused, short}
use Rattle.promises.specs.Effect.{effect, passed, stopped}
use Rattle.promises.specs.Walk.{Spoiled}
use Rattle.promises.specs.Calls as calls
use Rattle.promises.proofs.Answers.{refusal_of}
use Rattle.answers.specs.declared.Found.{Found}
use Rattle.answers.specs.Answer.{refusal_answer, count_answer}
use Rattle.answers.proofs.Numbers.{is_refused}
use Rattle.query.specs.WindowRange.{Range}
use Rattle.query.specs.declared.walk.Sum.{Sum}
use Rattle.windows.specs.declared.Corners.{Corners}
use Rattle.std.proofs.Common.{Option, Some, None}
use Rattle.windows.specs.Corners.{window_between, PartBetween, PartCorners, PartOf}
use Rattle.query.specs.Counting.{Ending, done, of_blocks, numbers_of, BlockCounted, RootCase, RootCounted, SumWithin}
use Rattle.query.proofs.Counts.{not_done}
use Rattle.std.specs.Prelude.{Result, Ok, Err}
use Rattle.store.specs.declared.Damaged.{Damaged}
use Rattle.query.proofs.Opens.{list_opens}
use Rattle.query.proofs.WholeTree.{whole_tree}
use Rattle.query.proofs.RootCount.{part_range, AnswersIn, of_root, root_ends, root_tested, root_found, part_between, part_empty, part_counted_lem}
use Rattle.collecting.specs.Listing.{written_at, Lists, BlockListed, RootListed}
use Rattle.listing.specs.Counted.{CountedBefore}
use Rattle.collecting.proofs.WrittenAt.{written_front}

-- 13 of a walk is 13 of list
counted_not : (opens : Window → Forest → ℕ) {words before after : List ℕ} (window : Window) (refusal : Refusal) → length after ≡ length before
    → AnswersIn opens words window (effect (refusal_answer refusal) words words) → calls.ListsIn words window (effect (refusal_answer refusal) before after)
counted_not opens window refusal long c =
    record {
      ends = ⊎_elim (λ a. absurd (is_refused refusal a.accepted)) (λ d. inr (d.0, long)) c.ends;
      spoiled = c.spoiled;
      sound = λ set holds. absurd (is_refused refusal (refusal_of (c.sound set holds).is));
    }

pub counted_before : {words : List ℕ} (window : Window) {counted : Result Found Refusal} {sum : Found} → counted ≡ Ok sum
    → calls.CountsIn words (window) (effect (count_answer counted) words words) → CountedBefore words window sum.found
counted_before window {sum = sum} e count = record { opened = sum.opened; counts = rw e at count }

module _ {words : List ℕ} {window : Window} {n : ℕ} (count : CountedBefore words window n) where
  -- what was found is what 01 finds
  found_is : {set : List ℕ} → Holds words set → n ≡ length (found (window) set)
  found_is {set} holds = ap (λ (a : Answer). a.first) (count.counts.sound set holds).is

  -- never more than N
  found_few : n ≤ (sizes_of words).most
  found_few = ⊎_elim (λ a. a.first_to) (λ d. absurd (omega (arith, refusal_of d.0))) count.counts.ends

  not_spoiled : Spoiled words → ⊥
  not_spoiled s = omega (arith, refusal_of (count.counts.spoiled s))

  pub too_short : {before : List ℕ} {w : ℕ} → w ≡ n → length before < w → calls.ListsIn words (window) (effect (short n) before before)
  too_short wide h =
      record {
        ends = inl (inr (record { returns = record { is = refl; same = refl }; lacks = omega arith; needed_to = found_few }));
        spoiled = λ s. absurd (not_spoiled s);
        sound = λ set holds. stopped (λ l. omega (arith, l, found_is holds)) (record { is = ap short (found_is holds); same = refl });
      }

-- the walk counts too
block_counts : {range : Range} {words before part : List ℕ} {order : ℕ} {t : ℕ × ℕ × ℕ} {e : Ending} → BlockListed range words level_above_root 0 order 0 before part (0, 0, 0) t e
    → BlockCounted opened_by_window range words level_above_root 0 order 0 (0, 0, 0) t e
block_counts listed =
    record {
      walked = record { right = λ k es low view shares. let p = listed.walked.right k es low view shares in record { counts = p.lists.counts; ends = p.ends } };
      closed = listed.closed;
    }

module _ {range : Range} {words before after : List ℕ} {order n : ℕ} where
  root_counts : {r : Result Sum Damaged} → RootListed range words order n before after r → RootCounted opened_by_window range words order r
  root_counts {r} root = go r root.case
    where
      go : (r : Result Sum Damaged) → RootCase (BlockListed range words level_above_root 0 order 0 (take n before) root.part (0, 0, 0)) r → RootCounted opened_by_window range words order r
      go (Ok sum) b = record { case = block_counts b }
      go (Err _) b = record { case = (b.0, block_counts b.1) }

  root_length : {r : Result Sum Damaged} (root : RootListed range words order n before after r) → length root.part ≡ length (take n before)
  root_length {r} root = go r root.case
    where
      go : (r : Result Sum Damaged) → RootCase (BlockListed range words level_above_root 0 order 0 (take n before) root.part (0, 0, 0)) r → length root.part ≡ length (take n before)
      go (Ok sum) b = b.long
      go (Err _) b = b.1.long

-- and writes all that 01 lists of the set
module _ {words before after : List ℕ} {window : Window} {corners : Corners} {t : ℕ × ℕ × ℕ} {e : Ending} (between : PartBetween (panel_of (sizes_of words)) window corners)
    (fits : LayoutWithin (layout_of (sizes_of words)))
    (listed : BlockListed (part_range (layout_of (sizes_of words)) (sizes_of words) corners) words level_above_root 0 (sizes_of words).order 0 before after (0, 0, 0) t e) where
  root_wrote : (set : List ℕ) → Holds words set → length (found (window_between corners) set) ≤ length before → after ≡ written_at before 0 (found (window_between corners) set)
  root_wrote set holds room =
      let (es, w) = whole_tree words set holds between in
      let walked = (listed.walked.right (sizes_of words).k es (omega (arith, w.view.level_to)) w.view w.shares).lists in
      let wrote = (subst (λ (f : Forest). Lists (of_blocks opened_by_window (window_between corners)) (sizes_of words).most (layout_of (sizes_of words)).slots (before, 0, 0, 0) f (after, t.0, t.1, t.2)) (sym w.is_tree) walked).wrote in
      wrote (w.room (list_opens (window_between corners)) fits) (omega (arith, ap length w.all_found)) ∙ ap (written_at before 0) w.all_found

-- the walk from the root, after the count
module _ (words : List ℕ) {sizes : Sizes} (corners : Corners) (usable : UsableStore words) (said : sizes ≡ sizes_of words) (part : PartCorners (panel_of sizes) corners)
    {n w : ℕ} (count : CountedBefore words (window_between corners) n) (wide : w ≡ n) {layout : Layout} {read before after : List ℕ} {o : Result Sum Damaged} (fits : w ≤ length before)
    (laid : LaidOut sizes layout) (same : read ≡ words) (root : RootListed (part_range layout sizes corners) read sizes.order w before after o) where
  between : PartCorners (panel_of (sizes_of words)) corners
  between = subst (λ (s : Sizes). PartCorners (panel_of s) corners) said part

  low : LayoutWithin (layout_of (sizes_of words))
  low = of_root words (λ l z. LayoutWithin l) said laid laid.within

  here : RootListed (part_range (layout_of (sizes_of words)) (sizes_of words) corners) words (sizes_of words).order w before after o
  here = of_root words (λ l z. RootListed (part_range l z corners) words z.order w before after o) said laid (subst (λ (r : List ℕ). RootListed (part_range layout sizes corners) r sizes.order w before after o) same root)

  part_long : length here.part ≡ w
  part_long = root_length here ∙ length-take-le w before fits

  same_length : length after ≡ length before
  same_length = ap length here.is ∙ omega (arith, length-append here.part (drop w before), length-drop w before, part_long)

  rest_same : drop n after ≡ drop n before
  rest_same = subst (λ (i : ℕ). drop i after ≡ drop i before) wide (ap (drop w) here.is ∙ drop_at here.part (drop w before) w part_long)

  -- 02, P4: on a sound store it answers a sum, and tests singly the elements of the opened blocks that are not wholly inside
  pub list_tested : {set : List ℕ} → Holds words set → (sum : Sum) × (o ≡ Ok sum) × (sum.tested ≡ tested_by_window (window_between corners) (tree (panel_of (sizes_of words)) (member set)))
  list_tested = root_tested (list_opens (window_between corners)) between low (root_counts here)

  -- a walk that broke off met damage
  pub not_walked : {d : Damaged} → o ≡ Err d → calls.ListsIn words (window_between corners) (effect (refused 13) before after)
  not_walked {d} e =
      let case = subst (RootCase (BlockListed (part_range (layout_of (sizes_of words)) (sizes_of words) corners) words level_above_root 0 (sizes_of words).order 0 (take w before) here.part (0, 0, 0))) e here.case in
      record {
        ends = inr (refl, same_length);
        spoiled = λ s. refl;
        sound = λ set holds. absurd (not_done refl (root_ends (list_opens (window_between corners)) between low (block_counts case.1) holds));
      }

  module _ {sum : Sum} (e : o ≡ Ok sum) where
    block : BlockListed (part_range (layout_of (sizes_of words)) (sizes_of words) corners) words level_above_root 0 (sizes_of words).order 0 (take w before) here.part (0, 0, 0) (numbers_of sum) done
    block = subst (RootCase (BlockListed (part_range (layout_of (sizes_of words)) (sizes_of words) corners) words level_above_root 0 (sizes_of words).order 0 (take w before) here.part (0, 0, 0))) e here.case

    all_wrote : {set : List ℕ} → Holds words set → after ≡ written_at before 0 (found (window_between corners) set)
    all_wrote {set} holds =
        let n_is = found_is count holds in
        here.is ∙ written_front before here.part (found (window_between corners) set) w (omega (arith, n_is)) fits
        (root_wrote between low block set holds (omega (arith, n_is, length-take-le w before fits)))

    -- the numbers that the blocks say are those of the pixels met
    pub not_agreed : (sum.found ≡ n → ⊥) → calls.ListsIn words (window_between corners) (effect (refused 13) before after)
    not_agreed other =
        record {
          ends = inr (refl, same_length);
          spoiled = λ s. refl;
          sound = λ set holds. absurd (other (root_found (list_opens (window_between corners)) between low (block_counts block) holds ∙ sym (found_is count holds)));
        }

    module _ {r : Result Found Refusal} (within : SumWithin (part_range layout sizes corners) sum r) where
      -- it answers as count does, but with all blocks that it opened
      again : AnswersIn opened_by_window words (window_between corners) (effect (count_answer r) words words)
      again = part_counted_lem (list_opens (window_between corners)) usable said part laid same (root_counts root) e within

      pub not_listed : {refusal : Refusal} → r ≡ Err refusal → calls.ListsIn words (window_between corners) (effect (refusal_answer refusal) before after)
      not_listed {refusal} f = counted_not opened_by_window (window_between corners) refusal same_length (rw f at again)

      pub listed : {told : Found} → r ≡ Ok told → calls.ListsIn words (window_between corners) (effect (accepted n told.opened) before after)
      listed {told} f = go (rw f at again)
        where
          go : AnswersIn opened_by_window words (window_between corners) (effect (accepted told.found told.opened) words words) → calls.ListsIn words (window_between corners) (effect (accepted n told.opened) before after)
          go c = record {
            ends = inl (inl (record {
              accepts = record { accepted = refl; first_to = found_few count; second_to = ⊎_elim (λ a. a.second_to) (λ d. absurd (omega (arith, refusal_of d.0))) c.ends; no_further = refl };
              room = omega arith;
              rest = rest_same;
              long = same_length;
            }));
            spoiled = λ s. absurd (not_spoiled count s);
            sound = λ set holds.
                let n_is = found_is count holds in
                passed (omega (arith, n_is))
                (record {
                  is = ap₂ accepted n_is (ap (λ (a : Answer). a.second) (c.sound set holds).is);
                  wrote = all_wrote holds ∙ ap (λ (i : ℕ). found (window_between corners) set ++ drop i before) (zero-add (length (found (window_between corners) set)));
                });
          }

-- each way out of the call, by the part that its sizes give
module _ (words : List ℕ) {sizes : Sizes} (said : sizes ≡ sizes_of words) (window : Window) {part : Option Corners} (judged : PartOf (panel_of sizes) window part) where
  pub none_listed : {before : List ℕ} → part ≡ None → calls.Lists words window (effect (accepted 0 0) before before)
  none_listed e = stopped (part_empty words said window judged e) (record { is = refl; same = refl })

  module _ {corners : Corners} (e : part ≡ Some corners) where
    pub part_listed_lem : {a : Answer} {before after : List ℕ} → calls.ListsIn words (window_between corners) (effect a before after) → calls.Lists words window (effect a before after)
    part_listed_lem {a} {before} {after} l =
        let between = part_between words said window judged e in
        passed between.ordered (subst (λ (w : Window). calls.ListsIn words w (effect a before after)) between.is l)

    pub not_counted : {before : List ℕ} {counted : Result Found Refusal} {refusal : Refusal} → counted ≡ Err refusal
        → calls.CountsIn words (window_between corners) (effect (count_answer counted) words words) → calls.Lists words window (effect (refusal_answer refusal) before before)
    not_counted {refusal = refusal} f count = part_listed_lem (counted_not crossed_by_window (window_between corners) refusal refl (rw f at count))
