-- What the walk from the root answers is count's answer.
use Rattle.std.proofs.Common.{◌≡◌, ℕ, ◌-◌, ◌^◌, ◌≤◌, min, List, length, sym, refl, ap, ◌∙◌, subst, ap₂, subst₂, inl, inr, arith}
use Rattle.std.specs.Prelude.{Result, Ok, Err}
use Rattle.pktree.specs.Panel.{Panel}
use Rattle.pktree.specs.PixelSet.{member}
use Rattle.pktree.specs.Elements.{Forest}
use Rattle.pktree.specs.Tree.{tree as setTree}
use Rattle.pktree.specs.Window as tree
use Rattle.pktree.specs.Window.{found, Ordered, part_on, crossed_by_window, tested_by_window}
use Rattle.measures.specs.Sizes.{UsableStore, panel_of, slot_count, sizes_of}
use Rattle.measures.specs.Layout.{LaidOut, LayoutWithin, layout_of, level_above_root}
use Rattle.store.specs.Sound.{Holds}
use Rattle.measures.specs.declared.sizes.Sizes.{Sizes}
use Rattle.measures.specs.declared.sizes.Layout.{Layout}
use Rattle.measures.proofs.Usable.{layout_said}
use Rattle.query.specs.WindowRange.{Range}
use Rattle.query.specs.declared.walk.Sum.{Sum}
use Rattle.answers.specs.declared.Refusal.{Refusal}
use Rattle.promises.specs.Answer.{Answer, accepted, refused}
use Rattle.promises.specs.Effect.{Effect, effect, Unchanged, Returns, passed, stopped, part_in}
use Rattle.promises.specs.Walk.{Walks, Accepts}
use Rattle.promises.specs.Calls as calls
use Rattle.promises.proofs.SpoiledRoot.{spoiled_shut}
use Rattle.answers.specs.declared.Found.{Found}
use Rattle.answers.specs.Answer.{refusal_answer, count_answer}
use Rattle.windows.specs.declared.Corners.{Corners}
use Rattle.std.proofs.Common.{Option, Some, None}
use Rattle.windows.specs.Corners.{window_between, PartBetween, PartCorners, PartOf}
use Rattle.query.specs.Counting.{of_blocks, Added, CountsTo, Ending, numbers_of, BlockCounted, RootCounted, RootCase, broken, done, SumCase, SumWithin}
use Rattle.query.proofs.Opens.{Opens, count_opens}
use Rattle.query.proofs.Counts.{not_done}
use Rattle.query.proofs.WholeTree.{whole_tree}
use Rattle.std.specs.Prelude.{Result, Ok, Err}
use Rattle.store.specs.declared.Damaged.{Damaged}

-- as the code makes it
abbrev pub part_range : Layout → Sizes → Corners → Range
part_range layout sizes corners = record { layout = layout; corners = corners; most = sizes.most }

-- the part's numbers of found pixels and of opened blocks on a sound store; for count this is its promise
abbrev pub AnswersIn : (tree.Window → Forest → ℕ) → List ℕ → tree.Window → Effect → Type 0
AnswersIn opens words part =
    Walks words (Accepts (sizes_of words).most (calls.slots_in words)) Unchanged
    (λ set. Returns (accepted (length (found part set)) (opens part (setTree (panel_of (sizes_of words)) (member set)))))

-- what is learnt of the code's layout and order is learnt of the words' own
pub of_root : {sizes : Sizes} {layout : Layout} (words : List ℕ) (P : Layout → Sizes → Type 0) → sizes ≡ sizes_of words → LaidOut sizes layout → P layout sizes
    → P (layout_of (sizes_of words)) (sizes_of words)
of_root words P said laid = subst₂ P (layout_said words said laid) said

module _ {opens : tree.Window → Forest → ℕ} {words : List ℕ} {window : tree.Window} {corners : Corners} {to : ℕ × ℕ × ℕ} {e : Ending} (o : Opens opens (window_between corners))
    (between : PartBetween (panel_of (sizes_of words)) window corners) (within : LayoutWithin (layout_of (sizes_of words)))
    (root : BlockCounted opens (part_range (layout_of (sizes_of words)) (sizes_of words) corners) words level_above_root 0 (sizes_of words).order 0 (0, 0, 0) to e) where
  root_walked : {set : List ℕ} → Holds words set
      → CountsTo e (of_blocks opens (window_between corners)) (sizes_of words).most (layout_of (sizes_of words)).slots (0, 0, 0) (setTree (panel_of (sizes_of words)) (member set)) to
  root_walked {set} holds =
      let (es, t) = whole_tree words set holds between in
      let walked = root.walked.right (sizes_of words).k es (omega (arith, t.view.level_to)) t.view t.shares in
      subst (λ (f : Forest). CountsTo e (of_blocks opens (window_between corners)) (sizes_of words).most (layout_of (sizes_of words)).slots (0, 0, 0) f to) (sym t.is_tree) walked

  -- on a sound store a walk adds what the definitions say of the tree of the set
  root_added : {set : List ℕ} → Holds words set → Added (of_blocks opens (window_between corners)) (0, 0, 0) (setTree (panel_of (sizes_of words)) (member set)) to
  root_added {set} holds = let (es, t) = whole_tree words set holds between in (root_walked holds).counts.says (t.room o within)

  -- and comes to its end
  pub root_ends : {set : List ℕ} → Holds words set → e ≡ done
  root_ends {set} holds = let (es, t) = whole_tree words set holds between in (root_walked holds).ends (t.room o within)

  -- 02, P4: it tests singly the elements of the opened blocks that are not wholly inside
  pub walk_tested : {set : List ℕ} → Holds words set → to.2 ≡ tested_by_window (window_between corners) (setTree (panel_of (sizes_of words)) (member set))
  walk_tested holds = omega (arith, (root_added holds).tested_is)

  sum_is : {set : List ℕ} → Holds words set
      → (to.0 ≡ length (found (window_between corners) set)) × (to.1 ≡ opens (window_between corners) (setTree (panel_of (sizes_of words)) (member set)))
      × (to.0 ≤ (sizes_of words).most) × (to.1 ≤ slot_count (sizes_of words).k (sizes_of words).most)
  sum_is {set} holds =
      let (es, t) = whole_tree words set holds between in
      let a = root_added holds in
      let n = ap length t.all_found in
      (omega (arith, a.found_is, n), omega (arith, a.opened_is), omega (arith, a.found_is, n, t.few), omega (arith, a.opened_is, (t.room o within).few_opened))

  pub root_found : {set : List ℕ} → Holds words set → to.0 ≡ length (found (window_between corners) set)
  root_found holds = (sum_is holds).0

  -- a walk that broke off met damage
  root_broken : e ≡ broken → AnswersIn opens words (window_between corners) (effect (refused 13) words words)
  root_broken broke = record { ends = inr (refl, refl); spoiled = λ s. refl; sound = λ set holds. absurd (not_done broke (root_ends holds)) }

  root_counted : {sum : Sum} → to ≡ numbers_of sum → e ≡ done → (usable : UsableStore words) (r : Result Found Refusal) → SumCase (part_range (layout_of (sizes_of words)) (sizes_of words) corners) sum r
      → AnswersIn opens words (window_between corners) (effect (count_answer r) words words)
  root_counted is ended usable (Ok told) h =
      record {
        ends = inl (record { accepted = refl; first_to = h.2; second_to = h.3; no_further = refl });
        spoiled = λ s. absurd (not_done (root.closed (spoiled_shut words usable s)) ended);
        sound = λ set holds. let s = sum_is holds in
            record { is = ap₂ accepted (h.0 ∙ sym (ap (λ (t : ℕ × ℕ × ℕ). t.0) is) ∙ s.0) (h.1 ∙ sym (ap (λ (t : ℕ × ℕ × ℕ). t.1) is) ∙ s.1); same = refl };
      }
  root_counted is ended usable (Err refusal) h =
      let same = ap refusal_answer h.0 in
      record {
        ends = inr (same, refl);
        spoiled = λ s. same;
        sound = λ set holds. let s = sum_is holds in
            absurd (omega (arith, h.1 (omega (arith, s.2, ap (λ (t : ℕ × ℕ × ℕ). t.0) is)), s.3, ap (λ (t : ℕ × ℕ × ℕ). t.1) is));
      }

-- so of whatever the walk from the root answers: on a sound store it is a sum
pub root_tested : {opens : tree.Window → Forest → ℕ} {words : List ℕ} {window : tree.Window} {corners : Corners} {r : Result Sum Damaged} (o : Opens opens (window_between corners))
    (between : PartBetween (panel_of (sizes_of words)) window corners) (within : LayoutWithin (layout_of (sizes_of words)))
    → RootCounted opens (part_range (layout_of (sizes_of words)) (sizes_of words) corners) words (sizes_of words).order r
    → {set : List ℕ} → Holds words set → (sum : Sum) × (r ≡ Ok sum) × (sum.tested ≡ tested_by_window (window_between corners) (setTree (panel_of (sizes_of words)) (member set)))
root_tested {opens} {words} {corners = corners} {r = r} o between within root {set} holds = go r root.case
  where
    go : (r : Result Sum Damaged) → RootCase (BlockCounted opens (part_range (layout_of (sizes_of words)) (sizes_of words) corners) words level_above_root 0 (sizes_of words).order 0 (0, 0, 0)) r
        → (sum : Sum) × (r ≡ Ok sum) × (sum.tested ≡ tested_by_window (window_between corners) (setTree (panel_of (sizes_of words)) (member set)))
    go (Ok sum) case = (sum, refl, walk_tested o between within case holds)
    go (Err _) case = absurd (not_done refl (root_ends o between within case.1 holds))

-- the part of a part is itself
part_again : (panel : Panel) (window : tree.Window) → part_on panel window ≡ part_on panel (part_on panel window)
part_again panel window =
    let x : min window.x1 (2 ^ panel.order - 1) ≡ min (min window.x1 (2 ^ panel.order - 1)) (2 ^ panel.order - 1) = omega arith in
    let y : min window.y1 (2 ^ panel.order - 1) ≡ min (min window.y1 (2 ^ panel.order - 1)) (2 ^ panel.order - 1) = omega arith in
    rw (← x, ← y)

pub given_part : {panel : Panel} (window : tree.Window) {part : Option Corners} {corners : Corners} → PartOf panel window part → part ≡ Some corners → PartCorners panel corners
given_part {panel} window {corners = corners} judged e =
    let between : PartBetween panel window corners = rw e at judged in
    record { is = between.is ∙ part_again panel window ∙ ap (part_on panel) (sym between.is); ordered = subst Ordered (part_again panel window ∙ ap (part_on panel) (sym between.is)) between.ordered }

-- the part that the code's sizes give is that of the words' own
module _ (words : List ℕ) {sizes : Sizes} (said : sizes ≡ sizes_of words) (window : tree.Window) {part : Option Corners} (judged : PartOf (panel_of sizes) window part) where
  pub part_between : {corners : Corners} → part ≡ Some corners → PartBetween (panel_of (sizes_of words)) window corners
  part_between {corners} e = subst (λ (s : Sizes). PartBetween (panel_of s) window corners) said (rw e at judged)

  pub part_empty : part ≡ None → Ordered (part_in words window) → ⊥
  part_empty e = subst (λ (s : Sizes). Ordered (part_on (panel_of s) window) → ⊥) said (rw e at judged)

-- by the call's sizes; the words of the slots are the store's own
module _ {opens : tree.Window → Forest → ℕ} {words given : List ℕ} {sizes : Sizes} {layout : Layout} {corners : Corners} {o : Result Sum Damaged} (opening : Opens opens (window_between corners))
    (usable : UsableStore words) (said : sizes ≡ sizes_of words) (part : PartCorners (panel_of sizes) corners) (laid : LaidOut sizes layout) (same : given ≡ words)
    (root : RootCounted opens (part_range layout sizes corners) given sizes.order o) where
  here : PartCorners (panel_of (sizes_of words)) corners
  here = subst (λ (s : Sizes). PartCorners (panel_of s) corners) said part

  low : LayoutWithin (layout_of (sizes_of words))
  low = of_root words (λ l z. LayoutWithin l) said laid laid.within

  root_here : RootCounted opens (part_range (layout_of (sizes_of words)) (sizes_of words) corners) words (sizes_of words).order o
  root_here = of_root words (λ l z. RootCounted opens (part_range l z corners) words z.order o) said laid (subst (λ (w : List ℕ). RootCounted opens (part_range layout sizes corners) w sizes.order o) same root)

  pub part_counted_lem : {sum : Sum} {r : Result Found Refusal} → o ≡ Ok sum → SumWithin (part_range layout sizes corners) sum r
      → AnswersIn opens words (window_between corners) (effect (count_answer r) words words)
  part_counted_lem {sum} {r} e within =
      let case : RootCase (BlockCounted opens (part_range (layout_of (sizes_of words)) (sizes_of words) corners) words level_above_root 0 (sizes_of words).order 0 (0, 0, 0)) (Ok sum) =
      rw e at root_here.case in
      root_counted opening here low case refl refl usable r (of_root words (λ l z. SumWithin (part_range l z corners) sum r) said laid within).case

  pub part_broken : {d : Damaged} → o ≡ Err d → AnswersIn opens words (window_between corners) (effect (refused 13) words words)
  part_broken {d} e =
      let case : RootCase (BlockCounted opens (part_range (layout_of (sizes_of words)) (sizes_of words) corners) words level_above_root 0 (sizes_of words).order 0 (0, 0, 0)) (Err d) =
      rw e at root_here.case in
      root_broken opening here low case.1 refl

-- count's own, of a part that is not the whole panel
module _ {words given : List ℕ} {sizes : Sizes} {layout : Layout} {corners : Corners} {o : Result Sum Damaged}
    (usable : UsableStore words) (said : sizes ≡ sizes_of words) (part : PartCorners (panel_of sizes) corners) (laid : LaidOut sizes layout) (same : given ≡ words)
    (root : RootCounted crossed_by_window (part_range layout sizes corners) given sizes.order o) where
  pub count_counted : {sum : Sum} {r : Result Found Refusal} → o ≡ Ok sum → SumWithin (part_range layout sizes corners) sum r
      → calls.CountsIn words (window_between corners) (effect (count_answer r) words words)
  count_counted = part_counted_lem (count_opens (window_between corners)) usable said part laid same root

  pub count_broken : {d : Damaged} → o ≡ Err d → calls.CountsIn words (window_between corners) (effect (refused 13) words words)
  count_broken = part_broken (count_opens (window_between corners)) usable said part laid same root

-- the walk of a part, and the answer where there is none
module _ (words : List ℕ) {sizes : Sizes} (said : sizes ≡ sizes_of words) (window : tree.Window) {part : Option Corners} (judged : PartOf (panel_of sizes) window part) where
  pub counted_part : {corners : Corners} {a : Answer} → part ≡ Some corners → calls.CountsIn words (window_between corners) (effect a words words) → calls.Counts words window (effect a words words)
  counted_part {a = a} e counted =
      let between = part_between words said window judged e in
      passed between.ordered (subst (λ (w : tree.Window). calls.CountsIn words w (effect a words words)) between.is counted)

  pub none_counted : part ≡ None → calls.Counts words window (effect (accepted 0 0) words words)
  none_counted e = stopped (part_empty words said window judged e) (record { is = refl; same = refl })
