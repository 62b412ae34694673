-- 02, P6: the count of the whole panel is the root's number.
use Rattle.std.proofs.Common.{◌≡◌, ℕ, ◌<◌, ◌≤◌, Bool, true, List, length, sym, refl, ap, ◌∙◌, subst, ap₂, inl, inr, le_trans, arith, pow_pos}
use native.Mathlib.Nat.{pow-le-pow_right}
use Rattle.pktree.specs.Elements.{empty}
use Rattle.pktree.specs.Tree.{block_of}
use Rattle.pktree.specs.Window as tree
use Rattle.pktree.proofs.Alignment.{aligned_root}
use Rattle.pktree.specs.Window.{wholly_inside}
use Rattle.measures.specs.declared.sizes.Sizes.{Sizes}
use Rattle.measures.specs.declared.sizes.Layout.{Layout}
use Rattle.measures.specs.Sizes.{UsableStore, sizes_of, slot_count, slot_width}
use Rattle.measures.specs.Layout.{LaidOut}
use Rattle.measures.specs.Slot.{slot_part, number_word}
use Rattle.measures.proofs.Bounds.{slot_ends}
use Rattle.measures.proofs.SlotWrites.{slot_length}
use Rattle.measures.proofs.Usable.{layout_said}
use Rattle.store.specs.Opening.{Opened, RootCannotOpen, damaged}
use Rattle.store.specs.declared.Damaged.{Damaged}
use Rattle.std.specs.Prelude.{Result, Ok, Err}
use Rattle.store.specs.Sound.{Holds}
use Rattle.store.proofs.SoundView.{sound_view}
use Rattle.store.proofs.OpenedSlot.{slot_opened, slot_shut, opened_not_shut, header_of_standing}
use Rattle.store.proofs.Held.{held_number}
use Rattle.answers.specs.declared.Refusal.{Refusal}
use Rattle.answers.specs.declared.Found.{Found}
use Rattle.answers.specs.declared.Refusal.TheVariants.{StoreDamaged}
use Rattle.answers.specs.Answer.{refusal_answer, count_answer}
use Rattle.promises.specs.Answer.{accepted, refused}
use Rattle.promises.specs.Effect.{effect, passed}
use Rattle.promises.specs.Calls as calls
use Rattle.promises.proofs.SpoiledRoot.{spoiled_shut}
use Rattle.promises.proofs.WholePanel.{whole_answer, root_inside}
use Rattle.windows.specs.declared.Window.{Window}
use Rattle.windows.specs.declared.Corners.{Corners}
use Rattle.windows.specs.Corners.{window_of, window_between, OnGrid, InsideTested, HasPanel, PanelTested}
use Rattle.query.specs.Counting.{root_part, WholeCase, WholeCounted}

-- what opening the root's slot shows
module _ (words : List ℕ) {sizes : Sizes} {layout : Layout} (said : sizes ≡ sizes_of words) (laid : LaidOut sizes layout) where
  root_slot_lem : {root : List ℕ} → root ≡ slot_part layout.width words 0 → root ≡ root_part words
  root_slot_lem is = is ∙ ap (λ (l : Layout). slot_part l.width words 0) (layout_said words said laid)

  most_is : sizes.most ≡ (sizes_of words).most
  most_is = ap (λ (z : Sizes). z.most) said

  here : (root : List ℕ) (o : Result ℕ Damaged) → Opened root sizes.order 0 o → Opened root (sizes_of words).order 0 o
  here root o = subst (λ (z : Sizes). Opened root z.order 0 o) said

  module _ {root : List ℕ} (root_is : root ≡ slot_part layout.width words 0) where
    pub root_shut : {o : Result ℕ Damaged} → o ≡ damaged → Opened root sizes.order 0 o → WholeCounted words (Err StoreDamaged)
    root_shut {o} e opened = record { case = (refl, λ opens. absurd (opens (slot_shut (root_slot_lem root_is) (here root o opened) e).shut)) }

    pub number_above : sizes.most < number_word root → WholeCounted words (Err StoreDamaged)
    number_above h = record { case = (refl, λ opens. omega (arith, ap number_word (root_slot_lem root_is), most_is)) }

    pub number_within : {o : Result ℕ Damaged} {count : ℕ} → o ≡ Ok count → Opened root sizes.order 0 o → number_word root ≤ sizes.most → WholeCounted words (Ok (record { found = number_word root; opened = 0 }))
    number_within {o} e opened h =
        record { case = (ap number_word (root_slot_lem root_is), refl, omega (arith, most_is), (λ shut. opened_not_shut (slot_opened (root_slot_lem root_is) (here root o opened) e) shut)) }

-- so it answers as count must, where the root lies wholly inside the part
module _ {words : List ℕ} (usable : UsableStore words) where
  -- the root of a sound store can be opened
  root_opens : {set : List ℕ} → Holds words set → RootCannotOpen words → ⊥
  root_opens holds shut =
      let (es, v) = sound_view words holds.placed holds.sound in
      let k : ℕ = (sizes_of words).k in
      let there = slot_ends 0 (slot_count k (sizes_of words).most) (slot_width k) (omega (arith, v.few)) in
      shut (header_of_standing (omega (arith, slot_length (slot_width k) 0 words (omega (arith, there, usable.enough)))) v.says)

  pub whole_counted : (window : tree.Window) {r : Result Found Refusal} → WholeCounted words r → wholly_inside window (block_of (sizes_of words).order 0 empty) ≡ true
      → calls.CountsIn words window (effect (count_answer r) words words)
  whole_counted window {r} whole inside = go r whole.case
    where
      go : (r : Result Found Refusal) → WholeCase words r → calls.CountsIn words window (effect (count_answer r) words words)
      go (Ok told) h =
          record {
            ends = inl (record { accepted = refl; first_to = h.2; second_to = omega (arith, h.1); no_further = refl });
            spoiled = λ s. absurd (h.3 (spoiled_shut words usable s));
            sound = λ set holds. record { is = ap₂ accepted (h.0 ∙ held_number holds) h.1 ∙ sym (whole_answer holds window inside); same = refl };
          }
      go (Err refusal) h =
          let is = ap refusal_answer h.0 in
          record {
            ends = inr (is, refl);
            spoiled = λ s. is;
            sound = λ set holds. absurd (omega (arith, h.1 (root_opens holds), held_number holds, holds.sound.fits, ap length holds.set_is));
          }

  -- of a part in which the root was found to lie
  pub part_whole : {sizes : Sizes} {corners : Corners} {b : Bool} {r : Result Found Refusal} → sizes ≡ sizes_of words → InsideTested corners sizes.order 0 b → b ≡ true → WholeCounted words r
      → calls.CountsIn words (window_between corners) (effect (count_answer r) words words)
  part_whole {corners = corners} {b = b} said tested e whole =
      let panel = usable.valid.panel in
      let grid : OnGrid (sizes_of words).order 0 =
      record {
        level_from = panel.order_from;
        level_to = panel.order_to;
        aligned = aligned_root (sizes_of words).order;
        ends = le_trans (omega arith) (pow-le-pow_right {n = 4} (omega arith) panel.order_to);
      } in
      whole_counted (window_between corners) whole (sym ((subst (λ (z : Sizes). InsideTested corners z.order 0 b) said tested).says grid empty) ∙ e)

  -- of a window that has the panel
  pub panel_counted : {sizes : Sizes} {window : Window} {b : Bool} {r : Result Found Refusal} → sizes ≡ sizes_of words → PanelTested sizes window b → b ≡ true → WholeCounted words r
      → calls.Counts words (window_of window) (effect (count_answer r) words words)
  panel_counted {window = window} {r = r} said tested e whole =
      let has : HasPanel (sizes_of words).order window = subst (λ (z : Sizes). HasPanel z.order window) said (tested.holds e) in
      let given : calls.window_given 0 0 window.x1 window.y1 ≡ window_of window =
      ap₂ (λ (x y : ℕ). calls.window_given x y window.x1 window.y1) (sym has.first_column) (sym has.first_row) in
      let side = pow_pos (sizes_of words).order in
      subst (λ (w : tree.Window). calls.Counts words w (effect (count_answer r) words words)) given
      (passed (record { x_ordered = omega (arith, has.last_column, side); y_ordered = omega (arith, has.last_row, side) })
      (whole_counted _ whole (root_inside {words = words} window.x1 window.y1 usable has.last_column has.last_row)))

  -- on any words, a root's number above N is damage
  pub number_above_refused : {r : Result Found Refusal} → WholeCounted words r → (sizes_of words).most < number_word (root_part words) → count_answer r ≡ refused 13
  number_above_refused {r} whole above = go r whole.case
    where
      go : (r : Result Found Refusal) → WholeCase words r → count_answer r ≡ refused 13
      go (Ok told) h = absurd (omega (arith, h.0, h.2))
      go (Err refusal) h = ap refusal_answer h.0
