-- Which number a call returns, exactly when: every refusal that is decided before the walk, on any words and bytes.
use Prim.Native.Nat.{ℕ, ◌≤◌, ◌<◌}
use native.Mathlib.Omega.{arith}
use mathlib.Core.Path.{◌≡◌, sym, subst, ◌∙◌}
use mathlib.Core.Logic.{◌⊎◌, inl, inr, ⊎_elim, ◌↔◌}
use mathlib.Core.List.{List, []}
use lib.ListN.{length}
use Rattle.pktree.specs.Lists.{Every}
use Rattle.pktree.specs.Panel.{OnPanel}
use Rattle.pktree.specs.PixelSet.{Ascending, PixelSet}
use Rattle.pktree.specs.Window.{Window, Ordered}
use Rattle.pktree.proofs.Parts.{WhollyOff, empty_exactly}
use Rattle.measures.specs.Sizes.{panel_of, sizes_of, store_words, ValidSizes, UsableStore}
use Rattle.promises.specs.Effect.{HasPixelOn, Effect, effect, passed, stopped, OfPixel, OfWindow, OfPart, Unchanged}
use Rattle.image.specs.Judged.{WellFormed, FitsRegister, ImageOfSome}
use Rattle.image.specs.Held.{HasImage, SomeHasImage, panel_in, most_in}
use Rattle.image.proofs.Accepted.{image_well_formed, image_fits, image_of_some, one_set}
use Rattle.promises.specs.Answer.{Answer, accepted, refused}
use Rattle.promises.specs.Walk.{Walks, Searches}
use Rattle.promises.specs.Change.{Becomes}
use Rattle.promises.specs.Output.{WrittenOrShort}
use Rattle.promises.specs.Calls.{asked, MakeMeets, MarkMeets, ClearMeets, Loaded, LoadMeets, FillMeets, AskMeets, NearestMeets, window_given, CountMeets, ListMeets, SaveMeets, CheckMeets}
use Rattle.promises.proofs.Answers.{refusal_of, first_of}
use Rattle.promises.proofs.Holding.{Holding, now_holding}
use Rattle.promises.proofs.Ladder.{number_is, where_holds, where_fails, never, exactly, then_exactly, accepted_passed, FourChecks, four_checks}
use Rattle.store.specs.Sound.{IsSound}

-- a number of the walk, of none of the checks before it
abbrev OfWalk : ℕ → Type 0
OfWalk n = (n ≡ 3 → ⊥) × (n ≡ 4 → ⊥) × (n ≡ 8 → ⊥) × (n ≡ 15 → ⊥)

of_walk : {r : ℕ} (n : ℕ) → OfWalk n → r ≡ n → OfWalk r
of_walk n w e = subst OfWalk (sym e) w

walk_number : {words : List ℕ} {Answers Damaged : Effect → Type 0} {Right : List ℕ → Effect → Type 0} {e : Effect}
    → (Answers e → OfWalk e.answer.refusal) → Walks words Answers Damaged Right e → OfWalk e.answer.refusal
walk_number answers w = ⊎_elim answers (λ d. of_walk 13 (omega arith, omega arith, omega arith, omega arith) (refusal_of d.0)) w.ends

accepted_number : {r : ℕ} → r ≡ 0 → OfWalk r
accepted_number z = of_walk 0 (omega arith, omega arith, omega arith, omega arith) z

output_number : {first second : ℕ} {e : Effect} → WrittenOrShort first second e → OfWalk e.answer.refusal
output_number (inl w) = accepted_number w.accepts.accepted
output_number (inr s) = of_walk 9 (omega arith, omega arith, omega arith, omega arith) (number_is s.returns)

-- 3 and 4 of mark, clear and ask
pub record PixelRefusals (words : List ℕ) (x y : ℕ) (a : Answer) : Type 0 where
  pub unusable : (a.refusal ≡ 3) ↔ (UsableStore words → ⊥)
  pub off_panel : (a.refusal ≡ 4) ↔ (UsableStore words × (HasPixelOn words x y → ⊥))

-- 3 and 8 of count and list; 02, P3: 4 never comes, and a window wholly off the panel is answered before a slot is looked at
pub record WindowRefusals (words : List ℕ) (window : Window) (a : Answer) : Type 0 where
  pub unusable : (a.refusal ≡ 3) ↔ (UsableStore words → ⊥)
  pub never_off_panel : a.refusal ≡ 4 → ⊥
  pub reversed : (a.refusal ≡ 8) ↔ (UsableStore words × (Ordered window → ⊥))
  pub wholly_off : UsableStore words → Ordered window → WhollyOff (panel_of (sizes_of words)) window → a ≡ accepted 0 0

-- 01: x0 > x1 or y0 > y1
pub not_in_order : {x0 y0 x1 y1 : ℕ} → (x1 < x0) ⊎ (y1 < y0) → Ordered (window_given x0 y0 x1 y1) → ⊥
not_in_order (inl x) ordered = omega (arith, x, ordered.x_ordered)
not_in_order (inr y) ordered = omega (arith, y, ordered.y_ordered)

module _ {words : List ℕ} {rest : Effect → Type 0} {e : Effect} (number : rest e → OfWalk e.answer.refusal) where
  pixel_refusals : {x y : ℕ} → OfPixel words x y rest e → PixelRefusals words x y e.answer
  pixel_refusals m = record {
    unusable = exactly (never (omega arith) (λ r. (number r).0)) m;
    off_panel = then_exactly (omega arith) (exactly (λ r. (number r).1)) m;
  }

  window_refusals : {window : Window} → OfWindow words window (OfPart words window rest) e → WindowRefusals words window e.answer
  window_refusals {window} m = record {
    unusable = exactly (never (omega arith) (never (omega arith) (λ r. (number r).0))) m;
    never_off_panel = never (omega arith) (never (omega arith) (never (omega arith) (λ r. (number r).1))) m;
    reversed = then_exactly (omega arith) (exactly (never (omega arith) (λ r. (number r).2))) m;
    wholly_off = λ u o off. (where_fails (where_holds (where_holds m u) o) ((empty_exactly (panel_of (sizes_of words)) window).1 off)).is;
  }

module _ {before after : List ℕ} {x y : ℕ} {a : Answer} where
  pub mark_refusals : MarkMeets before after x y a → PixelRefusals before x y a
  mark_refusals m =
      pixel_refusals
      (walk_number
      (⊎_elim (λ d. accepted_number (refusal_of d.done))
      (⊎_elim (λ r. of_walk 5 (omega arith, omega arith, omega arith, omega arith) (number_is r)) (λ r. of_walk 6 (omega arith, omega arith, omega arith, omega arith) (number_is r)))))
      m

  pub clear_refusals : ClearMeets before after x y a → PixelRefusals before x y a
  clear_refusals m =
      pixel_refusals
      (walk_number (⊎_elim (λ d. accepted_number (refusal_of d.done)) (λ r. of_walk 7 (omega arith, omega arith, omega arith, omega arith) (number_is r))))
      m

pub ask_refusals : {words : List ℕ} {x y : ℕ} {a : Answer} → AskMeets words x y a → PixelRefusals words x y a
ask_refusals m = pixel_refusals (walk_number (λ b. accepted_number b.answered)) m

-- 02, P5: 3 and 4 of nearest as of ask, then 15
pub record NearestRefusals (words : List ℕ) (x y budget : ℕ) (a : Answer) : Type 0 where
  pub unusable : (a.refusal ≡ 3) ↔ (UsableStore words → ⊥)
  pub off_panel : (a.refusal ≡ 4) ↔ (UsableStore words × (HasPixelOn words x y → ⊥))
  pub no_budget : (a.refusal ≡ 15) ↔ (UsableStore words × (HasPixelOn words x y × (1 ≤ budget → ⊥)))

search_number : {words : List ℕ} {opened : ℕ} {Right : List ℕ → Effect → Type 0} {e : Effect} → Walks words (Searches opened) Unchanged Right e → OfWalk e.answer.refusal
search_number w = walk_number (λ s. accepted_number s.ended) w

pub nearest_refusals : {words : List ℕ} {x y budget : ℕ} {a : Answer} → NearestMeets words x y budget a → NearestRefusals words x y budget a
nearest_refusals m = record {
  unusable = exactly (never (omega arith) (never (omega arith) (λ w. (search_number w).0))) m;
  off_panel = then_exactly (omega arith) (exactly (never (omega arith) (λ w. (search_number w).1))) m;
  no_budget = then_exactly (omega arith) (then_exactly (omega arith) (exactly (λ w. (search_number w).3))) m;
}

module _ {words : List ℕ} {x0 y0 x1 y1 : ℕ} {a : Answer} where
  pub count_refusals : CountMeets words x0 y0 x1 y1 a → WindowRefusals words (window_given x0 y0 x1 y1) a
  count_refusals m = window_refusals (walk_number (λ b. accepted_number b.accepted)) m

  pub list_refusals : {before after : List ℕ} → ListMeets words x0 y0 x1 y1 before after a → WindowRefusals words (window_given x0 y0 x1 y1) a
  list_refusals m = window_refusals (walk_number output_number) m

pub save_unusable : {words before after : List ℕ} {a : Answer} → SaveMeets words before after a → (a.refusal ≡ 3) ↔ (UsableStore words → ⊥)
save_unusable m = exactly (λ w. (walk_number output_number w).0) m

-- make: 1, 2, and when it is accepted
pub record MakeRefusals (before : List ℕ) (m k most : ℕ) (a : Answer) : Type 0 where
  pub beyond_limits : (a.refusal ≡ 1) ↔ (ValidSizes (asked m k most) → ⊥)
  pub too_short : (a.refusal ≡ 2) ↔ (ValidSizes (asked m k most) × (store_words (asked m k most) ≤ length before → ⊥))
  pub made : (a.refusal ≡ 0) ↔ (ValidSizes (asked m k most) × (store_words (asked m k most) ≤ length before))

module _ {before after : List ℕ} {m k most : ℕ} {a : Answer} (meets : MakeMeets before after m k most a) where
  not_made : {number : ℕ} → (0 ≡ number → ⊥) → Becomes (asked m k most) [] (effect a before after) → a.refusal ≡ number → ⊥
  not_made other b z = other (sym (refusal_of b.done.done) ∙ z)

  pub accepted_makes : a.refusal ≡ 0 → Holding (asked m k most) [] a after
  accepted_makes z = now_holding (accepted_passed (omega arith) (accepted_passed (omega arith) meets z).1 z).1

  pub make_refusals : MakeRefusals before m k most a
  make_refusals = record {
    beyond_limits = exactly (never (omega arith) (not_made (omega arith))) meets;
    too_short = then_exactly (omega arith) (exactly (not_made (omega arith))) meets;
    made = (
      λ z. let p = accepted_passed (omega arith) meets z in (p.0, (accepted_passed (omega arith) p.1 z).0),
      λ p. refusal_of (where_holds (where_holds meets p.0) p.1).done.done,
    );
  }

-- load: 3, 10, 11, 12, and when it is accepted
pub record LoadRefusals (before bytes : List ℕ) (a : Answer) : Type 0 where
  pub unusable : (a.refusal ≡ 3) ↔ (UsableStore before → ⊥)
  pub not_an_image : (a.refusal ≡ 10) ↔ (UsableStore before × (WellFormed bytes → ⊥))
  pub image_unlike : (a.refusal ≡ 11) ↔ (UsableStore before × (WellFormed bytes × (FitsRegister (panel_in before) (most_in before) bytes → ⊥)))
  pub image_damaged : (a.refusal ≡ 12)
      ↔ (UsableStore before × (WellFormed bytes × (FitsRegister (panel_in before) (most_in before) bytes × (ImageOfSome (panel_in before) bytes → ⊥))))
  pub loaded : (a.refusal ≡ 0) ↔ (UsableStore before × SomeHasImage (panel_in before) (most_in before) bytes)

module _ {before after bytes : List ℕ} {a : Answer} (meets : LoadMeets before after bytes a) where
  -- the image of a set that the register can hold is accepted, and that set is held
  pub image_loaded : UsableStore before → {set : List ℕ} → HasImage (panel_in before) (most_in before) bytes set → Holding (sizes_of before) set a after
  image_loaded u has =
      let l = where_holds (where_holds (where_holds (where_holds meets u) (image_well_formed u has)) (image_fits u has)) (image_of_some u has) in
      subst (λ (z : List ℕ). Holding (sizes_of before) z a after) (one_set u l.has_image has) (now_holding l.loaded)

  checked : FourChecks (UsableStore before) (WellFormed bytes) (FitsRegister (panel_in before) (most_in before) bytes) (ImageOfSome (panel_in before) bytes) 10 11 12
      (Loaded bytes) (effect a before after)
  checked = four_checks (omega arith) (omega arith) (omega arith) (λ l. refusal_of l.loaded.done.done) meets

  pub load_refusals : LoadRefusals before bytes a
  load_refusals = record {
    unusable = checked.first;
    not_an_image = checked.second;
    image_unlike = checked.third;
    image_damaged = checked.fourth;
    loaded = (
      λ z. let l = checked.accepted z in (l.0.0, record { set = l.1.set; has_image = l.1.has_image }),
      λ c. refusal_of (image_loaded c.0 c.1.has_image).done,
    );
  }

-- load leaves the store where no set that it can hold has these bytes as its image
pub else_unchanged : {before after bytes : List ℕ} {a : Answer} → LoadMeets before after bytes a → (SomeHasImage (panel_in before) (most_in before) bytes → ⊥) → after ≡ before
else_unchanged (stopped f r) none = r.same
else_unchanged (passed u (stopped f r)) none = r.same
else_unchanged (passed u (passed w (stopped f r))) none = r.same
else_unchanged (passed u (passed w (passed t (stopped f r)))) none = r.same
else_unchanged (passed u (passed w (passed t (passed s l)))) none = absurd (none (record { set = l.set; has_image = l.has_image }))

-- fill: 3, 4, 6, 14, and when it is accepted
pub record FillRefusals (before codes : List ℕ) (a : Answer) : Type 0 where
  pub unusable : (a.refusal ≡ 3) ↔ (UsableStore before → ⊥)
  pub off_panel : (a.refusal ≡ 4) ↔ (UsableStore before × (Every (OnPanel (panel_in before)) codes → ⊥))
  pub too_many : (a.refusal ≡ 6) ↔ (UsableStore before × (Every (OnPanel (panel_in before)) codes × (length codes ≤ most_in before → ⊥)))
  pub not_ascending : (a.refusal ≡ 14)
      ↔ (UsableStore before × (Every (OnPanel (panel_in before)) codes × (length codes ≤ most_in before × (Ascending 0 codes → ⊥))))
  pub filled : (a.refusal ≡ 0) ↔ (UsableStore before × (PixelSet (panel_in before) codes × (length codes ≤ most_in before)))

module _ {before after codes : List ℕ} {a : Answer} (meets : FillMeets before after codes a) where
  -- a set that the register can hold is accepted, and held
  pub set_filled : UsableStore before → PixelSet (panel_in before) codes → length codes ≤ most_in before → Holding (sizes_of before) codes a after
  set_filled u set room = now_holding (where_holds (where_holds (where_holds (where_holds meets u) set.on_panel) room) set.ascending)

  judged : FourChecks (UsableStore before) (Every (OnPanel (panel_in before)) codes) (length codes ≤ most_in before) (Ascending 0 codes) 4 6 14
      (Becomes (sizes_of before) codes) (effect a before after)
  judged = four_checks (omega arith) (omega arith) (omega arith) (λ b. refusal_of b.done.done) meets

  pub fill_refusals : FillRefusals before codes a
  fill_refusals = record {
    unusable = judged.first;
    off_panel = judged.second;
    too_many = judged.third;
    not_ascending = judged.fourth;
    filled = (
      λ z. let (u, (on, (room, up))) = (judged.accepted z).0 in (u, (record { ascending = up; on_panel = on }, room)),
      λ c. refusal_of (set_filled c.0 c.1.0 c.1.1).done,
    );
  }

-- fill leaves the store where the codes are no set that it can hold
pub else_unfilled : {before after codes : List ℕ} {a : Answer} → FillMeets before after codes a
    → (PixelSet (panel_in before) codes → length codes ≤ most_in before → ⊥) → after ≡ before
else_unfilled (stopped f r) none = r.same
else_unfilled (passed u (stopped f r)) none = r.same
else_unfilled (passed u (passed on (stopped f r))) none = r.same
else_unfilled (passed u (passed on (passed room (stopped f r)))) none = r.same
else_unfilled (passed u (passed on (passed room (passed up b)))) none = absurd (none (record { ascending = up; on_panel = on }) room)

-- check: 3, yes and no
pub record CheckAnswers (words : List ℕ) (a : Answer) : Type 0 where
  pub unusable : (a ≡ refused 3) ↔ (UsableStore words → ⊥)
  pub yes : (a ≡ accepted 1 0) ↔ IsSound words
  pub no : (a ≡ accepted 0 0) ↔ (UsableStore words × (IsSound words → ⊥))

pub check_answers : {words : List ℕ} {a : Answer} → CheckMeets words a → CheckAnswers words a
check_answers (stopped f r) = record {
  unusable = (λ e. f, λ g. r.is);
  yes = (λ e. absurd (omega (arith, number_is r, refusal_of e)), λ s. absurd (f s.sound.usable));
  no = (λ e. absurd (omega (arith, number_is r, refusal_of e)), λ c. absurd (f c.0));
}
check_answers (passed u (stopped f r)) = record {
  unusable = (λ e. absurd (omega (arith, number_is r, refusal_of e)), λ g. absurd (g u));
  yes = (λ e. absurd (omega (arith, first_of r.is, first_of e)), λ s. absurd (f s));
  no = (λ e. (u, f), λ c. r.is);
}
check_answers (passed u (passed s r)) = record {
  unusable = (λ e. absurd (omega (arith, number_is r, refusal_of e)), λ g. absurd (g u));
  yes = (λ e. s, λ t. r.is);
  no = (λ e. absurd (omega (arith, first_of r.is, first_of e)), λ c. absurd (c.1 s));
}
