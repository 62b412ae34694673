-- What the calls say of a store that something else overwrote, by their contracts alone.
use Prim.Native.Nat.{ℕ, ◌^◌, ◌≤◌, ◌<◌}
use native.Mathlib.Omega.{arith}
use mathlib.Core.Path.{◌≡◌, refl, sym, subst, ◌∙◌}
use mathlib.Core.Logic.{inl, inr}
use mathlib.Core.List.{List}
use lib.ListN.{length, get_or, drop}
use lib.Pow.{pow_mono}
use Rattle.pktree.specs.Panel.{HasPixel}
use Rattle.pktree.specs.Window.{Ordered, part_on}
use Rattle.pktree.proofs.Parts.{WhollyOff}
use Rattle.measures.specs.declared.sizes.Sizes.{Sizes}
use Rattle.measures.specs.Sizes.{panel_of, sizes_of, store_words, UsableStore}
use Rattle.measures.proofs.Usable.{sizes_kept, usable_kept}
use Rattle.promises.specs.Effect.{HasPixelOn, part_in, passed, stopped}
use Rattle.promises.specs.Answer.{Answer, accepted, refused}
use Rattle.promises.specs.Calls.{asked, MakeMeets, MarkMeets, ClearMeets, AskMeets, NearestMeets, window_given, CountMeets, ListMeets, SaveMeets, CheckMeets}
use Rattle.promises.proofs.Answers.{refusal_of, first_of}
use Rattle.promises.proofs.Ladder.{number_is}
use Rattle.promises.proofs.Exactly.{mark_refusals, clear_refusals, count_refusals, list_refusals, check_answers}
use Rattle.promises.proofs.AnyWords.{mark_leaves, clear_leaves, list_leaves}
use Rattle.promises.proofs.OnSound.{ask_accepted, mark_spoiled, clear_spoiled, ask_spoiled, nearest_spoiled, count_spoiled, list_spoiled, save_spoiled}
use Rattle.clients.specs.Known.{Overwritten, SpoiltOf9, DamagedThenUnusable, NothingListed, OffEveryPanel}
use Rattle.clients.proofs.Marks.{made_9}
use Rattle.store.specs.Sound.{IsSound}

pub made_and_spoilt : {start made after : List ℕ} {a : Answer} → 148 ≤ length start → MakeMeets start made 3 3 9 a → Overwritten made after → SpoiltOf9 after
made_and_spoilt {start} {made} {after} long m o =
    let h = made_9 long m in
    let sizes : sizes_of after ≡ asked 3 3 9 = sizes_kept made after o.head ∙ h.sizes_are in
    record {
      usable = usable_kept made after o.head o.long h.holds.sound.usable;
      sizes_are = sizes;
      spoilt = λ i from below. o.spoilt i from (subst (λ (s : Sizes). i < store_words s) sizes below);
    }

-- a zero in word 0 is no register
no_mark : {words : List ℕ} → get_or words 0 0 ≡ 0 → UsableStore words → ⊥
no_mark zero usable = omega (arith, zero, usable.mark)

module _ {words : List ℕ} (s : SpoiltOf9 words) where
  pixel_on : {x y : ℕ} → HasPixel (panel_of (asked 3 3 9)) x y → HasPixelOn words x y
  pixel_on {x} {y} on = subst (λ (z : Sizes). HasPixel (panel_of z) x y) (sym s.sizes_are) on

  whole_panel : Ordered (part_in words (window_given 0 0 7 7))
  whole_panel = subst (λ (z : Sizes). Ordered (part_on (panel_of z) (window_given 0 0 7 7))) (sym s.sizes_are) (record { x_ordered = omega arith; y_ordered = omega arith })

  -- no pixel of the panel has a coordinate of 8 or more
  off_panel : WhollyOff (panel_of (sizes_of words)) (window_given 8 0 4294967295 7)
  off_panel = subst (λ (z : Sizes). WhollyOff (panel_of z) (window_given 8 0 4294967295 7)) (sym s.sizes_are) (λ x y on covered. omega (arith, on.0, covered.0))

  module _ {between after : List ℕ} {a b : Answer} {first second : ℕ} where
    -- 13, and 3 from the call after it
    pub marks_twice : MarkMeets words between 1 2 a → MarkMeets between after 1 2 b → first ≡ a.refusal → second ≡ b.refusal → DamagedThenUnusable first second
    marks_twice m n e f =
        let d = refusal_of (mark_spoiled s.usable s.spoilt (pixel_on (omega arith, omega arith)) m) in
        record { damaged = e ∙ d; unusable = f ∙ (mark_refusals n).unusable.1 (no_mark ((mark_leaves m).damaged d)) }

    pub clears_twice : ClearMeets words between 1 2 a → ClearMeets between after 1 2 b → first ≡ a.refusal → second ≡ b.refusal → DamagedThenUnusable first second
    clears_twice m n e f =
        let d = refusal_of (clear_spoiled s.usable s.spoilt (pixel_on (omega arith, omega arith)) m) in
        record { damaged = e ∙ d; unusable = f ∙ (clear_refusals n).unusable.1 (no_mark ((clear_leaves m).damaged d)) }

  module _ {a : Answer} where
    pub asked_spoilt : AskMeets words 1 2 a → a ≡ refused 13
    asked_spoilt m = ask_spoiled s.usable s.spoilt (pixel_on (omega arith, omega arith)) m

    pub searched_spoilt : NearestMeets words 1 2 1 a → a ≡ refused 13
    searched_spoilt m = nearest_spoiled s.usable s.spoilt (pixel_on (omega arith, omega arith)) (omega arith) m

    pub counted_spoilt : CountMeets words 0 0 7 7 a → a ≡ refused 13
    counted_spoilt m = count_spoiled s.usable s.spoilt whole_panel m

    pub listed_spoilt : {before after : List ℕ} → ListMeets words 0 0 7 7 before after a → a ≡ refused 13
    listed_spoilt m = list_spoiled s.usable s.spoilt whole_panel m

    -- a window wholly off the panel is answered without a look at the slots
    pub counted_off : CountMeets words 8 0 4294967295 7 a → a ≡ accepted 0 0
    counted_off m = (count_refusals m).wholly_off s.usable (record { x_ordered = omega arith; y_ordered = omega arith }) off_panel

    pub listed_off : {before after : List ℕ} → ListMeets words 8 0 4294967295 7 before after a → NothingListed before after a
    listed_off {before} {after} m =
        let e = (list_refusals m).wholly_off s.usable (record { x_ordered = omega arith; y_ordered = omega arith }) off_panel in
        record { none = e; same = subst (λ (n : ℕ). drop n after ≡ drop n before) (first_of e) ((list_leaves m).rest (refusal_of e)) }

    pub saved_spoilt : {before after : List ℕ} → SaveMeets words before after a → a ≡ refused 13
    saved_spoilt m = save_spoiled s.usable s.spoilt m

    -- were the store sound, ask would be accepted
    pub checked_spoilt : {b : Answer} → AskMeets words 1 2 b → CheckMeets words a → a ≡ accepted 0 0
    checked_spoilt m n = (check_answers n).no.1 (s.usable, λ (i : IsSound words). impossible i)
      where
        impossible : IsSound words → ⊥
        impossible i =
            omega (
              arith,
              refusal_of (ask_spoiled s.usable s.spoilt (pixel_on (omega arith, omega arith)) m),
              ask_accepted (record { placed = i.placed; sound = i.sound; set_is = refl }) m (pixel_on (omega arith, omega arith)),
            )

-- 65536 is a coordinate of no panel
pub off_every_panel : {before after : List ℕ} {a : Answer} {r : ℕ} → MarkMeets before after 65536 0 a → r ≡ a.refusal → OffEveryPanel before after r
off_every_panel (stopped f r) e = record { number = inl (e ∙ number_is r); same = r.same }
off_every_panel (passed u (stopped f r)) e = record { number = inr (e ∙ number_is r); same = r.same }
off_every_panel {before} (passed u (passed on w)) e =
    let side : 2 ^ (sizes_of before).order ≤ 2 ^ 16 = pow_mono u.valid.panel.order_to in
    absurd (omega (arith, on.0, side))
