-- What holds of every call whatever the words are: zeros beside a refusal, bounds of what is answered, and what is left as it was.
use Prim.Native.Nat.{ℕ, min, ◌≤◌, ◌<◌}
use native.Mathlib.Omega.{arith}
use mathlib.Core.Path.{◌≡◌, refl, ap, sym, subst, ◌∙◌}
use mathlib.Core.Logic.{◌⊎◌, inl, inr, ⊎_elim}
use mathlib.Core.List.{List}
use lib.ListN.{length, get_or, drop}
use Rattle.measures.specs.declared.sizes.Sizes.{Sizes}
use Rattle.measures.specs.Sizes.{sizes_of, store_words}
use Rattle.image.specs.Held.{most_bytes}
use Rattle.promises.specs.Answer.{Further, none, Answer, refused, accepted, block_told}
use Rattle.promises.specs.Effect.{Effect, effect, Returns, passed, stopped}
use Rattle.promises.specs.Walk.{Accepts, Locates, Searches}
use Rattle.promises.specs.Change.{Done, Disabled}
use Rattle.promises.specs.Output.{SameLength, WrittenOrShort}
use Rattle.promises.specs.Calls.{asked, slots_in, MakeMeets, MarkMeets, ClearMeets, LoadMeets, FillMeets, AskMeets, NearestMeets, CountMeets, ListMeets, SaveMeets}
use Rattle.promises.proofs.Answers.{refusal_of, first_of, second_of, further_of, Zeros, zeros_beside}
use Rattle.promises.proofs.Ladder.{number_is, CheckRefused, refused_or, pixel_ends, window_ends}

-- what make, mark, clear, load and fill leave of the store, and answer
pub record Leaves (sizes : Sizes) (e : Effect) : Type 0 where
  pub values : Zeros e.answer
  pub damaged : e.answer.refusal ≡ 13 → get_or e.after 0 0 ≡ 0
  pub unchanged : (e.answer.refusal ≡ 0 → ⊥) → (e.answer.refusal ≡ 13 → ⊥) → e.after ≡ e.before
  pub past : drop (store_words sizes) e.after ≡ drop (store_words sizes) e.before
  pub long : length e.after ≡ length e.before

module _ {sizes : Sizes} {e : Effect} where
  returned_leaves : {n : ℕ} → (n ≡ 13 → ⊥) → Returns (refused n) e → Leaves sizes e
  returned_leaves {n} other r = record {
    values = zeros_beside n r.is;
    damaged = λ z. absurd (other (sym (number_is r) ∙ z));
    unchanged = λ z d. r.same;
    past = ap (drop (store_words sizes)) r.same;
    long = ap length r.same;
  }

  check_leaves : CheckRefused e → Leaves sizes e
  check_leaves c = returned_leaves c.not_13 c.returns

  done_leaves : Done sizes e → Leaves sizes e
  done_leaves d = record {
    values = (first_of d.done, second_of d.done, further_of d.done);
    damaged = λ z. absurd (omega (arith, z, refusal_of d.done));
    unchanged = λ z o. absurd (z (refusal_of d.done));
    past = d.within.past;
    long = d.within.long;
  }

  disabled_leaves : (e.answer ≡ refused 13) × Disabled sizes e → Leaves sizes e
  disabled_leaves d = record {
    values = zeros_beside 13 d.0;
    damaged = λ z. d.1.mark_gone;
    unchanged = λ z o. absurd (o (refusal_of d.0));
    past = d.1.left.past;
    long = d.1.left.long;
  }

module _ {before after : List ℕ} {a : Answer} where
  pub make_leaves : {m k n : ℕ} → MakeMeets before after m k n a → Leaves (asked m k n) (effect a before after)
  make_leaves (stopped f r) = returned_leaves (omega arith) r
  make_leaves (passed v (stopped f r)) = returned_leaves (omega arith) r
  make_leaves (passed v (passed l b)) = done_leaves b.done

  module _ {x y : ℕ} where
    pub mark_leaves : MarkMeets before after x y a → Leaves (sizes_of before) (effect a before after)
    mark_leaves m =
        ⊎_elim check_leaves
        (λ w. ⊎_elim (⊎_elim done_leaves (⊎_elim (returned_leaves (omega arith)) (returned_leaves (omega arith)))) disabled_leaves w.ends)
        (pixel_ends m)

    pub clear_leaves : ClearMeets before after x y a → Leaves (sizes_of before) (effect a before after)
    clear_leaves m = ⊎_elim check_leaves (λ w. ⊎_elim (⊎_elim done_leaves (returned_leaves (omega arith))) disabled_leaves w.ends) (pixel_ends m)

  pub load_leaves : {bytes : List ℕ} → LoadMeets before after bytes a → Leaves (sizes_of before) (effect a before after)
  load_leaves (stopped f r) = returned_leaves (omega arith) r
  load_leaves (passed u (stopped f r)) = returned_leaves (omega arith) r
  load_leaves (passed u (passed w (stopped f r))) = returned_leaves (omega arith) r
  load_leaves (passed u (passed w (passed t (stopped f r)))) = returned_leaves (omega arith) r
  load_leaves (passed u (passed w (passed t (passed s l)))) = done_leaves l.loaded.done

  pub fill_leaves : (codes : List ℕ) → FillMeets before after codes a → Leaves (sizes_of before) (effect a before after)
  fill_leaves codes (stopped f r) = returned_leaves (omega arith) r
  fill_leaves codes (passed u (stopped f r)) = returned_leaves (omega arith) r
  fill_leaves codes (passed u (passed on (stopped f r))) = returned_leaves (omega arith) r
  fill_leaves codes (passed u (passed on (passed room (stopped f r)))) = returned_leaves (omega arith) r
  fill_leaves codes (passed u (passed on (passed room (passed up b)))) = done_leaves b.done

-- what count answers: two values of at most so much, zeros beside a refusal
pub record Bounded (first second : ℕ) (a : Answer) : Type 0 where
  pub zeros : (a.refusal ≡ 0 → ⊥) → Zeros a
  pub first_to : a.first ≤ first
  pub second_to : a.second ≤ second
  pub no_further : a.further ≡ none

module _ {first second : ℕ} {a : Answer} where
  refused_bounded : {n : ℕ} → a ≡ refused n → Bounded first second a
  refused_bounded {n} i = record { zeros = λ z. zeros_beside n i; first_to = omega (arith, first_of i); second_to = omega (arith, second_of i); no_further = further_of i }

  none_bounded : a ≡ accepted 0 0 → Bounded first second a
  none_bounded i = record { zeros = λ z. absurd (z (refusal_of i)); first_to = omega (arith, first_of i); second_to = omega (arith, second_of i); no_further = further_of i }

  walk_bounded : {before after : List ℕ} → Accepts first second (effect a before after) ⊎ ((a ≡ refused 13) × (after ≡ before)) → Bounded first second a
  walk_bounded ends = ⊎_elim (λ b. record { zeros = λ z. absurd (z b.accepted); first_to = b.first_to; second_to = b.second_to; no_further = b.no_further }) (λ d. refused_bounded d.0) ends

-- 02, P8: what ask answers: no more blocks opened than the order, and no level above it; zeros beside a refusal
pub record PlaceBounded (order : ℕ) (a : Answer) : Type 0 where
  pub zeros : (a.refusal ≡ 0 → ⊥) → Zeros a
  pub marked_to : a.first ≤ 1
  pub opened_to : a.second ≤ order
  pub level_to : a.further.level ≤ order
  pub no_search : a.further ≡ block_told a.further.level a.further.code

module _ {order : ℕ} {a : Answer} where
  refused_place : {n : ℕ} → a ≡ refused n → PlaceBounded order a
  refused_place {n} i = record {
    zeros = λ z. zeros_beside n i;
    marked_to = omega (arith, first_of i);
    opened_to = omega (arith, second_of i);
    level_to = omega (arith, ap (λ (f : Further). f.level) (further_of i));
    no_search = subst (λ (f : Further). f ≡ block_told f.level f.code) (sym (further_of i)) refl;
  }

  walk_place : {before after : List ℕ} → Locates order (effect a before after) ⊎ ((a ≡ refused 13) × (after ≡ before)) → PlaceBounded order a
  walk_place ends =
      ⊎_elim (λ l. record { zeros = λ z. absurd (z l.answered); marked_to = l.marked_to; opened_to = l.opened_to; level_to = l.level_to; no_search = l.no_search }) (λ d. refused_place d.0) ends

pub ask_bounded : {words : List ℕ} {x y : ℕ} {a : Answer} → AskMeets words x y a → PlaceBounded (sizes_of words).order a
ask_bounded m = ⊎_elim (λ c. refused_place c.returns.is) (λ w. walk_place w.ends) (pixel_ends m)

-- 02, P5: what nearest answers: never more blocks opened than the budget, nor than S; zeros beside a refusal
pub record SearchBounded (opened : ℕ) (a : Answer) : Type 0 where
  pub zeros : (a.refusal ≡ 0 → ⊥) → Zeros a
  pub found_to : a.first ≤ 1
  pub opened_to : a.second ≤ opened
  pub no_level : a.further.level ≡ 0

module _ {opened : ℕ} {a : Answer} where
  refused_search : {n : ℕ} → a ≡ refused n → SearchBounded opened a
  refused_search {n} i = record { zeros = λ z. zeros_beside n i; found_to = omega (arith, first_of i); opened_to = omega (arith, second_of i); no_level = ap (λ (f : Further). f.level) (further_of i) }

  walk_search : {before after : List ℕ} → Searches opened (effect a before after) ⊎ ((a ≡ refused 13) × (after ≡ before)) → SearchBounded opened a
  walk_search ends = ⊎_elim (λ s. record { zeros = λ z. absurd (z s.ended); found_to = s.found_to; opened_to = s.opened_to; no_level = s.no_level }) (λ d. refused_search d.0) ends

pub nearest_bounded : {words : List ℕ} {x y budget : ℕ} {a : Answer} → NearestMeets words x y budget a → SearchBounded (min budget (slots_in words)) a
nearest_bounded m =
    ⊎_elim (λ c. refused_search c.returns.is)
    (λ b. ⊎_elim (λ c. refused_search c.returns.is) (λ w. walk_search w.ends) (refused_or (omega arith) (omega arith) (omega arith) b))
    (pixel_ends m)

pub count_bounded : {words : List ℕ} {x0 y0 x1 y1 : ℕ} {a : Answer} → CountMeets words x0 y0 x1 y1 a → Bounded (sizes_of words).most (slots_in words) a
count_bounded m = ⊎_elim (λ c. refused_bounded c.returns.is) (⊎_elim (λ r. none_bounded r.is) (λ w. walk_bounded w.ends)) (window_ends m)

-- what list and save answer, and leave of the output
pub record OutputLeft (first second : ℕ) (e : Effect) : Type 0 where
  pub zeros : (e.answer.refusal ≡ 0 → ⊥) → (e.answer.refusal ≡ 9 → ⊥) → e.answer.first ≡ 0
  pub no_second : (e.answer.refusal ≡ 0 → ⊥) → e.answer.second ≡ 0
  pub first_to : e.answer.first ≤ first
  pub second_to : e.answer.second ≤ second
  pub no_further : e.answer.further ≡ none
  -- accepted: no more than the output holds, and nothing past it
  pub room : e.answer.refusal ≡ 0 → e.answer.first ≤ length e.before
  pub rest : e.answer.refusal ≡ 0 → drop e.answer.first e.after ≡ drop e.answer.first e.before
  -- 9 only where the output lacks the needed length
  pub lacks : e.answer.refusal ≡ 9 → length e.before < e.answer.first
  pub unchanged : (e.answer.refusal ≡ 0 → ⊥) → (e.answer.refusal ≡ 13 → ⊥) → e.after ≡ e.before
  pub long : length e.after ≡ length e.before

module _ {first second : ℕ} {e : Effect} where
  check_output : CheckRefused e → OutputLeft first second e
  check_output c =
      let i = c.returns.is in
      record {
        zeros = λ z s. first_of i;
        no_second = λ z. second_of i;
        first_to = omega (arith, first_of i);
        second_to = omega (arith, second_of i);
        no_further = further_of i;
        room = λ z. absurd (c.not_0 (sym (refusal_of i) ∙ z));
        rest = λ z. absurd (c.not_0 (sym (refusal_of i) ∙ z));
        lacks = λ s. absurd (c.not_9 (sym (refusal_of i) ∙ s));
        unchanged = λ z d. c.returns.same;
        long = ap length c.returns.same;
      }

  none_output : Returns (accepted 0 0) e → OutputLeft first second e
  none_output r = record {
    zeros = λ z s. first_of r.is;
    no_second = λ z. second_of r.is;
    first_to = omega (arith, first_of r.is);
    second_to = omega (arith, second_of r.is);
    no_further = further_of r.is;
    room = λ z. omega (arith, first_of r.is);
    rest = λ z. ap (drop e.answer.first) r.same;
    lacks = λ s. absurd (omega (arith, s, number_is r));
    unchanged = λ z d. r.same;
    long = ap length r.same;
  }

  walk_output : WrittenOrShort first second e ⊎ ((e.answer ≡ refused 13) × SameLength e) → OutputLeft first second e
  walk_output (inl (inl w)) = record {
    zeros = λ z s. absurd (z w.accepts.accepted);
    no_second = λ z. absurd (z w.accepts.accepted);
    first_to = w.accepts.first_to;
    second_to = w.accepts.second_to;
    no_further = w.accepts.no_further;
    room = λ z. w.room;
    rest = λ z. w.rest;
    lacks = λ s. absurd (omega (arith, s, w.accepts.accepted));
    unchanged = λ z d. absurd (z w.accepts.accepted);
    long = w.long;
  }
  walk_output (inl (inr s)) = record {
    zeros = λ z o. absurd (o (number_is s.returns));
    no_second = λ z. second_of s.returns.is;
    first_to = s.needed_to;
    second_to = omega (arith, second_of s.returns.is);
    no_further = further_of s.returns.is;
    room = λ z. absurd (omega (arith, z, number_is s.returns));
    rest = λ z. absurd (omega (arith, z, number_is s.returns));
    lacks = λ z. s.lacks;
    unchanged = λ z d. s.returns.same;
    long = ap length s.returns.same;
  }
  walk_output (inr d) = record {
    zeros = λ z s. first_of d.0;
    no_second = λ z. second_of d.0;
    first_to = omega (arith, first_of d.0);
    second_to = omega (arith, second_of d.0);
    no_further = further_of d.0;
    room = λ z. absurd (omega (arith, z, refusal_of d.0));
    rest = λ z. absurd (omega (arith, z, refusal_of d.0));
    lacks = λ s. absurd (omega (arith, s, refusal_of d.0));
    unchanged = λ z o. absurd (o (refusal_of d.0));
    long = d.1;
  }

module _ {words before after : List ℕ} {a : Answer} where
  pub list_leaves : {x0 y0 x1 y1 : ℕ} → ListMeets words x0 y0 x1 y1 before after a → OutputLeft (sizes_of words).most (slots_in words) (effect a before after)
  list_leaves m = ⊎_elim check_output (⊎_elim none_output (λ w. walk_output w.ends)) (window_ends m)

  pub save_leaves : SaveMeets words before after a → OutputLeft (most_bytes words) 0 (effect a before after)
  save_leaves m = ⊎_elim check_output (λ w. walk_output w.ends) (refused_or (omega arith) (omega arith) (omega arith) m)
