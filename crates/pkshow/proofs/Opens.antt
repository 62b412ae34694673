-- What each way out of open_image shows.
use Prim.Native.Nat.{ℕ, zero, suc, ◌≤◌, ◌<◌}
use native.Mathlib.Omega.{arith}
use native.Mathlib.Nat.{eq-or-lt_of_le}
use mathlib.Core.Path.{◌≡◌, refl, ap, subst, subst₂, sym, ◌∙◌}
use mathlib.Core.Logic.{◌⊎◌, inl, inr}
use mathlib.Core.Bool.{Bool, true, false, ◌&&◌}
use mathlib.Core.List.{List}
use lib.Dec.{leb}
use lib.ListN.{length, get_or}
use borrow.Author.Tests.{leb-true}
use Rattle.pktree.proofs.Absurd.{zero_is_not_one}
use Rattle.measures.specs.declared.sizes.Sizes.{Sizes}
use Rattle.measures.specs.Sizes.{panel_of, store_words, ValidSizes, sizes_of, UsableStore}
use Rattle.image.specs.Judged.{FitsRegister, ImageOfSome}
use Rattle.image.specs.Held.{HasImage}
use Rattle.promises.specs.Answer.{Answer}
use Rattle.promises.specs.Calls.{MakeMeets, LoadMeets}
use Rattle.promises.proofs.Ladder.{number_is, where_holds, where_fails}
use Rattle.promises.proofs.Exactly.{accepted_makes, make_refusals, image_loaded}
use Rattle.pkshow.specs.Shown.{sizes_shown, words_for400, LengthOut, ShowMeets}

-- a test of all numbers below n holds of each
all_true : (ℕ → Bool) → ℕ → Bool
all_true test zero = true
all_true test (suc n) = test n && all_true test n

each_true : (test : ℕ → Bool) (n i : ℕ) → all_true test n ≡ true → i < n → test i ≡ true
unfolding all_true
each_true test zero i e l = absurd (omega arith)
each_true test (suc n) i e l = go (test n) refl (eq-or-lt_of_le l) (each_true test n i)
  where
    go : (b : Bool) → test n ≡ b → (suc i ≡ suc n) ⊎ (suc i < suc n) → (all_true test n ≡ true → i < n → test i ≡ true) → test i ≡ true
    go true p (inl q) ih = let same : i ≡ n = omega (arith, q) in rw same p
    go true p (inr q) ih = ih (rw p at e) (omega (arith, q))
    go false p q ih = zero_is_not_one (cc)

-- they are enough
enough : (bytes : List ℕ) → ValidSizes (sizes_shown bytes) → store_words (sizes_shown bytes) ≤ words_for400
unfolding all_true
enough bytes valid =
    leb-true (store_words (sizes_shown bytes)) words_for400
    (each_true (λ (k : ℕ). leb (store_words (record { order = get_or bytes 0 0; k = k; most = 400 })) words_for400) 17 (get_or bytes 1 0) refl (omega (arith, valid.panel.k_to)))

-- refused by its length alone
refused_length : {after bytes : List ℕ} → LengthOut bytes → ShowMeets after bytes 10
refused_length out =
    record {
      out_of_length = λ o. refl;
      beyond_limits = λ o v. absurd (o out);
      malformed = λ g w. refl;
      unlike = λ g w f. absurd (g.in_length out);
      no_set = λ g w f s. absurd (g.in_length out);
      loaded = λ set g h. absurd (g.in_length out);
    }

pub too_short : {after bytes : List ℕ} → length bytes < 2 → ShowMeets after bytes 10
too_short low = refused_length (inl low)

pub too_long : {after bytes : List ℕ} → 4010 < length bytes → ShowMeets after bytes 10
too_long high = refused_length (inr high)

-- what make was given, what it left, and its answer
module _ (bytes : List ℕ) {before made : List ℕ} {a : Answer} {order k : ℕ} (meets : MakeMeets before made order k 400 a) (order_is : order ≡ get_or bytes 0 0)
    (k_is : k ≡ get_or bytes 1 0) (room : words_for400 ≤ length before) (low : 2 ≤ length bytes) (high : length bytes ≤ 4010) where
  in_length : LengthOut bytes → ⊥
  in_length (inl l) = omega arith
  in_length (inr l) = omega arith

  makes : MakeMeets before made (get_or bytes 0 0) (get_or bytes 1 0) 400 a
  makes = subst₂ (λ (m k : ℕ). MakeMeets before made m k 400 a) order_is k_is meets

  accepted : ValidSizes (sizes_shown bytes) → a.refusal ≡ 0
  accepted valid = (make_refusals makes).made.1 (valid, omega (arith, enough bytes valid))

  pub not_made : (a.refusal ≡ 0 → ⊥) → ShowMeets made bytes a.refusal
  not_made other =
      record {
        out_of_length = λ o. absurd (in_length o);
        beyond_limits = λ o v. number_is (where_fails makes v);
        malformed = λ g w. absurd (other (accepted g.valid));
        unlike = λ g w f. absurd (other (accepted g.valid));
        no_set = λ g w f s. absurd (other (accepted g.valid));
        loaded = λ set g h. absurd (other (accepted g.valid));
      }

  -- it was made, and loaded into
  module _ {after : List ℕ} {b : Answer} (done : a.refusal ≡ 0) (loads : LoadMeets made after bytes b) where
    usable : UsableStore made
    usable = (accepted_makes makes done).holds.sound.usable

    -- the sizes are those that make was given
    of_made : (P : Sizes → Type 0) → P (sizes_shown bytes) → P (sizes_of made)
    of_made P h = subst P (sym (accepted_makes makes done).sizes_are) h

    pub made_loaded : ShowMeets after bytes b.refusal
    made_loaded =
        record {
          out_of_length = λ o. absurd (in_length o);
          beyond_limits = λ o v. absurd (v (subst ValidSizes (accepted_makes makes done).sizes_are usable.valid));
          malformed = λ g w. number_is (where_fails (where_holds loads usable) w);
          unlike = λ g w f. number_is (where_fails (where_holds (where_holds loads usable) w) (of_made (λ s. FitsRegister (panel_of s) s.most bytes → ⊥) f));
          no_set = λ g w f s.
              number_is (where_fails (where_holds (where_holds (where_holds loads usable) w) (of_made (λ s. FitsRegister (panel_of s) s.most bytes) f))
              (of_made (λ s. ImageOfSome (panel_of s) bytes → ⊥) s));
          loaded = λ set g h.
              let d = image_loaded loads usable (of_made (λ s. HasImage (panel_of s) s.most bytes set) h) in
              (ap (λ (a : Answer). a.refusal) d.done, d.holds, d.sizes_are ∙ (accepted_makes makes done).sizes_are);
        }
