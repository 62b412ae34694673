-- A whole history from what make and replay ensure, and the closed one.
use Rattle.std.specs.Prelude.{Result}
use Prim.Native.Nat.{ℕ, ◌≤◌}
use native.Mathlib.Omega.{arith}
use mathlib.Core.Path.{◌≡◌, refl, subst, sym, ◌∙◌}
use mathlib.Core.List.{List, [], ◌∷◌}
use lib.ListN.{length}
use Rattle.morton.specs.Code.{interleave}
use Rattle.measures.specs.Sizes.{ValidSizes}
use Rattle.answers.specs.declared.Refusal.{Refusal}
use Rattle.answers.specs.Answer.{answer}
use Rattle.promises.specs.Calls.{asked, MakeMeets}
use Rattle.promises.proofs.Exactly.{make_refusals}
use Rattle.promises.specs.Survivors.{Call, survivors}
use Rattle.history.specs.Run.{by_make, Run, History}
use Rattle.history.specs.Script.{calls_to, calls_of}
use Rattle.history.specs.Whole.{RunMeets, sample_calls, SampleRan}

module _ (before made : List ℕ) (m k n : ℕ) (outcome : Result (Unit {0}) Refusal) (meets : MakeMeets before made m k n (answer outcome)) (script images codes : List ℕ) (r : ℕ) (is : r ≡ (answer outcome).refusal) where
  pub ran : (after : List ℕ) → r ≡ 0 → Run (calls_of images codes script) made after → RunMeets before after m k n script images codes r
  ran after zero run = record {
    made = (λ e. (make_refusals meets).made.0 (sym is ∙ e), λ h. is ∙ (make_refusals meets).made.1 h);
    history = λ e. record { start = made; made = by_make before outcome made meets (sym is ∙ e); run = run };
  }

  pub not_made : (r ≡ 0 → ⊥) → RunMeets before made m k n script images codes r
  not_made other = record { made = (λ e. absurd (other e), λ h. absurd (other (is ∙ (make_refusals meets).made.1 h))); history = λ e. absurd (other e) }

sample_valid : ValidSizes (asked 3 3 4)
sample_valid = record {
  panel = record { order_from = omega arith; order_to = omega arith; k_from = omega arith; k_to = omega arith };
  most_from = omega arith;
  most_to = omega arith;
}

abbrev pub sample_script : List ℕ
sample_script = 0 ∷ 0 ∷ 0 ∷ 0 ∷ 0 ∷ 0 ∷ 0 ∷ 1 ∷ 0 ∷ 0 ∷ 0 ∷ 0 ∷ 0 ∷ 2 ∷ 0 ∷ 0 ∷ 0 ∷ 0 ∷ 0 ∷ 0 ∷ 1 ∷ 0 ∷ 0 ∷ 0 ∷ []

script_is : (images codes : List ℕ) → calls_of images codes sample_script ≡ sample_calls
unfolding calls_to
script_is images codes = refl

-- by computation
sample_survivors : survivors (asked 3 3 4) sample_calls ≡ 0 ∷ 1 ∷ 2 ∷ 4 ∷ []
unfolding interleave
sample_survivors = refl

pub sample_ran : (before after images codes : List ℕ) (r : ℕ) → 64 ≤ length before → RunMeets before after 3 3 4 sample_script images codes r → SampleRan
sample_ran before after images codes r long m = record {
  words = after;
  history = subst (λ (calls : List Call). History (asked 3 3 4) calls after) (script_is images codes) (m.history (m.made.1 (sample_valid, long)));
  survive = sample_survivors;
}
