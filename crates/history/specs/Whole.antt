-- A whole history that a function ran: an accepted make, then a script.
use Rattle.std.specs.Prelude.{ℕ, ◌≤◌, ◌≡◌, ◌↔◌, List, [], ◌∷◌, length}
use Rattle.measures.specs.Sizes.{ValidSizes, store_words}
use Rattle.promises.specs.Calls.{asked}
use Rattle.promises.specs.Survivors.{Call, mark, survivors}
use Rattle.history.specs.Run.{History}
use Rattle.history.specs.Script.{calls_of}

pub record RunMeets (before after : List ℕ) (m k n : ℕ) (script images codes : List ℕ) (r : ℕ) : Type 0 where
  -- for every script, wherever make is accepted
  pub made : (r ≡ 0) ↔ (ValidSizes (asked m k n) × (store_words (asked m k n) ≤ length before))
  pub history : r ≡ 0 → History (asked m k n) (calls_of images codes script) after

-- 01 "Sample panels": codes 0, 1, 4, then mark 2
abbrev pub sample_calls : List Call
sample_calls = mark 0 0 ∷ mark 1 0 ∷ mark 2 0 ∷ mark 0 1 ∷ []

-- a closed history: these calls were made on some store, and these are their survivors
pub record SampleRan : Type 0 where
  pub words : List ℕ
  pub history : History (asked 3 3 4) sample_calls words
  pub survive : survivors (asked 3 3 4) sample_calls ≡ 0 ∷ 1 ∷ 2 ∷ 4 ∷ []
