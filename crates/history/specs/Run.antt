-- 01: each call, refused or not, gets the store as make or the call before it left it. What a call does is what its own contract says, in the words of
-- the page; proofs/Routines shows that the checker reads just that off the compiled function.
use Rattle.std.specs.Prelude.{ℕ, ◌≡◌, List, [], ◌∷◌, Result, Bool}
use Rattle.measures.specs.declared.sizes.Sizes.{Sizes}
use Rattle.answers.specs.declared.Refusal.{Refusal}
use Rattle.answers.specs.declared.Found.{Found}
use Rattle.answers.specs.declared.Nearest.{Nearest}
use Rattle.answers.specs.declared.Place.{Place}
use Rattle.answers.specs.Answer.{answer, ask_answer, search_answer, count_answer, list_answer, save_answer, check_answer}
use Rattle.promises.specs.Calls.{MakeMeets, MarkMeets, ClearMeets, AskMeets, NearestMeets, CountMeets, ListMeets, SaveMeets, LoadMeets, FillMeets, CheckMeets}
use Rattle.promises.specs.Survivors.{Call, mark, clear, ask, nearest, count, list, save, load, fill, check}

-- a save from these words into this output
pub data SaveRun (words output : List ℕ) (r : Result ℕ Refusal) (written : List ℕ) : Type 0 where
  by_save : SaveMeets words output written (save_answer r) → SaveRun words output r written

-- one call, from the words before it to the words after it
pub data Step : Call → List ℕ → List ℕ → Type 0 where
  by_mark : (before : List ℕ) (x y : ℕ) (r : Result (Unit {0}) Refusal) (after : List ℕ) → MarkMeets before after x y (answer r) → Step (mark x y) before after
  by_clear : (before : List ℕ) (x y : ℕ) (r : Result (Unit {0}) Refusal) (after : List ℕ) → ClearMeets before after x y (answer r) → Step (clear x y) before after
  by_ask : (words : List ℕ) (x y : ℕ) (r : Result Place Refusal) → AskMeets words x y (ask_answer r) → Step (ask x y) words words
  by_nearest : (words : List ℕ) (x y budget : ℕ) (r : Result Nearest Refusal) → NearestMeets words x y budget (search_answer r) → Step (nearest x y budget) words words
  by_count : (words : List ℕ) (x0 y0 x1 y1 : ℕ) (r : Result Found Refusal) → CountMeets words x0 y0 x1 y1 (count_answer r) → Step (count x0 y0 x1 y1) words words
  by_list : (words output : List ℕ) (x0 y0 x1 y1 : ℕ) (r : Result Found Refusal) (written : List ℕ)
      → ListMeets words x0 y0 x1 y1 output written (list_answer r) → Step (list x0 y0 x1 y1 output) words words
  by_save : (words output : List ℕ) (r : Result ℕ Refusal) (written : List ℕ) → SaveRun words output r written → Step (save output) words words
  by_load : (before image : List ℕ) (r : Result (Unit {0}) Refusal) (after : List ℕ) → LoadMeets before after image (answer r) → Step (load image) before after
  by_fill : (before codes : List ℕ) (r : Result (Unit {0}) Refusal) (after : List ℕ) → FillMeets before after codes (answer r) → Step (fill codes) before after
  by_check : (words : List ℕ) (r : Result Bool Refusal) → CheckMeets words (check_answer r) → Step check words words

-- an accepted make with these numbers
pub data Fresh (sizes : Sizes) : List ℕ → Type 0 where
  by_make : (before : List ℕ) (r : Result (Unit {0}) Refusal) (after : List ℕ) → MakeMeets before after sizes.order sizes.k sizes.most (answer r)
      → (answer r).refusal ≡ 0 → Fresh sizes after

-- a list of calls, each on the words that the one before it left
pub data Run : List Call → List ℕ → List ℕ → Type 0 where
  done : {words : List ℕ} → Run [] words words
  then : {call : Call} {calls : List Call} {before between after : List ℕ} → Step call before between → Run calls between after → Run (call ∷ calls) before after

-- a register fresh from an accepted make, after a list of calls
pub record History (sizes : Sizes) (calls : List Call) (words : List ℕ) : Type 0 where
  pub start : List ℕ
  pub made : Fresh sizes start
  pub run : Run calls start words
