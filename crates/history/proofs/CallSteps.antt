-- What a public call's record says is a step; and one more call at the end of a run.
use Rattle.std.specs.Prelude.{Result, Bool}
use Prim.Native.Nat.{ℕ, ◌≤◌}
use native.Mathlib.Omega.{arith}
use mathlib.Core.Path.{◌≡◌, ap₂, subst, ◌∙◌}
use mathlib.Core.List.{List, [], ◌∷◌, ◌++◌}
use lib.ListN.{take, drop}
use borrow.Author.Tests.{ne_eqb}
use Rattle.answers.specs.declared.Refusal.{Refusal}
use Rattle.answers.specs.declared.Found.{Found}
use Rattle.answers.specs.declared.Nearest.{Nearest}
use Rattle.answers.specs.declared.Place.{Place}
use Rattle.answers.specs.Answer.{answer, ask_answer, search_answer, count_answer, list_answer, save_answer, check_answer}
use Rattle.promises.specs.Calls.{MarkMeets, ClearMeets, AskMeets, NearestMeets, CountMeets, ListMeets, SaveMeets, LoadMeets, FillMeets, CheckMeets}
use Rattle.promises.specs.Survivors.{Call, mark, clear, ask, nearest, count, list, save, load, fill, check}
use Rattle.history.specs.declared.Encoded.{Encoded}
use Rattle.history.specs.Script.{call_of}
use Rattle.history.specs.Run as steps
use Rattle.history.specs.Run.{Step, SaveRun, Run, done, then}

module _ (before after : List ℕ) (x y : ℕ) where
  pub mark_step : (r : Result (Unit {0}) Refusal) → MarkMeets before after x y (answer r) → Step (mark x y) before after
  mark_step r m = steps.by_mark before x y r after m

  pub clear_step : (r : Result (Unit {0}) Refusal) → ClearMeets before after x y (answer r) → Step (clear x y) before after
  clear_step r m = steps.by_clear before x y r after m

pub ask_step : (words : List ℕ) (x y : ℕ) (r : Result Place Refusal) → AskMeets words x y (ask_answer r) → Step (ask x y) words words
ask_step words x y r m = steps.by_ask words x y r m

pub nearest_step : (words : List ℕ) (x y budget : ℕ) (r : Result Nearest Refusal) → NearestMeets words x y budget (search_answer r) → Step (nearest x y budget) words words
nearest_step words x y budget r m = steps.by_nearest words x y budget r m

module _ (words : List ℕ) (x0 y0 x1 y1 : ℕ) where
  pub count_step : (r : Result Found Refusal) → CountMeets words x0 y0 x1 y1 (count_answer r) → Step (count x0 y0 x1 y1) words words
  count_step r m = steps.by_count words x0 y0 x1 y1 r m

  pub list_step : (output written : List ℕ) (r : Result Found Refusal) → ListMeets words x0 y0 x1 y1 output written (list_answer r) → Step (list x0 y0 x1 y1 output) words words
  list_step output written r m = steps.by_list words output x0 y0 x1 y1 r written m

pub save_step : (words output written : List ℕ) (r : Result ℕ Refusal) → SaveMeets words output written (save_answer r) → Step (save output) words words
save_step words output written r m = steps.Step.by_save words output r written (steps.SaveRun.by_save m)

pub load_step : (before after bytes : List ℕ) (r : Result (Unit {0}) Refusal) → LoadMeets before after bytes (answer r) → Step (load bytes) before after
load_step before after bytes r m = steps.by_load before bytes r after m

pub fill_step : (before after codes : List ℕ) (r : Result (Unit {0}) Refusal) → FillMeets before after codes (answer r) → Step (fill codes) before after
fill_step before after codes r m = steps.by_fill before codes r after m

pub check_step : (words : List ℕ) (r : Result Bool Refusal) → CheckMeets words (check_answer r) → Step check words words
check_step words r m = steps.by_check words r m

-- a number that is no other call's
pub other_number : (images codes : List ℕ) (call : Encoded) → 9 ≤ call.number → call_of images codes call ≡ check
other_number images codes call past =
    rw (
      ne_eqb call.number 0 (λ e. omega (arith, e)),
      ne_eqb call.number 1 (λ e. omega (arith, e)),
      ne_eqb call.number 2 (λ e. omega (arith, e)),
      ne_eqb call.number 3 (λ e. omega (arith, e)),
      ne_eqb call.number 4 (λ e. omega (arith, e)),
      ne_eqb call.number 5 (λ e. omega (arith, e)),
      ne_eqb call.number 6 (λ e. omega (arith, e)),
      ne_eqb call.number 7 (λ e. omega (arith, e)),
      ne_eqb call.number 8 (λ e. omega (arith, e)),
    )

-- the bytes or codes of a call, by what the part of the row beside the script was asked for
module _ (row before after part : List ℕ) (from number a b : ℕ) (is : part ≡ take number (drop from row)) (from_is : from ≡ a) (number_is : number ≡ b) (r : Result (Unit {0}) Refusal) where
  given : part ≡ take b (drop a row)
  given = is ∙ ap₂ (λ (n at : ℕ). take n (drop at row)) number_is from_is

  pub load_part : LoadMeets before after part (answer r) → Step (load (take b (drop a row))) before after
  load_part m = subst (λ (l : List ℕ). Step (load l) before after) given (load_step before after part r m)

  pub fill_part : FillMeets before after part (answer r) → Step (fill (take b (drop a row))) before after
  fill_part m = subst (λ (l : List ℕ). Step (fill l) before after) given (fill_step before after part r m)

pub run_then : {calls : List Call} {call : Call} {before between after : List ℕ} → Run calls before between → Step call between after
    → Run (calls ++ (call ∷ [])) before after
run_then done step = then step done
run_then (then first run) step = then first (run_then run step)
