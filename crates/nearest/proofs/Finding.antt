-- A search that went on to its end, and that what it says is what nearest answers.
use Rattle.std.specs.Prelude.{Result, Ok, Err, is_some}
use Rattle.std.specs.Result.{IsErr}
use Prim.Native.Nat.{ℕ, min, ◌+◌, ◌≤◌}
use native.Mathlib.Omega.{arith}
use mathlib.Core.Path.{◌≡◌, refl, ap, subst, ◌∙◌}
use mathlib.Core.Bool.{false≢true}
use mathlib.Core.Logic.{inl, inr}
use mathlib.Core.List.{List}
use Rattle.searching.specs.NearestPromises.{nearest_on}
use Rattle.measures.specs.declared.sizes.Layout.{Layout}
use Rattle.measures.specs.declared.sizes.Sizes.{Sizes}
use Rattle.measures.specs.Layout.{LaidOut, most_elements}
use Rattle.measures.specs.Sizes.{panel_of, sizes_of, UsableStore}
use Rattle.measures.proofs.Usable.{layout_said}
use Rattle.store.specs.declared.Damaged.{Damaged}
use Rattle.store.specs.Sound.{Holds}
use Rattle.promises.specs.Answer.{searched}
use Rattle.promises.specs.Effect.{effect, Returns, Unchanged, passed, stopped}
use Rattle.promises.specs.Walk.{Walks, Searches}
use Rattle.promises.specs.Calls.{slots_in, FindsNearest}
use Rattle.promises.proofs.Answers.{yes_no_to}
use Rattle.promises.proofs.SpoiledRoot.{spoiled_shut}
use Rattle.frontier.specs.declared.Entry.{Entry}
use Rattle.answers.specs.declared.Nearest.{Nearest}
use Rattle.answers.specs.declared.Refusal.{Refusal}
use Rattle.answers.specs.declared.Refusal.TheVariants.{StoreDamaged, NoBudget}
use Rattle.answers.specs.Answer.{search_answer}
use Rattle.meeting.specs.declared.place.Place.{Place}
use Rattle.meeting.specs.Place.{PlaceOf}
use Rattle.bestfirst.specs.declared.Progress.{Progress}
use Rattle.bestfirst.specs.declared.Searched.TheVariants.{Known, Full}
use Rattle.bestfirst.specs.Searches.{SearchMeets}
use Rattle.nearest.specs.Ends.{SearchEnds, answer_of}

abbrev Finds : List ℕ → ℕ → ℕ → Result Nearest Refusal → Type 0
Finds words code budget r = FindsNearest words code budget (effect (search_answer r) words words)

-- and what it says where there is some budget
abbrev Walked : List ℕ → ℕ → ℕ → Result Nearest Refusal → Type 0
Walked words code budget r =
    Walks words (Searches (min budget (slots_in words))) Unchanged (λ set. Returns (searched (nearest_on (panel_of (sizes_of words)) set code budget))) (effect (search_answer r) words words)

-- 15
pub no_budget : (words : List ℕ) (code : ℕ) {budget : ℕ} → budget ≡ 0 → Finds words code budget (Err NoBudget)
no_budget words code z = stopped (λ some. omega (arith, some, z)) (record { is = refl; same = refl })

-- the layout of the sizes is that of those that the store says
pub laid_told : {sizes told : Sizes} {layout : Layout} → sizes ≡ told → LaidOut sizes layout → LaidOut told layout
laid_told {layout = layout} said laid = subst (λ (z : Sizes). LaidOut z layout) said laid

module _ {words : List ℕ} {layout : Layout} {place : Place} {budget : ℕ} where
  module _ {places : ℕ} {after : List Entry} where
    pub known_ends : {n : Nearest} → SearchMeets words layout place budget places after (Ok (Known n)) → SearchEnds words layout place budget (Ok n)
    known_ends m = record { right = m.right; case = m.case }

    pub damaged_ends : {d : Damaged} → SearchMeets words layout place budget places after (Err d) → (r : Result Nearest Damaged) → IsErr r → SearchEnds words layout place budget r
    damaged_ends m (Ok n) h = absurd (false≢true h)
    damaged_ends m (Err d) h = record { right = m.right; case = tt }

    -- where there are as many places as the slots need, the search ends
    pub full_damaged : {at : Progress} {d : Damaged} → SearchMeets words layout place budget places after (Ok (Full at)) → layout.slots + most_elements ≤ places
        → SearchEnds words layout place budget (Err d)
    full_damaged m enough = record { right = λ set holds. omega (arith, m.right set holds, enough); case = tt }

  pub still_damaged : {d : Damaged} → SearchEnds words layout place budget (Err d) → (r : Result Nearest Damaged) → IsErr r → SearchEnds words layout place budget r
  still_damaged m (Ok n) h = absurd (false≢true h)
  still_damaged m (Err d) h = record { right = m.right; case = tt }

  -- what such a search says is what nearest answers
  pub finds : {code : ℕ} {r : Result Nearest Damaged} → UsableStore words → LaidOut (sizes_of words) layout → PlaceOf code place → 1 ≤ budget
      → SearchEnds words layout place budget r → Finds words code budget (answer_of r)
  finds {code} {r} usable laid at some m = passed some (go r m)
    where
      refuses : ((set : List ℕ) → Holds words set → ⊥) → Walked words code budget (Err StoreDamaged)
      refuses never = record { ends = inr (refl, refl); spoiled = λ s. refl; sound = λ set holds. absurd (never set holds) }

      go : (r : Result Nearest Damaged) → SearchEnds words layout place budget r → Walked words code budget (answer_of r)
      go (Err d) m = refuses m.right
      go (Ok n) m = record {
        ends = inl (record { ended = refl; found_to = yes_no_to (is_some n.pixel); opened_to = omega (arith, m.case.to_budget, m.case.to_slots, ap (λ (l : Layout). l.slots) (layout_said words refl laid)); no_level = refl });
        spoiled = λ s. absurd (m.case.root_opened some (spoiled_shut words usable s));
        sound = λ set holds.
            record {
              is = ap searched (m.right set holds) ∙ ap (λ (p : ℕ). searched (nearest_on (panel_of (sizes_of words)) set p budget)) at.code_is;
              same = refl;
            };
      }
