-- The turns of a loop over an iterator of codes: those given are appended, and those that it has still to give lie beyond them.
use Prim.Native.Nat.{ℕ}
use mathlib.Core.Path.{◌≡◌, refl, subst, sym, ◌∙◌}
use Rattle.std.proofs.Common.{Option, Some, None}
use mathlib.Core.List.{List, [], ◌∷◌, ◌++◌, append_assoc, append-nil}
use Rattle.std.proofs.lemmas.Iterator.{YieldsList}
use Rattle.packing.specs.declared.Build.{Build}
use Rattle.packing.specs.declared.plan.Plan.{Plan}
use Rattle.packing.specs.Build.{empty_build, AppendDue, AppendDone}
use Rattle.building.specs.Finish.{Appended, FinishDue, Finished}
use Rattle.building.specs.Given.{AppendAllAt, AppendAllDue, AllAppended, BuildWithDue, BuiltWith}
use Rattle.building.proofs.Filled.{finish_due, filled}
use Rattle.building.proofs.Appended.{none_appended, append_due, one_appended}

-- of all the codes some are appended, and the iterator gives the others
pub record Left {S : Type 0} (steps : S → Option ℕ → S → Type 0) (given : S) (plan : Plan) (words₀ words stack : List ℕ) (build : Build) (codes : List ℕ) : Type 0 where
  pub done : List ℕ
  pub later : List ℕ
  pub gives : YieldsList steps (λ x. x) given later
  pub appended : Appended plan words₀ words stack build done later
  pub all : done ++ later ≡ codes

pub record Turns {S : Type 0} (steps : S → Option ℕ → S → Type 0) (given₀ given : S) (plan : Plan) (words₀ stack₀ words stack : List ℕ) (build : Build) : Type 0 where
  pub right : (codes : List ℕ) → AppendAllAt steps given₀ plan words₀ stack₀ codes → Left steps given plan words₀ words stack build codes

pub turns_first : {S : Type 0} {steps : S → Option ℕ → S → Type 0} {given : S} {plan : Plan} {words stack : List ℕ} {build : Build} → build ≡ empty_build
    → Turns steps given given plan words stack words stack build
turns_first e = record { right = λ codes due. record { done = []; later = codes; gives = due.gives; appended = none_appended e due.begun; all = refl } }

module _ {S : Type 0} {steps : S → Option ℕ → S → Type 0} {plan : Plan} {words₀ words stack : List ℕ} {build : Build} where
  -- the code that comes is the first of those left
  first_left : {given : S} {codes : List ℕ} (next : S) (code : ℕ) → steps given (Some code) next → Left steps given plan words₀ words stack build codes → AppendDue plan words stack build code
  first_left {given} next code step l = by l.later l.gives l.appended
    where
      by : (later : List ℕ) → YieldsList steps (λ x. x) given later → Appended plan words₀ words stack build l.done later → AppendDue plan words stack build code
      by [] g a = absurd (g.runs code next step)
      by (c ∷ later) g a = append_due (subst (λ (n : ℕ). Appended plan words₀ words stack build l.done (n ∷ later)) (sym (g.runs.1 code next step).0) a)

  one_less : {given next : S} {codes words' stack' : List ℕ} {r : Build} (code : ℕ) → steps given (Some code) next → AppendDone plan build code words words' stack stack' r
      → Left steps given plan words₀ words stack build codes → Left steps next plan words₀ words' stack' r codes
  one_less {given} {next} {codes} {words'} {stack'} {r} code step d l = by l.later l.gives l.appended l.all
    where
      by : (later : List ℕ) → YieldsList steps (λ x. x) given later → Appended plan words₀ words stack build l.done later → l.done ++ later ≡ codes
          → Left steps next plan words₀ words' stack' r codes
      by [] g a e = absurd (g.runs code next step)
      by (c ∷ later) g a e =
          let is = (g.runs.1 code next step).0 in
          record {
            done = l.done ++ (code ∷ []);
            later = later;
            gives = record { runs = (g.runs.1 code next step).1 };
            appended = one_appended (subst (λ (n : ℕ). Appended plan words₀ words stack build l.done (n ∷ later)) (sym is) a) d;
            all = append_assoc l.done (code ∷ []) later ∙ subst (λ (n : ℕ). l.done ++ (n ∷ later) ≡ codes) (sym is) e;
          }

  none_left : {given : S} {codes : List ℕ} (next : S) → steps given None next → Left steps given plan words₀ words stack build codes → Appended plan words₀ words stack build codes []
  none_left {given} {codes} next step l = by l.later l.gives l.appended l.all
    where
      by : (later : List ℕ) → YieldsList steps (λ x. x) given later → Appended plan words₀ words stack build l.done later → l.done ++ later ≡ codes
          → Appended plan words₀ words stack build codes []
      by [] g a e = subst (λ (l : List ℕ). Appended plan words₀ words stack build l []) (sym (append-nil l.done) ∙ e) a
      by (c ∷ later) g a e = absurd (g.runs.0 next step)

module _ {S : Type 0} {steps : S → Option ℕ → S → Type 0} {given₀ given next : S} {plan : Plan} {words₀ stack₀ words stack : List ℕ} {build : Build}
    (t : Turns steps given₀ given plan words₀ stack₀ words stack build) where
  pub append_next : {code : ℕ} → AppendAllDue steps given₀ plan words₀ stack₀ → steps given (Some code) next → AppendDue plan words stack build code
  append_next {code} due step = first_left next code step (t.right due.codes due.due)

  pub turn : {code : ℕ} {words' stack' : List ℕ} {r : Build} → steps given (Some code) next → AppendDone plan build code words words' stack stack' r
      → Turns steps given₀ next plan words₀ stack₀ words' stack' r
  turn {code} step d = record { right = λ codes due. one_less code step d (t.right codes due) }

  pub turns_end : steps given None next → AllAppended steps given₀ plan words₀ words stack₀ stack build
  turns_end step = record { right = λ codes due. none_left next step (t.right codes due) }

-- all appended, then the end
module _ {S : Type 0} {steps : S → Option ℕ → S → Type 0} {given : S} {plan : Plan} {words words₁ stack stack₁ : List ℕ} {r : Build} {number : ℕ}
    (all : AllAppended steps given plan words words₁ stack stack₁ r) where
  pub finish_given : BuildWithDue steps given plan words stack number → FinishDue plan words₁ stack₁ r number
  finish_given due = finish_due due.all.due.begun (all.right due.all.codes due.all.due) due.number_is

  pub built_with : {words₂ : List ℕ} → Finished plan r number words₁ words₂ stack₁ → BuiltWith steps given plan number words words₂ stack
  built_with f = record { right = λ codes due number_is. filled due.begun (all.right codes due) number_is f }
