-- Codes that an iterator gives, appended one after the other.
use Rattle.std.specs.Prelude.{ℕ, ◌≡◌, Option, List, [], length}
use Rattle.std.proofs.lemmas.Iterator.{YieldsList}
use Rattle.packing.specs.declared.Build.{Build}
use Rattle.packing.specs.declared.plan.Plan.{Plan}
use Rattle.building.specs.Finish.{BuildAt, Appended, Replaced}

-- the iterator gives these codes and no others, and nothing is built yet
pub record AppendAllAt {S : Type 0} (steps : S → Option ℕ → S → Type 0) (given : S) (plan : Plan) (words stack codes : List ℕ) : Type 0 where
  pub gives : YieldsList steps (λ x. x) given codes
  pub begun : BuildAt plan words stack codes

pub record AppendAllDue {S : Type 0} (steps : S → Option ℕ → S → Type 0) (given : S) (plan : Plan) (words stack : List ℕ) : Type 0 where
  pub codes : List ℕ
  pub due : AppendAllAt steps given plan words stack codes

pub record AllAppended {S : Type 0} (steps : S → Option ℕ → S → Type 0) (given : S) (plan : Plan) (words words' stack stack' : List ℕ) (r : Build) : Type 0 where
  pub right : (codes : List ℕ) → AppendAllAt steps given plan words stack codes → Appended plan words words' stack' r codes []

-- there are so many of them
pub record BuildWithDue {S : Type 0} (steps : S → Option ℕ → S → Type 0) (given : S) (plan : Plan) (words stack : List ℕ) (number : ℕ) : Type 0 where
  pub all : AppendAllDue steps given plan words stack
  pub number_is : number ≡ length all.codes

pub record BuiltWith {S : Type 0} (steps : S → Option ℕ → S → Type 0) (given : S) (plan : Plan) (number : ℕ) (words words' stack : List ℕ) : Type 0 where
  pub right : (codes : List ℕ) → AppendAllAt steps given plan words stack codes → number ≡ length codes → Replaced words words' codes
