-- One pass over the elements of a block, in what each element changes. The test itself is pktree's.
use Rattle.std.specs.Prelude.{ℕ, ◌/◌, ◌^◌, ◌≤◌, ◌<◌, ◌≡◌, Bool, false, List, ◌∷◌, Result, Ok, Err}
use Rattle.pktree.specs.Entries.{Entry, entry}
use Rattle.pktree.proofs.LocalTest.{pass_test}
use Rattle.elements.specs.declared.Element.{Element}
use Rattle.elements.specs.declared.Element.TheVariants.{Pixel, Block}
use Rattle.inspection.specs.declared.pass.Pass.{Pass}
use Rattle.store.specs.declared.Damaged.{Damaged}

-- level and code of an element, a pixel's level being 0
abbrev pub entry_of : Element → Entry
entry_of (Pixel c) = entry 0 c
entry_of (Block block) = entry block.level block.code

-- before the first element of a block of this code, whose quarters are of this level
abbrev pub first_pass : ℕ → ℕ → Pass
first_pass quarters code = record { from = code; quarter = code / 4 ^ quarters; met = 0 }

pub record CanPass (pass : Pass) (k quarters : ℕ) : Type 0 where
  pub quarters_to : quarters ≤ 15
  pub k_to : k ≤ 16
  pub met_below : pass.met < k

-- the answer that the words are damaged
abbrev pub refuses : Result Pass Damaged
refuses = Err (record {})

-- the test of what is left, after an answer
abbrev pub goes_on : ℕ → ℕ → ℕ → Result Pass Damaged → List Entry → Bool
goes_on k quarters to (Ok pass) rest = pass_test k quarters to pass.from pass.quarter pass.met rest
goes_on k quarters to (Err _) rest = false

abbrev pub PassBounds : ℕ → ℕ → Entry → Result Pass Damaged → Type 0
PassBounds k quarters e (Ok pass) = (pass.met < k) × (e.level ≤ quarters)
PassBounds k quarters e (Err _) = Unit {0}

-- the test of this element and what follows it goes on as the answer says
pub record PassMeets (k quarters : ℕ) (pass : Pass) (e : Entry) (r : Result Pass Damaged) : Type 0 where
  pub bounds : PassBounds k quarters e r
  pub goes : (to : ℕ) (rest : List Entry) → pass_test k quarters to pass.from pass.quarter pass.met (e ∷ rest) ≡ goes_on k quarters to r rest
