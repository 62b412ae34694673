-- A register after its list of calls holds exactly the survivors.
use Prim.Native.Nat.{ℕ}
use mathlib.Core.List.{List, []}
use Rattle.measures.specs.declared.sizes.Sizes.{Sizes}
use Rattle.promises.proofs.Exactly.{accepted_makes}
use Rattle.promises.specs.Survivors.{Call, next, surviving, survivors}
use Rattle.history.specs.Run.{Fresh, by_make, Run, done, then, History}
use Rattle.promises.proofs.Keeping.{InStep}
use Rattle.history.proofs.Steps.{step_keeps}

pub run_keeps : (sizes : Sizes) (set : List ℕ) {calls : List Call} {before after : List ℕ} → Run calls before after → InStep sizes set before
    → InStep sizes (surviving sizes set calls) after
run_keeps sizes set done h = h
run_keeps sizes set (then {call} step run) h = run_keeps sizes (next sizes set call) run (step_keeps sizes set step h)

-- an accepted make leaves the empty register
fresh_is_empty : (sizes : Sizes) {words : List ℕ} → Fresh sizes words → InStep sizes [] words
fresh_is_empty sizes (by_make before r after m e) = let d = accepted_makes m e in record { holds = d.holds; sized = d.sizes_are }

pub history_keeps : (sizes : Sizes) (calls : List Call) (words : List ℕ) → History sizes calls words → InStep sizes (survivors sizes calls) words
history_keeps sizes calls words h = run_keeps sizes [] h.run (fresh_is_empty sizes h.made)
