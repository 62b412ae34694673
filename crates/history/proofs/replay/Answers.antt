-- `history::replay` meets its contract. The loop's invariant: the first calls of the script ran.
use Prim.Native.Nat.{ℕ, ◌+◌}
use native.Mathlib.Numerals.{add-one}
use mathlib.Core.Path.{subst}
use mathlib.Core.List.{List}
use Rattle.history.specs.declared.Encoded.{Encoded}
use Rattle.history.specs.Run.{Step, Run, done}
use Rattle.history.specs.Script.{call_of, encoded_at, calls_to}
use Rattle.history.proofs.CallSteps.{run_then}
use Rattle.history.proofs.replay.Goals as goal

one_more : (images codes script : List ℕ) (i : ℕ) {before between after : List ℕ} → Run (calls_to images codes script i) before between
    → Step (call_of images codes (encoded_at script i)) between after → Run (calls_to images codes script (i + 1)) before after
unfolding calls_to
one_more images codes script i run step = rw (add-one i) (run_then run step)

pub loop-i-init : goal.loop-i-init
unfolding calls_to
loop-i-init c = done

pub loop-i-preserved : goal.loop-i-preserved
loop-i-preserved c =
    let images = c.args.images.now in
    let codes = c.args.codes.now in
    one_more images codes c.args.script.now c.loop-i.i c.loop-i.invariant
    (subst (λ (e : Encoded). Step (call_of images codes e) c.loop-i.store c.step.new.store) c.encoded_at.ensures c.step.ensures)
