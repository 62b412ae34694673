use Prim.Native.Nat.{ℕ}
use mathlib.Core.Path.{subst}
use lib.ListN.{take, replicate}
use Rattle.promises.specs.Survivors.{list}
use Rattle.history.specs.Run.{Step}
use Rattle.history.proofs.CallSteps.{list_step}
use Rattle.history.proofs.list_step.Goals as goal

pub returns : goal.returns
returns c =
    let args = c.args in
    let call = args.call in
    subst (λ (n : ℕ). Step (list call.a call.b call.c call.d (take n (replicate 16 0))) args.store.now args.store.now)
    c.wide-n.ensures
    (list_step args.store.now call.a call.b call.c call.d _ _ c.list.result c.list.ensures)
