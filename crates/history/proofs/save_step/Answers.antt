use Prim.Native.Nat.{ℕ}
use mathlib.Core.Path.{subst}
use lib.ListN.{take, replicate}
use Rattle.promises.specs.Survivors.{save}
use Rattle.history.specs.Run.{Step}
use Rattle.history.proofs.CallSteps.{save_step}
use Rattle.history.proofs.save_step.Goals as goal

pub returns : goal.returns
returns c =
    let args = c.args in
    subst (λ (n : ℕ). Step (save (take n (replicate 64 0))) args.store.now args.store.now) c.wide-n.ensures
    (save_step args.store.now _ _ c.save.result c.save.ensures)
