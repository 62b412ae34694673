-- A budget that no register can spend completes the search.
use Prim.Native.Nat.{ℕ}
use native.Mathlib.Omega.{arith}
use mathlib.Core.List.{List}
use Rattle.measures.proofs.Bounds.{slot_count_bounded}
use Rattle.store.proofs.Held.{held_blocks}
use Rattle.promises.specs.Answer.{Answer}
use Rattle.promises.specs.Calls.{NearestMeets}
use Rattle.promises.proofs.Nearest.{nearest_says, nearest_whole}
use Rattle.clients.specs.Known.{WholeSearch}

pub all_searched : {words : List ℕ} {x y : ℕ} {a : Answer} → NearestMeets words x y 4294967295 a → WholeSearch words x y a
all_searched m = record {
  says = λ set holds on.
      let few = slot_count_bounded holds.sound.usable.valid in
      (nearest_says holds m on (omega arith)).complete (nearest_whole holds m on (omega arith) (omega (arith, held_blocks holds, few)));
}
