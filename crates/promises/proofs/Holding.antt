-- What make, mark, clear, load and fill leave where they are done.
use Prim.Native.Nat.{ℕ}
use mathlib.Core.Path.{◌≡◌}
use mathlib.Core.List.{List}
use Rattle.measures.specs.declared.sizes.Sizes.{Sizes}
use Rattle.measures.specs.Sizes.{sizes_of}
use Rattle.store.specs.Sound.{Holds}
use Rattle.promises.specs.Answer.{Answer, accepted}
use Rattle.promises.specs.Effect.{effect}
use Rattle.promises.specs.Change.{Becomes}

-- done: a sound register of these sizes that holds this set
pub record Holding (sizes : Sizes) (set : List ℕ) (a : Answer) (after : List ℕ) : Type 0 where
  pub done : a ≡ accepted 0 0
  pub holds : Holds after set
  pub sizes_are : sizes_of after ≡ sizes

pub now_holding : {sizes : Sizes} {set before after : List ℕ} {a : Answer} → Becomes sizes set (effect a before after) → Holding sizes set a after
now_holding b = record { done = b.done.done; holds = b.holds; sizes_are = b.sizes_are }
