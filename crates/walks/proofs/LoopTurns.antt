-- What a turn of the loop over the elements of a block asks, said once for every walk.
use Prim.Native.Nat.{ℕ, ◌+◌, ◌-◌, ◌≤◌, ◌<◌}
use native.Mathlib.Omega.{arith}
use mathlib.Core.List.{List}
use lib.ListN.{length}
use mir.Syntax.{w64}
use mir.Val.{Fits}
use Rattle.pktree.specs.Elements.{Forest}
use Rattle.measures.specs.Slot.{element_index}
use Rattle.measures.specs.declared.sizes.Layout.{Layout}
use Rattle.walks.proofs.Walks.{InLoop}

module _ {S : Type 0} {W : S → Forest → S → Type 0} {layout : Layout} {words : List ℕ} {above slot level code count i : ℕ} {part : List ℕ} {s t : S}
    (to : InLoop W layout words above slot level code count part i s t) (below : i < count) where
  pub element_there : element_index i + 2 ≤ length part
  element_there = omega (arith, to.laid)

  pub next_fits : Fits w64 (i + 1)
  next_fits = record { fits = omega (arith, to.slot_entered.few) }

pub fewer_left : {count i : ℕ} → i < count → count - (i + 1) < count - i
fewer_left below = omega arith
