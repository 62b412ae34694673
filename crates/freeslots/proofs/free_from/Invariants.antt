use Prim.Native.Nat.{◌≤◌}
use Rattle.freeslots.specs.FreeSlots.{FreeFrom}
use Rattle.freeslots.proofs.free_from.Given as goal

abbrev pub invariant-loop-slot : goal.invariant-loop-slot
invariant-loop-slot l = (l.first ≤ l.slot) × FreeFrom l.layout l.slot l.initial.store l.store
