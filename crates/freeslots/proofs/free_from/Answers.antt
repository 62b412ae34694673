-- `freeslots::free_from` meets its contract. The loop's invariant: the slots from `slot` on are in the chain, and the rest is as it was.
use native.Mathlib.Omega.{arith}
use Rattle.freeslots.proofs.FreedSlots.{none_fits, one_more_freed, freed_down}
use Rattle.freeslots.proofs.free_from.Goals as goal

pub loop-slot-preserved : goal.loop-slot-preserved
loop-slot-preserved c = (
  omega arith,
  one_more_freed c.args.layout c.loop-slot.slot _ c.loop-slot.store c.release.new.store (none_fits c.args.layout c.args.store.now c.requires.0)
      (omega arith) (omega arith) c.loop-slot.invariant.1 c.release.ensures,
)

pub returns : goal.returns
returns c = freed_down _ c.loop-slot.slot _ c.args.store.now _ (omega arith) c.loop-slot.invariant.1
