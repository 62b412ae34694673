-- `freeslots::release` meets its contract: two words of the slot and words 6 and 7 are set, which puts the slot before the chain.
use native.Mathlib.Omega.{arith}
use Rattle.freeslots.proofs.FreeChains.{slot_released}
use Rattle.freeslots.proofs.release.Goals as goal

pub returns : goal.returns
returns c =
    let o = c.offset-at.ensures in
    slot_released c.args.layout.width c.args.slot _ c.args.held c.args.store.now (omega arith) (omega arith) o.is
