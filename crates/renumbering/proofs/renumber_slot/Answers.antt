-- `renumbering::renumber_slot` meets its contract: the number of the slot is set.
use native.Mathlib.Omega.{arith}
use Rattle.renumbering.proofs.Renumbering.{slot_renumbered}
use Rattle.renumbering.proofs.renumber_slot.Goals as goal

pub returns : goal.returns
returns c =
    slot_renumbered _ c.args.removed c.args.inserted c.changed_number.result (omega (arith, c.offset-at.ensures.is)) (omega (arith, c.requires.0.0.within.width_from))
    c.changed_number.ensures
