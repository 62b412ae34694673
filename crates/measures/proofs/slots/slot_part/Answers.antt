-- `measures::slots::slot_part` meets its contract: the slot ends before the store does, and the part is as wide as a slot.
use Rattle.std.proofs.Common.{◌+◌, ◌-◌, ◌≡◌, arith}
use Rattle.measures.specs.Slot.{slot_part}
use Rattle.measures.proofs.slots.slot_part.Goals as goal

pub returns : goal.returns
unfolding slot_part
returns c =
    let l = c.args.layout in
    let r = c.offset-at.result in
    let h : r + l.width - r ≡ l.width = omega arith in
    rw (h, c.offset-at.ensures.is)
