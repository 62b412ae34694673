-- `saving::numbers::read_numbers` meets its contract: each way out is a law of SaidNumbers.
use Rattle.std.proofs.Common.{ap, ◌∙◌, arith, rules}
use Rattle.measures.specs.Slot.{slot_part}
use Rattle.measures.proofs.Usable.{part_length}
use Rattle.saving.proofs.SaidNumbers.{not_opened, too_many_pixels, too_many_blocks, numbers_said}
use Rattle.saving.proofs.numbers.read_numbers.Goals as goal

pub open_part-requires : goal.open_part-requires
open_part-requires c = search (rules, part_length)

pub returns-in_err-open_part : goal.returns-in_err-open_part
returns-in_err-open_part c =
    let register = c.args.register.now in
    let slots = c.slots-slots in
    not_opened register.usable register.said slots.ensures.laid (c.part-root.ensures ∙ ap (λ r. slot_part slots.result.layout.width r.now 0) slots.ensures.same) c.in_err-open_part.was c.open_part.ensures _
    c.from_residual.ensures.0

pub returns-then-sizes-pixels : goal.returns-then-sizes-pixels
returns-then-sizes-pixels c =
    let register = c.args.register.now in
    let slots = c.slots-slots in
    too_many_pixels register.usable register.said slots.ensures.laid (c.part-root.ensures ∙ ap (λ r. slot_part slots.result.layout.width r.now 0) slots.ensures.same) c.if-sizes-pixels.true

pub returns-then-layout-wide : goal.returns-then-layout-wide
returns-then-layout-wide c =
    let register = c.args.register.now in too_many_blocks register.usable register.said c.slots-slots.ensures.laid (omega (arith, c.if-layout-wide.true, c.wide.ensures))

pub returns : goal.returns
returns c =
    let register = c.args.register.now in
    let slots = c.slots-slots in
    numbers_said register.usable register.said slots.ensures.laid (c.part-root.ensures ∙ ap (λ r. slot_part slots.result.layout.width r.now 0) slots.ensures.same) c.in_ok-open_part.was c.open_part.ensures
    c.if-sizes-pixels.false (omega (arith, c.if-layout-wide.false, c.wide.ensures))
