-- `walks::enter` meets its contract: the slot lies in the store, and opening it says the rest.
use Rattle.std.proofs.Common.{rules}
use Rattle.measures.proofs.Usable.{part_has_head, part_narrow}
use Rattle.walks.proofs.EnteredSlot.{as_said}
use Rattle.walks.proofs.enter.Goals as goal

pub open_part-requires : goal.open_part-requires
open_part-requires c = search (rules, part_has_head, part_narrow)

pub returns : goal.returns
returns c = search (rules, as_said)
