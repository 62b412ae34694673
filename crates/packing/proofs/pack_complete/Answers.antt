-- `packing::pack_complete` meets its contract. The loop's invariant: what was due at first is due still, and the stack gets shorter.
use borrow.Author.Rules.{rules}
use Rattle.packing.proofs.PackTurns.{going_first, pack_here, going_on, ends_short, ends_high}
use Rattle.packing.proofs.pack_complete.Goals as goal

pub returns-then-limit-level : goal.returns-then-limit-level
returns-then-limit-level c = search (rules, ends_high)

pub returns : goal.returns
returns c = search (rules, ends_short)

pub loop-packed-init : goal.loop-packed-init
loop-packed-init c = search (rules, going_first)

pub pack-packed-requires : goal.pack-packed-requires
pack-packed-requires c = search (rules, pack_here)

pub loop-packed-preserved : goal.loop-packed-preserved
loop-packed-preserved c = search (rules, going_on)
