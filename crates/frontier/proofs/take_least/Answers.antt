-- `frontier::take_least` meets its contract.
use native.Mathlib.Omega.{arith}
use borrow.Author.Rules.{rules}
use Rattle.frontier.proofs.FilledHoles.{taken, taken_only}
use Rattle.frontier.proofs.take_least.Goals as goal

pub returns-then-last-gt0 : goal.returns-then-last-gt0
returns-then-last-gt0 c = search (rules, taken)

pub returns-else-last-gt0 : goal.returns-else-last-gt0
returns-else-last-gt0 c = let (one, long, room, heap) = c.requires in taken_only one heap (omega arith)
