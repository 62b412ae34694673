use Prim.Native.Nat.{ℕ, ◌*◌, ◌/◌, ◌^◌, ◌≤◌, ◌<◌}
use mathlib.Core.Path.{◌≡◌}
use lib.ListN.{get_or}
use Rattle.elements.proofs.run_start.Given as goal

abbrev pub invariant-loop-start : goal.invariant-loop-start
invariant-loop-start l = (l.start ≤ l.from) × ((j : ℕ) → l.start ≤ j → j < l.from → get_or l.elements (2 * j) 0 / 4 ^ l.level ≡ l.code / 4 ^ l.level)

abbrev pub decreases-loop-start : goal.decreases-loop-start
decreases-loop-start l = l.start
