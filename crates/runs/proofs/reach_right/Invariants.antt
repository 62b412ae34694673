use Prim.Native.Nat.{ℕ, ◌≤◌, ◌<◌}
use Rattle.elements.specs.Splice.{code_at}
use Rattle.runs.specs.Run.{Near}
use Rattle.runs.proofs.reach_right.Given as goal

abbrev pub invariant-loop-i : goal.invariant-loop-i
invariant-loop-i l = (j : ℕ) → l.from ≤ j → j < l.i → Near l.level l.code (code_at l.part j)
