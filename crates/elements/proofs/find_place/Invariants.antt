use Prim.Native.Nat.{◌≤◌, ◌<◌}
use Rattle.elements.specs.Splice.{code_at}
use Rattle.elements.proofs.find_place.Given as goal

abbrev pub invariant-loop-place : goal.invariant-loop-place
invariant-loop-place l = (l.place ≤ l.count) × (l.place < l.count → l.code < code_at l.part l.place)

abbrev pub decreases-loop-place : goal.decreases-loop-place
decreases-loop-place l = l.place
