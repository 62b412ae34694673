use Prim.Native.Nat.{◌+◌, ◌-◌, ◌*◌, ◌≤◌}
use mathlib.Core.Path.{◌≡◌}
use lib.ListN.{drop}
use Rattle.measures.specs.Sizes.{largest_most}
use Rattle.sums.specs.Sum.{number_of_elements}
use Rattle.sums.proofs.number_of_elements.Given as goal

abbrev pub invariant-loop-i : goal.invariant-loop-i
invariant-loop-i l = (l.sum ≤ l.i * largest_most) × (l.sum + number_of_elements l.layout l.store (l.count - l.i) (drop (2 * l.i) l.elements) ≡ number_of_elements l.layout l.store l.count l.elements)
