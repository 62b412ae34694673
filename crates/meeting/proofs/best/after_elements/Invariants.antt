use Prim.Native.Nat.{◌-◌, ◌≤◌}
use Rattle.meeting.proofs.SeenElements.{SeenTo}
use Rattle.meeting.proofs.best.after_elements.Given as goal

abbrev pub invariant-loop-i : goal.invariant-loop-i
invariant-loop-i l = (l.i ≤ l.count) × SeenTo l.place l.initial.nearest l.part l.count l.i l.nearest

abbrev pub decreases-loop-i : goal.decreases-loop-i
decreases-loop-i l = l.count - l.i
