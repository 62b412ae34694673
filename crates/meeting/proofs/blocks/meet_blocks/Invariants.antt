use Prim.Native.Nat.{◌-◌, ◌≤◌}
use Rattle.meeting.proofs.MetBlocks.{MetTo}
use Rattle.meeting.proofs.blocks.meet_blocks.Given as goal

abbrev pub invariant-loop-i : goal.invariant-loop-i
invariant-loop-i g l = (l.i ≤ l.count) × MetTo l.part l.count l.above l.place l.farthest l.initial.frontier l.frontier l.i

abbrev pub decreases-loop-i : goal.decreases-loop-i
decreases-loop-i g l = l.count - l.i
