use Prim.Native.Nat.{◌-◌, ◌≤◌, ◌<◌}
use Rattle.runs.specs.Run.{AscendingCodes, LevelBefore, LevelAt}
use Rattle.runs.proofs.Runs.{Outward}
use Rattle.runs.proofs.least_run.Given as goal

abbrev pub invariant-loop-right : goal.invariant-loop-right
invariant-loop-right l = ((l.left ≤ l.place) × (l.place ≤ l.right) × (l.right ≤ l.count) × (l.right - l.left ≤ l.k) × (l.left < l.right → l.reached < l.level) × (l.reached ≤ 15))
    × (LevelBefore l.part l.left l.code l.below × LevelAt l.part l.count l.right l.code l.above)
    × (AscendingCodes l.part l.count → Outward l.part l.count l.k l.code l.left l.right l.reached)

abbrev pub decreases-loop-right : goal.decreases-loop-right
decreases-loop-right l = l.k - (l.right - l.left)
