use borrow.Author.Rules.{rules}
use Prim.Native.Nat.{◌≤◌}
use native.Mathlib.Omega.{arith}
use Rattle.meeting.proofs.MetElements.{block_met}
use Rattle.meeting.proofs.blocks.meet_element.Goals as goal

pub returns : goal.returns
returns g c =
    let near : c.block_distance-distance.result ≤ c.args.farthest = omega arith in
    search (rules, block_met, near)
