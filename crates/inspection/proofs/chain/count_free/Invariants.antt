use Rattle.inspection.proofs.ChainFollowed.{FollowedTo}
use Rattle.inspection.proofs.chain.count_free.Given as goal

abbrev pub invariant-loop-count : goal.invariant-loop-count
invariant-loop-count l = FollowedTo l.slots.layout l.slots.words.now l.next l.count
