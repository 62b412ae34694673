-- The level falls, and `walk_block` at a level lies between `walk_element` there and below. The invariant: the first i elements of the block are walked.
use Rattle.std.proofs.Common.{◌+◌, ◌*◌}
use Rattle.traversal.specs.Walk.{limits_of}
use Rattle.traversal.proofs.BlockWalks.{InBlock}
use Rattle.traversal.proofs.Walk.+walk_block_walk_element.Given as goal

abbrev pub decreases-walk_block : goal.decreases-walk_block
decreases-walk_block l = 2 * l.claim.block.level + 1

abbrev pub decreases-walk_element : goal.decreases-walk_element
decreases-walk_element l = 2 * l.level

abbrev pub invariant-walk_block-loop-i : goal.invariant-walk_block-loop-i
invariant-walk_block-loop-i l =
    InBlock (limits_of l.fn.self) l.fn.self.slots.words.now l.part l.fn.claim l.seen l.count l.i l.pass l.seen_now
