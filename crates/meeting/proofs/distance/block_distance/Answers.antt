use borrow.Author.Rules.{rules}
use Rattle.meeting.proofs.DistanceLaws.{side_of, to_block}
use Rattle.meeting.proofs.distance.block_distance.Goals as goal

pub returns : goal.returns
returns c = search (rules, side_of, to_block)
