use borrow.Author.Rules.{rules}
use Rattle.meeting.proofs.DistanceLaws.{at_code}
use Rattle.meeting.proofs.distance.place_of.Goals as goal

pub returns : goal.returns
returns c = search (rules, at_code)
