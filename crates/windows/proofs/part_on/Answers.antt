-- `windows::part_on` meets its contract: the part's coordinates are the panel's, so they come back from the codes of its corners.
use borrow.Author.Rules.{rules}
use Rattle.windows.proofs.PartCorners.{part_made}
use Rattle.windows.proofs.part_on.Goals as goal

pub returns : goal.returns
returns c = search (rules, part_made)
