-- `query::count::count_whole` meets its contract: the root's slot is opened, and its number held against N.
use Rattle.std.proofs.Common.{rules}
use Rattle.measures.proofs.Usable.{part_length}
use Rattle.query.proofs.count.count_whole.Goals as goal

pub open_part-requires : goal.open_part-requires
open_part-requires c = search (rules, part_length)
