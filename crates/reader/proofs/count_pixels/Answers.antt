-- `reader::count_pixels` meets its contract: the levels that are 0 are counted as the definition counts them.
use borrow.Author.Rules.{rules}
use Rattle.reader.proofs.PixelNumber.{counted_levels}
use Rattle.reader.proofs.count_pixels.Goals as goal

pub returns : goal.returns
returns c = rw (counted_levels c.args.levels.now) (search rules)
