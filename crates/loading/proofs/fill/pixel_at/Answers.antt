-- `loading::fill::pixel_at` meets its contract: an entry of level 0 is a pixel.
use Rattle.loading.proofs.EntryPixels.{pixel_here, block_here}
use Rattle.loading.proofs.fill.pixel_at.Goals as goal

pub returns-then-byte_at-eq0 : goal.returns-then-byte_at-eq0
returns-then-byte_at-eq0 c = pixel_here c.args.codes.now c.args.levels.now c.args.at c.byte_at.ensures.0 c.if-byte_at-eq0.true c.code_at.ensures

pub returns : goal.returns
returns c = block_here c.args.codes.now c.args.levels.now c.args.at c.byte_at.ensures.0 c.if-byte_at-eq0.false
