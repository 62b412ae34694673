use Rattle.bestfirst.proofs.Stating.{pixel_as_found, pixel_as_none}
use Rattle.bestfirst.proofs.pixel_shown.Goals as goal

pub returns-then-best-lt-BEYOND : goal.returns-then-best-lt-BEYOND
returns-then-best-lt-BEYOND c = pixel_as_found c.if-best-lt-BEYOND.true

pub returns : goal.returns
returns c = pixel_as_none c.if-best-lt-BEYOND.false
