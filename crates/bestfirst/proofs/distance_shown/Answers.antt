use Rattle.bestfirst.proofs.Stating.{none_as_zero}
use Rattle.bestfirst.proofs.distance_shown.Goals as goal

pub returns-else-distance-lt-BEYOND : goal.returns-else-distance-lt-BEYOND
returns-else-distance-lt-BEYOND c = none_as_zero c.if-distance-lt-BEYOND.false
