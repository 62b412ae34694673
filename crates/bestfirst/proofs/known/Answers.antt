use Rattle.bestfirst.proofs.Stating.{stated}
use Rattle.bestfirst.proofs.known.Goals as goal

pub returns : goal.returns
returns c = stated c.pixel_shown.ensures
