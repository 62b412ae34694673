-- `runs::reach_left` meets its contract: the elements' words are the slot's past its head.
use Rattle.runs.proofs.Runs.{reached_left}
use Rattle.runs.proofs.reach_left.Goals as goal

pub returns : goal.returns
returns c = reached_left c.args.part.now c.run_start.ensures
