use Rattle.bestfirst.proofs.Looping.{root_met}
use Rattle.bestfirst.proofs.meet_root.Goals as goal

pub returns : goal.returns
returns g c = root_met c.starting_at.ensures c.block_distance-to_root.ensures c.key_of.ensures c.tag_of.ensures
