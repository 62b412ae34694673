use native.Mathlib.Omega.{arith}
use Rattle.meeting.proofs.DistanceLaws.{to_pixel}
use Rattle.meeting.proofs.distance.pixel_distance.Goals as goal

pub returns : goal.returns
returns c = to_pixel c.x_of.ensures c.y_of.ensures (omega arith) (omega arith) c.squared.ensures
