-- It calls itself only with more places than the frontier has.
use Rattle.std.proofs.Common.{◌+◌, ◌-◌}
use Rattle.nearest.specs.Ends.{many_places}
use Rattle.nearest.proofs.answer.+search_from.Given as goal

abbrev pub decreases-search_from : goal.decreases-search_from
decreases-search_from g l = many_places + 1 - l.places
