-- `building::codes::build_with` meets its contract: all codes are appended, then the root is laid.
use Rattle.building.proofs.GivenCodes.{finish_given, built_with}
use Rattle.building.proofs.codes.build_with.Goals as goal

pub finish-requires : goal.finish-requires
finish-requires g c = finish_given c.append_all-build.ensures c.requires.due

pub returns : goal.returns
returns g c = built_with c.append_all-build.ensures c.finish.ensures
