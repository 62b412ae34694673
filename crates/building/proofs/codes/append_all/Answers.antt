-- `building::codes::append_all` meets its contract. The loop's invariant: the codes given are appended, and those to come lie beyond them.
use borrow.Author.Rules.{rules}
use Rattle.building.proofs.GivenCodes.{turns_first, append_next, turn, turns_end}
use Rattle.building.proofs.codes.append_all.Goals as goal

pub loop-code-init : goal.loop-code-init
loop-code-init g c = rw c.into_iter-code-iterator.ensures.into_iter_gives (c.requires.can, c.requires.ends, turns_first c.empty_build-build.ensures)

pub loop-code-preserved : goal.loop-code-preserved
loop-code-preserved g c = (search rules, search rules, turn c.loop-code.invariant.2 c.in-Some.ensures.steps c.append-build.ensures)

pub append-build-requires : goal.append-build-requires
append-build-requires g c = append_next c.loop-code.invariant.2 c.requires.due c.in-Some.ensures.steps

pub returns : goal.returns
returns g c = turns_end c.loop-code.invariant.2 c.in-None.ensures.steps
