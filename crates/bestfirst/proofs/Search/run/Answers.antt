use borrow.Author.Rules.{rules}
use native.Mathlib.Omega.{arith}
use Rattle.frontier.proofs.EntryLaws.{shorter}
use Rattle.bestfirst.proofs.Looping.{loop_full, loop_complete, loop_spent, loop_damaged, loop_goes_on, loop_over}
use Rattle.bestfirst.proofs.Search.run.Goals as goal

pub returns-then-len-lt-MOST_ELEMENTS : goal.returns-then-len-lt-MOST_ELEMENTS
returns-then-len-lt-MOST_ELEMENTS g c =
    let said = c.len-in-loop-frontier.ensures in
    loop_full _ c.loop-frontier.invariant said.within (omega (arith, said.same, c.if-len-lt-MOST_ELEMENTS.true))

pub returns-then-best-distance : goal.returns-then-best-distance
returns-then-best-distance g c =
    loop_complete _ c.loop-frontier.invariant c.take_least-next.ensures c.if-best-distance.true c.known.ensures

pub returns-then-self-opened : goal.returns-then-self-opened
returns-then-self-opened g c =
    loop_spent _ c.loop-frontier.invariant c.take_least-next.ensures c.if-self-opened.true c.if-best-distance.false c.known-then-self-opened.ensures

pub open_block-requires : goal.open_block-requires
open_block-requires g c =
    let said = c.len-in-loop-frontier.ensures in
    (search rules, omega (arith, shorter c.take_least-next.ensures, said.same, said.within, c.if-len-lt-MOST_ELEMENTS.false))

pub returns-in_err-best : goal.returns-in_err-best
returns-in_err-best g c =
    loop_damaged _ c.loop-frontier.invariant c.take_least-next.ensures c.in_err-best.ensures _ c.from_residual.ensures.0

pub loop-frontier-preserved : goal.loop-frontier-preserved
loop-frontier-preserved g c =
    loop_goes_on g.row.N c.loop-frontier.invariant c.take_least-next.ensures c.args.self.now.laid c.in_ok-best.ensures c.if-self-opened.false c.if-best-distance.false

pub returns : goal.returns
returns g c =
    loop_over _ c.loop-frontier.invariant (omega (arith, c.len.ensures.same, c.loop-frontier-test.false)) c.distance_shown.ensures c.known-2.ensures
