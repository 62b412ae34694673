-- `collecting::list_inside` meets its contract: each way through the match is one of the laws of a list's turn.
use Rattle.std.proofs.Common.{ap, rules}
use Rattle.walks.proofs.Walks.{turns_pixel, loop_turns}
use Rattle.query.proofs.Openings.{next_begins}
use Rattle.collecting.proofs.Lists.{list_walk, all_are, code_added}
use Rattle.collecting.proofs.BlockLists.{all_additive, all_barred, all_broken, all_whole, inside_walked, inside_broken}
use Rattle.collecting.proofs.+list_inside.Goals as goal
use Rattle.collecting.proofs.+list_inside.Goals.{in-Pixel, in-Block+in_ok-list_inside-in-Block}

pub returns-in_err-count : goal.returns-in_err-count
returns-in_err-count t c = all_barred c.open_next.ensures c.in_err-count.was c.args.slots.now.fits _ c.from_residual.ensures.0

pub returns-in_err-list_inside-in-Block : goal.returns-in_err-list_inside-in-Block
returns-in_err-list_inside-in-Block t c =
    all_broken c.loop-i.invariant c.loop-i-test.true c.element_at.ensures (inside_broken c.in-Block.is c.list_inside.ensures c.in_err-list_inside-in-Block.was) (search rules) _
    c.from_residual-in_err-list_inside-in-Block.ensures.0

pub loop-i-init : goal.loop-i-init
loop-i-init t c = next_begins c.open_next.ensures c.in_ok-count.was (search rules) (list_walk all_additive)

pub loop-i-preserved : goal.loop-i-preserved
loop-i-preserved t c =
    let l = c.loop-i.invariant in
    let below = c.loop-i-test.true in
    let is = c.element_at.ensures in
    let walk = list_walk all_additive in
    elim c.match-element_at.branch [
      | in-Pixel w ↦ turns_pixel l below is (all_are w.out-is w.sum-is) walk w.in-Pixel.is (code_added w.write_code-sum.ensures)
      | in-Block+in_ok-list_inside-in-Block w ↦ loop_turns l below is (all_are w.out-is w.sum-is) walk (inside_walked w.in-Block.is w.list_inside.ensures)
    ]

pub returns : goal.returns
returns t c = search (rules, all_whole)
