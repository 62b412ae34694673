-- `collecting::list_block` meets its contract: each way through the match is one of the laws of a list's turn.
use Rattle.std.proofs.Common.{rules}
use Rattle.walks.proofs.Walks.{loop_turns, turns_pixel}
use Rattle.query.specs.WindowRange.{range_of}
use Rattle.query.proofs.Opens.{list_opens}
use Rattle.query.proofs.Openings.{next_begins}
use Rattle.query.proofs.Findings.{elements_additive}
use Rattle.collecting.proofs.Lists.{list_walk, all_are, pixel_listed}
use Rattle.collecting.proofs.BlockLists.{block_skipped, block_listed, block_broken, list_barred, list_broken, list_inside, list_whole}
use Rattle.collecting.proofs.+list_block.Goals as goal
use Rattle.collecting.proofs.+list_block.Goals.{in-Pixel, in-Block+then-meets+in_ok-list_block-in-Block, in-Block+else-meets}

pub returns-then-lies_inside : goal.returns-then-lies_inside
returns-then-lies_inside t c = list_inside c.lies_inside.ensures c.if-lies_inside.true c.args.range.now.most_to c.list_inside.ensures

pub returns-in_err-count : goal.returns-in_err-count
returns-in_err-count t c = list_barred c.open_next.ensures c.in_err-count.was c.args.range.now.slots.fits _ c.from_residual.ensures.0

pub returns-in_err-list_block-in-Block : goal.returns-in_err-list_block-in-Block
returns-in_err-list_block-in-Block t c =
    list_broken c.lies_inside.ensures c.if-lies_inside.false c.loop-i.invariant c.loop-i-test.true c.element_at.ensures
    (block_broken _ c.args.range.now.ordered c.wrapping_add_u32-sum.ensures.value c.in-Block.is c.meets.ensures c.if-meets.true c.list_block.ensures c.in_err-list_block-in-Block.was) (search rules) _
    c.from_residual-in_err-list_block-in-Block.ensures.0

pub loop-i-init : goal.loop-i-init
loop-i-init t c = next_begins c.open_next.ensures c.in_ok-count.was (search rules) (list_walk (elements_additive (list_opens _)))

pub loop-i-preserved : goal.loop-i-preserved
loop-i-preserved t c =
    let l = c.loop-i.invariant in
    let below = c.loop-i-test.true in
    let is = c.element_at.ensures in
    let one = c.wrapping_add_u32-sum.ensures.value in
    let walk = list_walk (elements_additive (list_opens _)) in
    let range = c.args.range.now in
    elim c.match-element_at.branch [
      | in-Pixel w ↦ turns_pixel l below is (all_are w.out-is w.sum-is) walk w.in-Pixel.is (pixel_listed _ range.ordered one range.most_to w.list_pixel-sum.ensures)
      | in-Block+then-meets+in_ok-list_block-in-Block w ↦
          loop_turns l below is (all_are w.out-is w.sum-is) walk (block_listed (range_of range) range.ordered one w.in-Block.is w.meets.ensures w.if-meets.true w.list_block.ensures)
      | in-Block+else-meets w ↦
          loop_turns l below is (all_are w.out-is w.sum-is) walk (block_skipped (range_of range) range.ordered one w.in-Block.is w.meets.ensures w.if-meets.false)
    ]

pub returns : goal.returns
returns t c = search (rules, list_whole)
