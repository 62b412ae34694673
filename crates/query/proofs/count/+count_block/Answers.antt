-- `query::count::count_block` meets its contract: each way through the match is one of the laws of a count's turn.
use Rattle.std.proofs.Common.{ap, rules}
use Rattle.walks.proofs.Walks.{loop_turns, turns_pixel}
use Rattle.windows.specs.Corners.{window_between}
use Rattle.query.specs.WindowRange.{range_of}
use Rattle.query.specs.Counting.{numbers_of}
use Rattle.query.proofs.Opens.{count_opens}
use Rattle.query.proofs.Findings.{elements_additive, count_walk}
use Rattle.query.proofs.Counts.{pixel_counted, block_skipped, block_counted, block_taken, block_broken, number_broken, count_barred, count_broken, count_whole}
use Rattle.query.proofs.count.+count_block.Goals as goal
use Rattle.query.proofs.count.+count_block.Goals.{in-Pixel, in-Block+in-Apart, in-Block+in-Inside+in_ok-take_number-in-Inside, in-Block+in-OverEdge+in_ok-count_block-in-OverEdge}

pub returns-in_err-count : goal.returns-in_err-count
returns-in_err-count t c = search (rules, count_barred)

pub returns-in_err-take_number-in-Inside : goal.returns-in_err-take_number-in-Inside
returns-in_err-take_number-in-Inside t c =
    let range = range_of c.args.range.now in
    let one = c.wrapping_add_u32-sum.ensures.value in
    count_broken c.loop-i.invariant c.loop-i-test.true c.element_at.ensures (number_broken range c.args.range.now.ordered one c.in-Block.is c.lies.ensures c.args.range.now.slots.fits c.in-Inside.is c.take_number.ensures c.in_err-take_number-in-Inside.was) _
    c.from_residual-in_err-take_number-in-Inside.ensures.0

pub returns-in_err-count_block-in-OverEdge : goal.returns-in_err-count_block-in-OverEdge
returns-in_err-count_block-in-OverEdge t c =
    let range = range_of c.args.range.now in
    let one = c.wrapping_add_u32-sum.ensures.value in
    count_broken c.loop-i.invariant c.loop-i-test.true c.element_at.ensures (block_broken range c.args.range.now.ordered one c.in-Block.is c.lies.ensures c.in-OverEdge.is c.count_block.ensures c.in_err-count_block-in-OverEdge.was) _
    c.from_residual-in_err-count_block-in-OverEdge.ensures.0

pub loop-i-preserved : goal.loop-i-preserved
loop-i-preserved t c =
    let l = c.loop-i.invariant in
    let below = c.loop-i-test.true in
    let is = c.element_at.ensures in
    let one = c.wrapping_add_u32-sum.ensures.value in
    let range = range_of c.args.range.now in
    let opens = count_opens (window_between range.corners) in
    let walk = count_walk (elements_additive opens) in
    let ordered = c.args.range.now.ordered in
    elim c.match-element_at.branch [
      | in-Pixel w ↦ turns_pixel l below is (ap numbers_of w.sum-is) walk w.in-Pixel.is (pixel_counted range.corners opens ordered one c.args.range.now.most_to w.count_pixel-sum.ensures)
      | in-Block+in-Apart w ↦ loop_turns l below is (ap numbers_of w.sum-is) walk (block_skipped range ordered one w.in-Block.is w.lies.ensures w.in-Apart.is)
      | in-Block+in-Inside+in_ok-take_number-in-Inside w ↦
          loop_turns l below is (ap numbers_of w.sum-is) walk (block_taken range ordered one w.in-Block.is w.lies.ensures c.args.range.now.slots.fits w.in-Inside.is w.take_number.ensures)
      | in-Block+in-OverEdge+in_ok-count_block-in-OverEdge w ↦
          loop_turns l below is (ap numbers_of w.sum-is) walk (block_counted range ordered one w.in-Block.is w.lies.ensures w.in-OverEdge.is w.count_block.ensures)
    ]

pub returns : goal.returns
returns t c = search (rules, count_whole)
