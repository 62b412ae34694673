-- `saving::save_block` meets its contract: each way through the match is one of the laws of a save's turn.
use Rattle.std.proofs.Common.{length, ap, ◌∙◌, arith, rules}
use Rattle.walks.proofs.Walks.{turns_pixel, loop_turns}
use Rattle.saving.specs.Saving.{reached}
use Rattle.saving.proofs.Saves.{save_walk, written_is, pixel_saved, pixel_broken, block_saved, block_broken, left_falls, save_barred, save_broken, save_whole}
use Rattle.saving.proofs.+save_block.Goals as goal
use Rattle.saving.proofs.+save_block.Goals.{in-Pixel+in_ok-next-in-Pixel, in-Block+in_ok-save_block-in-Block}

pub returns-in_default : goal.returns-in_default
returns-in_default t c = search (rules, save_barred)

pub returns-in_err-next-in-Pixel : goal.returns-in_err-next-in-Pixel
returns-in_err-next-in-Pixel t c =
    let l = c.loop-i.invariant in
    save_broken c.if-progress-lt1.false c.put_entry.ensures l.0 {u = reached c.save_pixel.new.output c.loop-i.progress} c.loop-i-test.true c.element_at.ensures (pixel_broken c.save_pixel.ensures c.in_err-next-in-Pixel.was c.in-Pixel.is)
    (c.save_pixel.ensures.long ∙ l.2) l.3 _ c.from_residual.ensures.0

pub returns-in_err-save_block-in-Block : goal.returns-in_err-save_block-in-Block
returns-in_err-save_block-in-Block t c =
    let l = c.loop-i.invariant in
    save_broken c.if-progress-lt1.false c.put_entry.ensures l.0 {u = reached c.save_block.new.output c.save_block.new.progress} c.loop-i-test.true c.element_at.ensures (block_broken c.in-Block.is c.save_block.ensures c.in_err-save_block-in-Block.was)
    (c.save_block.ensures.long ∙ l.2) (omega (arith, left_falls c.save_block.ensures, l.3)) _ c.from_residual-in_err-save_block-in-Block.ensures.0

pub loop-i-preserved : goal.loop-i-preserved
loop-i-preserved t c =
    let l = c.loop-i.invariant in
    let below = c.loop-i-test.true in
    let is = c.element_at.ensures in
    elim c.match-element_at.branch [
      | in-Pixel+in_ok-next-in-Pixel w ↦ (
        turns_pixel l.0 below is (written_is w.output-is w.next-is w.progress-is) save_walk w.in-Pixel.is (pixel_saved w.save_pixel.ensures w.in_ok-next-in-Pixel.was),
        l.1,
        ap length w.output-is ∙ w.save_pixel.ensures.long ∙ l.2,
        rw w.progress-is l.3,
      )
      | in-Block+in_ok-save_block-in-Block w ↦ (
        loop_turns l.0 below is (written_is w.output-is w.next-is w.progress-is) save_walk (block_saved w.in-Block.is w.save_block.ensures),
        l.1,
        ap length w.output-is ∙ w.save_block.ensures.long ∙ l.2,
        rw w.progress-is (omega (arith, left_falls w.save_block.ensures, l.3)),
      )
    ]

pub returns : goal.returns
returns t c =
    let l = c.loop-i.invariant in save_whole c.if-progress-lt1.false c.put_entry.ensures l.0 c.loop-i-test.false l.2 l.3
