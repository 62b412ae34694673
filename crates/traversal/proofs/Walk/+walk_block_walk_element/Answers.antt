-- `traversal::Walk::walk_block` and `walk_element` meet their contracts: the answers for a block, from what its loop has read, and for one element.
use borrow.Author.Rules.{rules}
use native.Mathlib.Omega.{arith}
use mathlib.Core.Path.{◌≡◌}
use Rattle.traversal.specs.Walk.{unsound}
use Rattle.traversal.proofs.BlockWalks.{refused_at, unsound_at, next_walked, misnumbered, too_long, block_whole}
use Rattle.traversal.proofs.ElementWalks.{pixel_walked, block_walked}
use Rattle.traversal.proofs.Walk.+walk_block_walk_element.Goals as goal

pub walk_block-returns-in_err-pass : goal.walk_block-returns-in_err-pass
walk_block-returns-in_err-pass t c =
    let is : c.from_residual-in_err-pass.result ≡ unsound = search rules in
    rw is (refused_at c.loop-i.invariant c.loop-i-test.true c.element_at-element.ensures c.in_err-pass.was c.pass_element.ensures)

pub walk_block-returns-in_err-seen_now : goal.walk_block-returns-in_err-seen_now
walk_block-returns-in_err-seen_now t c =
    let is : c.from_residual-in_err-seen_now.result ≡ unsound = search rules in
    rw is (unsound_at c.loop-i.invariant c.loop-i-test.true c.element_at-element.ensures c.in_ok-pass.was c.pass_element.ensures c.in_err-seen_now.was
    c.walk_element.ensures)

pub walk_block-loop-i-preserved : goal.walk_block-loop-i-preserved
walk_block-loop-i-preserved t c =
    next_walked c.loop-i.invariant c.loop-i-test.true c.element_at-element.ensures c.in_ok-pass.was c.pass_element.ensures c.in_ok-seen_now.was
    c.walk_element.ensures

pub walk_block-returns-then-block_end-pass : goal.walk_block-returns-then-block_end-pass
walk_block-returns-then-block_end-pass t c = too_long c.loop-i.invariant c.loop-i-test.false c.block_end.ensures c.if-block_end-pass.true

pub walk_block-returns-then-part-seen_now : goal.walk_block-returns-then-part-seen_now
walk_block-returns-then-part-seen_now t c =
    misnumbered c.loop-i.invariant c.loop-i-test.false (λ same. omega (arith, same, c.if-part-seen_now.true))

pub walk_block-returns : goal.walk_block-returns
walk_block-returns t c =
    block_whole c.loop-i.invariant c.loop-i-test.false c.block_end.ensures c.if-block_end-pass.false (omega (arith, c.if-part-seen_now.false))

pub walk_element-returns-in-Pixel : goal.walk_element-returns-in-Pixel
walk_element-returns-in-Pixel t c = search (rules, pixel_walked)

pub walk_element-returns-else-self-wide : goal.walk_element-returns-else-self-wide
walk_element-returns-else-self-wide t c = block_walked _ _ _ c.in-Block.is c.args.self.now.slots.fits.within c.wide.ensures c.if-self-wide.false c.if-block-lt1.false _ c.walk_block.ensures
