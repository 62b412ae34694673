-- `reader::Entries::read_elements`, `read_quarter` and `read_element` meet their contracts.
use native.Mathlib.Omega.{arith}
use borrow.Author.Rules.{rules}
use mathlib.Core.Path.{◌≡◌}
use Rattle.reader.specs.Reading.{wrong}
use Rattle.reader.proofs.ElementRead.{pixel_read, claimed_wrong, claimed_few, claimed_read}
use Rattle.reader.proofs.QuarterRead as quarter
use Rattle.reader.proofs.QuartersRead as quarters
use Rattle.reader.proofs.Entries.+read_element_read_elements_read_quarter.Goals as goal

pub read_element-returns-then-level-lt1 : goal.read_element-returns-then-level-lt1
read_element-returns-then-level-lt1 t c = search (rules, pixel_read)

pub read_element-returns-in_err-inside : goal.read_element-returns-in_err-inside
read_element-returns-in_err-inside t c = let is : c.from_residual.result ≡ wrong = search rules in rw is (search (rules, claimed_wrong))

pub read_element-returns-then-inside-self : goal.read_element-returns-then-inside-self
read_element-returns-then-inside-self t c =
    claimed_few c.requires.0 c.requires.1 c.if-level-lt1.false c.read_elements.ensures c.in_ok-inside.was c.if-inside-self.true

pub read_element-returns : goal.read_element-returns
read_element-returns t c =
    claimed_read c.requires.0 c.requires.1 c.if-level-lt1.false c.read_elements.ensures c.in_ok-inside.was c.if-inside-self.false

pub read_elements-loop-init : goal.read_elements-loop-init
read_elements-loop-init t c = search (rules, quarters.no_quarter_read)

pub read_elements-returns-in_err-quarter : goal.read_elements-returns-in_err-quarter
read_elements-returns-in_err-quarter t c =
    let is : c.from_residual.result ≡ wrong = search rules in
    rw is (quarters.quarter_wrong c.requires.0 c.requires.1 c.loop.invariant (omega (arith, c.loop-test.true)) c.read_quarter.ensures c.in_err-quarter.was)

pub read_elements-loop-preserved : goal.read_elements-loop-preserved
read_elements-loop-preserved t c = search (rules, quarters.next_quarter_read)

pub read_elements-returns : goal.read_elements-returns
read_elements-returns t c =
    quarters.all_read c.requires.0 c.requires.1 c.loop.invariant (omega (arith, c.loop-test.false))

pub read_quarter-loop-inner-init : goal.read_quarter-loop-inner-init
read_quarter-loop-inner-init t c = search (rules, quarter.none_read)

pub read_quarter-returns : goal.read_quarter-returns
read_quarter-returns t c = search (rules, quarter.quarter_read)

pub read_quarter-returns-then-not-fits_quarter : goal.read_quarter-returns-then-not-fits_quarter
read_quarter-returns-then-not-fits_quarter t c = search (rules, quarter.element_unfit)

pub read_quarter-read_element-requires : goal.read_quarter-read_element-requires
read_quarter-read_element-requires t c = search (rules, quarter.element_falls, quarter.element_can, quarter.element_there)

pub read_quarter-returns-in_err-element : goal.read_quarter-returns-in_err-element
read_quarter-returns-in_err-element t c =
    let is : c.from_residual.result ≡ wrong = search rules in
    rw is (quarter.element_wrong c.requires c.loop-inner.invariant c.block_end-end.ensures c.next_entry.ensures c.in-Some.is c.fits_quarter.ensures c.if-not-fits_quarter.false c.read_element.ensures c.in_err-element.was)

pub read_quarter-returns-then-self-count : goal.read_quarter-returns-then-self-count
read_quarter-returns-then-self-count t c =
    quarter.element_many c.requires c.loop-inner.invariant c.block_end-end.ensures c.next_entry.ensures c.in-Some.is c.fits_quarter.ensures c.if-not-fits_quarter.false c.read_element.ensures c.in_ok-element.was c.if-self-count.true

pub read_quarter-block_end-place-requires : goal.read_quarter-block_end-place-requires
read_quarter-block_end-place-requires t c = search (rules, quarter.element_low, quarter.element_ends)

pub read_quarter-loop-inner-smaller : goal.read_quarter-loop-inner-smaller
read_quarter-loop-inner-smaller t c = search (rules, quarter.place_rises)

pub read_quarter-loop-inner-preserved : goal.read_quarter-loop-inner-preserved
read_quarter-loop-inner-preserved t c = search (rules, quarter.element_read)
