-- `sums::number_of_elements` meets its contract: the sum so far and what the elements left stand for are the whole.
use native.Mathlib.Omega.{arith}
use Rattle.sums.proofs.ElementNumbers.{number_turn}
use Rattle.sums.proofs.number_of_elements.Goals as goal

pub loop-i-preserved : goal.loop-i-preserved
loop-i-preserved c =
    let a = c.args in (
      omega (arith, c.number_named-sum.ensures.1, c.loop-i.invariant.0),
      number_turn a.layout a.store.now a.elements.now a.count c.loop-i.i c.loop-i.sum c.number_named-sum.result (omega arith) (omega arith) c.number_named-sum.ensures.0 c.loop-i.invariant.1,
    )
