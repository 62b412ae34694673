use Rattle.nearest.proofs.Finding.{known_ends, damaged_ends, full_damaged}
use native.Mathlib.Omega.{arith}
use Rattle.nearest.proofs.answer.search_among_many.Goals as goal

pub returns-in_err-nearest : goal.returns-in_err-nearest
returns-in_err-nearest g c = damaged_ends c.in_err-nearest.ensures _ c.from_residual.ensures.0

pub returns-in-Known : goal.returns-in-Known
returns-in-Known g c = known_ends (rw c.in-Known.is at c.in_ok-nearest.ensures)

pub returns-in-Full : goal.returns-in-Full
returns-in-Full g c =
    let laid = c.args.search.now.laid in
    full_damaged (rw c.in-Full.is at c.in_ok-nearest.ensures) (omega (arith, laid.within.slots_to))
