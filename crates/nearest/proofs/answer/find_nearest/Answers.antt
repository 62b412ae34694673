-- `nearest::answer::find_nearest` meets its contract: what the search says is the page's own words.
use native.Mathlib.Omega.{arith}
use mathlib.Core.Path.{ap}
use Rattle.std.proofs.lemmas.Result.{err_from_is_err_and}
use Rattle.nearest.proofs.Finding.{laid_told, finds}
use Rattle.nearest.proofs.answer.find_nearest.Goals as goal

pub returns-in_err-nearest : goal.returns-in_err-nearest
returns-in_err-nearest c =
    let register = c.args.register.now in
    let p = err_from_is_err_and c.from_residual.result c.from_residual.ensures.1 in
    rw (p.1, p.2)
    (finds register.usable (laid_told register.said c.slots.ensures.laid) c.place_of-place.ensures (omega (arith, c.if-budget-eq0.false)) (rw (ap (λ r. r.now) c.slots.ensures.same) at c.in_err-nearest.ensures))

pub returns : goal.returns
returns c =
    let register = c.args.register.now in
    finds register.usable (laid_told register.said c.slots.ensures.laid) c.place_of-place.ensures (omega (arith, c.if-budget-eq0.false)) (rw (ap (λ r. r.now) c.slots.ensures.same) at c.in_ok-nearest.ensures)
