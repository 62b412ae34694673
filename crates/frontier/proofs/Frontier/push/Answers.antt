-- `frontier::Frontier::push` meets its contract.
use native.Mathlib.Omega.{arith}
use native.Mathlib.Numerals.{add-one}
use Rattle.frontier.proofs.FilledHoles.{counted}
use Rattle.frontier.proofs.Frontier.push.Goals as goal

pub push-requires : goal.push-requires
push-requires g c =
    let room = counted _ _ c.self.view_is in
    (omega arith, omega arith, c.self.invariant.1)

pub invariant_of-self : goal.invariant_of-self
invariant_of-self g c = (omega (arith, counted _ _ c.self.view_is), rw (add-one c.self.inside.count) c.push.ensures.heap)
