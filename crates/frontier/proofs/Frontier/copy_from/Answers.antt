use native.Mathlib.Omega.{arith}
use mathlib.Core.Path.{◌∙◌}
use Rattle.frontier.proofs.EntryLaws.{queued_too, heap_too}
use Rattle.frontier.proofs.Frontier.copy_from.Goals as goal

pub invariant_of-self : goal.invariant_of-self
invariant_of-self g c = (omega (arith, c.other.invariant.0), heap_too _ _ _ c.copy_front.ensures (omega (arith, c.other.invariant.0)) c.other.invariant.1)

pub returns : goal.returns
returns g c =
    queued_too _ _ _ _ _ _ c.copy_front.ensures c.copy_front-2.ensures c.other.inside.count (omega (arith, c.other.invariant.0)) (omega (arith, c.other.invariant.0))
    ∙ c.other.view_is
