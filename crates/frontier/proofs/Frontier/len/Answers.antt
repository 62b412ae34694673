use native.Mathlib.Omega.{arith}
use mathlib.Core.Path.{sym}
use Rattle.frontier.proofs.FilledHoles.{counted}
use Rattle.frontier.proofs.Frontier.len.Goals as goal

pub returns-clause-same : goal.returns-clause-same
returns-clause-same g c = sym (counted _ _ c.self.view_is)

pub returns-clause-within : goal.returns-clause-within
returns-clause-within g c = omega (arith, counted _ _ c.self.view_is, c.self.invariant.0)
