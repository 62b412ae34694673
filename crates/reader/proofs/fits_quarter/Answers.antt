-- `reader::fits_quarter` meets its contract: the bits below the level are none exactly when the code is aligned. Assumes nothing.
use native.Mathlib.Omega.{arith}
use mathlib.Core.Path.{sym, ◌∙◌}
use Rattle.reader.proofs.BlockSize.{shifted_code}
use Rattle.measures.proofs.Decides.{eqb_decides}
use Rattle.reader.proofs.fits_quarter.Goals as goal

pub returns : goal.returns
returns c =
    let p = c.args in
    let shifted = shifted_code p.level p.code (omega (arith, c.requires.1)) in
    eqb_decides _ p.code _
    (λ e. record { level_to = omega (arith, c.if-quarter-level.false); aligned = sym shifted ∙ e })
    (λ other fits. other (shifted ∙ fits.aligned))
