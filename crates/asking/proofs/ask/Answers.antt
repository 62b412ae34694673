-- `asking::ask` meets its contract: what `locate` ensures is the answer.
use native.Mathlib.Omega.{arith}
use mathlib.Core.Path.{◌≡◌, refl, ap}
use Rattle.std.proofs.Common.{Result, Ok, Err}
use Rattle.std.proofs.lemmas.Result.{err_from_is_err_and}
use Rattle.descent.specs.declared.Located.{Located}
use Rattle.answers.specs.declared.Refusal.{Refusal}
use Rattle.answers.specs.declared.Refusal.TheVariants.{StoreDamaged}
use Rattle.asking.proofs.Asks.{asked_known, asked_damaged}
use Rattle.asking.proofs.ask.Goals as goal

pub returns-in_err-located : goal.returns-in_err-located
returns-in_err-located c =
    let register = c.args.register.now in
    let p = err_from_is_err_and c.from_residual.result c.from_residual.ensures.1 in
    let damaged : c.locate.result ≡ Err (record {}) = grind arith in
    -- The error is the damage, and `p.2` gives the refusal; or it is a refusal that replaces the damage, and what the call ensures gives it.
    let told : Path (Result Located Refusal) (Err p.0) (Err StoreDamaged) = simp (p.2, c.in_err-located.ensures {u = tt}, damaged) refl in
    let is : p.0 ≡ StoreDamaged = grind (arith, told) in
    rw (p.1, is) (asked_damaged register.words.now c.args.code register.sizes c.slots.result.layout c.locate.new.path register.usable register.said c.slots.ensures.laid c.requires (rw (ap (λ r. r.now) c.slots.ensures.same, damaged) at c.locate.ensures))

pub returns : goal.returns
returns c =
    let register = c.args.register.now in
    let known : c.locate.result ≡ Ok c.in_ok-located.located = grind arith in
    asked_known register.words.now c.args.code register.sizes c.slots.result.layout c.locate.new.path register.usable register.said c.slots.ensures.laid c.requires (rw (ap (λ r. r.now) c.slots.ensures.same, known) at c.locate.ensures)
