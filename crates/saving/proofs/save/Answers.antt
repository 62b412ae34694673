-- `saving::save` meets its contract: the numbers of pixels and blocks give that of the entries, and the walk from the root writes them all.
use Rattle.std.proofs.lemmas.Result.{err_from_is_err_and}
use Rattle.saving.proofs.SaveAnswers.{no_numbers, too_short, broke_off, not_all, all_written}
use Rattle.saving.proofs.save.Goals as goal

pub returns-in_err-numbers : goal.returns-in_err-numbers
returns-in_err-numbers c =
    let p = err_from_is_err_and c.from_residual.result c.from_residual.ensures.1 in rw (p.1, p.2) (no_numbers c.read_numbers.ensures c.in_err-numbers.was)

pub returns-then-output-needed : goal.returns-then-output-needed
returns-then-output-needed c = too_short c.read_numbers.ensures c.in_ok-numbers.was c.wide.ensures c.wide-2.ensures c.args.register.now.usable c.if-output-needed.true

pub returns-in_err-last : goal.returns-in_err-last
returns-in_err-last c =
    let p = err_from_is_err_and c.from_residual-in_err-last.result c.from_residual-in_err-last.ensures.1 in
    rw (p.1, p.2)
    (broke_off c.read_numbers.ensures c.in_ok-numbers.was c.wide.ensures c.wide-2.ensures c.args.register.now.said c.if-output-needed.false c.write_front.ensures c.in_err-last.was)

pub returns-then-last-entries : goal.returns-then-last-entries
returns-then-last-entries c =
    not_all c.read_numbers.ensures c.in_ok-numbers.was c.wide.ensures c.wide-2.ensures c.args.register.now.said c.if-output-needed.false c.write_front.ensures c.in_ok-last.was c.if-last-entries.true

pub returns : goal.returns
returns c =
    all_written c.read_numbers.ensures c.in_ok-numbers.was c.wide.ensures c.wide-2.ensures c.args.register.now.said c.if-output-needed.false c.write_front.ensures c.args.register.now.usable
