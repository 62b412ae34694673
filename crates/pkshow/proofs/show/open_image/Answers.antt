-- `pkshow::show::open_image` meets its contract: the image is loaded into the register that was made for it, or what make refuses is refused.
use Rattle.std.proofs.Common.{◌≤◌, length, arith, rules}
use Rattle.std.proofs.lemmas.Result.{err_from_is_err_and}
use Rattle.answers.proofs.Numbers.{is_refused}
use Rattle.pkshow.proofs.Opens.{made_loaded, not_made}
use Rattle.pkshow.proofs.show.open_image.Goals as goal

pub returns : goal.returns
returns c =
    let made = c.in_ok-make.ensures in
    let high : length c.args.image.now ≤ 4010 = omega arith in
    search (rules, made_loaded, made)

pub returns-in_err-make : goal.returns-in_err-make
returns-in_err-make c =
    let p = err_from_is_err_and c.from_residual.result c.from_residual.ensures.1 in
    rw (p.1, p.2)
    (not_made c.args.image.now c.in_err-make.ensures (search rules) (search rules) c.requires (omega arith) (omega arith) (is_refused c.in_err-make.field-0.0))
