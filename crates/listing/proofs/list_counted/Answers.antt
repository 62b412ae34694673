-- `listing::list_counted` meets its contract: the output is long enough, and the walk from the root writes all that 01 lists of the part.
use Rattle.std.proofs.Common.{ap}
use Rattle.std.proofs.lemmas.Result.{err_from_is_err_and}
use Rattle.listing.proofs.ListEnds.{not_walked, not_agreed, not_listed, listed}
use Rattle.listing.proofs.list_counted.Goals as goal

pub returns-in_err-sum : goal.returns-in_err-sum
returns-in_err-sum c =
    let register = c.args.register.now in
    let p = err_from_is_err_and c.from_residual.result c.from_residual.ensures.1 in
    rw (p.1, p.2)
    (not_walked register.words.now c.args.corners register.usable register.said c.requires.0 c.requires.1 c.wide-n.ensures c.if-output-n.false c.slots.ensures.laid
    (ap (λ r. r.now) c.slots.ensures.same) c.list_root.ensures c.in_err-sum.was)

pub returns-then-sum-found : goal.returns-then-sum-found
returns-then-sum-found c =
    let register = c.args.register.now in
    not_agreed register.words.now c.args.corners register.usable register.said c.requires.0 c.requires.1 c.wide-n.ensures c.if-output-n.false c.slots.ensures.laid
    (ap (λ r. r.now) c.slots.ensures.same) c.list_root.ensures c.in_ok-sum.was c.if-sum-found.true

pub returns-in_err-opened : goal.returns-in_err-opened
returns-in_err-opened c =
    let register = c.args.register.now in
    let p = err_from_is_err_and c.from_residual-in_err-opened.result c.from_residual-in_err-opened.ensures.1 in
    rw (p.1, p.2)
    (not_listed register.words.now c.args.corners register.usable register.said c.requires.0 c.requires.1 c.wide-n.ensures c.if-output-n.false c.slots.ensures.laid
    (ap (λ r. r.now) c.slots.ensures.same) c.list_root.ensures c.in_ok-sum.was (c.within.ensures c.args.corners) c.in_err-opened.was)

pub returns : goal.returns
returns c =
    let register = c.args.register.now in
    listed register.words.now c.args.corners register.usable register.said c.requires.0 c.requires.1 c.wide-n.ensures c.if-output-n.false c.slots.ensures.laid
    (ap (λ r. r.now) c.slots.ensures.same) c.list_root.ensures c.in_ok-sum.was (c.within.ensures c.args.corners) c.in_ok-opened.was
