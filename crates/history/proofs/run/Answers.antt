-- `history::run` meets its contract: an accepted make, and then the script.
use Rattle.history.proofs.Whole.{ran}
use Rattle.history.proofs.run.Goals as goal

pub returns-then-number-eq0 : goal.returns-then-number-eq0
returns-then-number-eq0 c =
    let a = c.args in
    ran a.store.now c.make.new.store a.m a.k a.most c.make.result c.make.ensures a.script.now a.images.now a.codes.now c.refusal_of-number.result
    c.refusal_of-number.ensures c.replay.new.store c.if-number-eq0.true c.replay.ensures
