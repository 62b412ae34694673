-- `soundness::is_sound` meets its contract: the walk finds the root that a sound store has, the chain its free slots, and the numbers decide.
use mathlib.Core.Path.{ap}
use Rattle.soundness.proofs.CheckSteps.{root_unsound, chain_broken, slots_lost, blocks_decide}
use Rattle.soundness.proofs.is_sound.Goals as goal

pub returns-in_default : goal.returns-in_default
returns-in_default c =
    let register = c.args.register.now in
    root_unsound register.usable register.said c.slots-slots.ensures.laid (ap (λ lent. lent.now) c.slots-slots.ensures.same) c.default.ensures c.in_default.is
    c.walk_block.ensures

pub returns-in_default-count_free : goal.returns-in_default-count_free
returns-in_default-count_free c =
    let register = c.args.register.now in
    chain_broken register.usable register.said c.slots-slots.ensures.laid (ap (λ lent. lent.now) c.slots-slots.ensures.same) c.default.ensures c.in_default-count_free.is
    c.count_free.ensures

pub returns-then-wide-free : goal.returns-then-wide-free
returns-then-wide-free c =
    let register = c.args.register.now in
    slots_lost register.usable register.said c.slots-slots.ensures.laid (ap (λ lent. lent.now) c.slots-slots.ensures.same) c.default.ensures c.in-Ok.is
    c.walk_block.ensures c.in-Ok-count_free.is c.count_free.ensures c.wide.ensures c.if-wide-free.true

pub returns : goal.returns
returns c =
    let register = c.args.register.now in
    blocks_decide register.usable register.said c.slots-slots.ensures.laid (ap (λ lent. lent.now) c.slots-slots.ensures.same) c.default.ensures c.in-Ok.is
    c.walk_block.ensures c.in-Ok-count_free.is c.count_free.ensures c.wide.ensures c.if-wide-free.false
