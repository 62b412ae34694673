-- `windows::lies` meets its contract.
use Rattle.windows.proofs.LyingTests.{lies_apart, lies_within, lies_over}
use Rattle.windows.proofs.lies.Goals as goal

pub returns-then-not-meets : goal.returns-then-not-meets
returns-then-not-meets c = lies_apart c.meets.ensures (c.if-not-meets.true)

pub returns-then-lies_inside : goal.returns-then-lies_inside
returns-then-lies_inside c = lies_within c.meets.ensures (c.if-not-meets.false) c.lies_inside.ensures c.if-lies_inside.true

pub returns : goal.returns
returns c = lies_over c.meets.ensures (c.if-not-meets.false) c.lies_inside.ensures c.if-lies_inside.false
