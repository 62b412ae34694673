-- `descent::look` meets its contract: the element before the code's place is decoded, and codes share a block just from their common level on.
use borrow.Author.Rules.{rules}
use Rattle.descent.proofs.Looking.{in_block}
use Rattle.descent.proofs.look.Goals as goal

pub returns : goal.returns
returns c = search (rules, in_block)
