-- `rewrite::lay_beside` meets its contract: what lies before the run, the block's two words and what lies behind it are laid one after the other.
use borrow.Author.Rules.{rules}
use native.Mathlib.Omega.{arith}
use lib.ListN.{length-set}
use Rattle.rewrite.proofs.Runs.{behind_within, laid_beside}
use Rattle.rewrite.proofs.lay_beside.Goals as goal

pub copy_run-requires-2 : goal.copy_run-requires-2
copy_run-requires-2 c = (search (rules, behind_within), simp length-set (omega arith))

pub returns : goal.returns
returns c = search (rules, laid_beside)
