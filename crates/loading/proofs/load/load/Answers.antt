-- `loading::load::load` meets its contract: the three judgements come before `replace`, which then has the image's own set to build.
use borrow.Author.Rules.{rules}
use Rattle.loading.proofs.LoadEnds.{replace_due, set_loaded}
use Rattle.loading.proofs.load.load.Goals as goal

pub replace-requires : goal.replace-requires
replace-requires c = search (rules, replace_due)

pub returns : goal.returns
returns c = search (rules, set_loaded)
