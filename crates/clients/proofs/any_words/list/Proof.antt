use borrow.Author.Rules.{rules}
use Rattle.promises.proofs.Exactly.{list_refusals}
use Rattle.promises.proofs.AnyWords.{list_leaves}
use Rattle.clients.proofs.any_words.list.Statement.{statement}
use Rattle.clients.proofs.any_words.list.Tie as tie

pub list_spec : {M : Type 1} → statement M
list_spec =
    tie.close
    (tie.spec (λ c κs. search rules) (λ c. search rules) (λ c. search (rules, list_refusals, list_leaves)))
