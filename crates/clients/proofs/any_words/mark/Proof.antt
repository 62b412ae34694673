use borrow.Author.Rules.{rules}
use Rattle.promises.proofs.Exactly.{mark_refusals}
use Rattle.promises.proofs.AnyWords.{mark_leaves}
use Rattle.clients.proofs.any_words.mark.Statement.{statement}
use Rattle.clients.proofs.any_words.mark.Tie as tie

pub mark_spec : {M : Type 1} → statement M
mark_spec =
    tie.close
    (tie.spec (λ c κs. search rules) (λ c. search rules) (λ c. search (rules, mark_refusals, mark_leaves)))
