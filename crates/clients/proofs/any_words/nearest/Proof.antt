use borrow.Author.Rules.{rules}
use Rattle.promises.proofs.Exactly.{nearest_refusals}
use Rattle.promises.proofs.AnyWords.{nearest_bounded}
use Rattle.clients.proofs.any_words.nearest.Statement.{statement}
use Rattle.clients.proofs.any_words.nearest.Tie as tie

pub nearest_spec : {M : Type 1} → statement M
nearest_spec =
    tie.close
    (tie.spec (λ c κs. search rules) (λ c. search (rules, nearest_refusals, nearest_bounded)))
