use borrow.Author.Rules.{rules}
use Rattle.promises.proofs.Exactly.{count_refusals}
use Rattle.promises.proofs.AnyWords.{count_bounded}
use Rattle.clients.proofs.any_words.count.Statement.{statement}
use Rattle.clients.proofs.any_words.count.Tie as tie

pub count_spec : {M : Type 1} → statement M
count_spec =
    tie.close
    (tie.spec (λ c κs. search rules) (λ c. search (rules, count_refusals, count_bounded)))
