use borrow.Author.Rules.{rules}
use Rattle.promises.proofs.Exactly.{make_refusals}
use Rattle.promises.proofs.AnyWords.{make_leaves}
use Rattle.clients.proofs.any_words.make.Statement.{statement}
use Rattle.clients.proofs.any_words.make.Tie as tie

pub make_spec : {M : Type 1} → statement M
make_spec =
    tie.close
    (tie.spec (λ c κs. search rules) (λ c. search rules) (λ c. search (rules, make_refusals, make_leaves)))
