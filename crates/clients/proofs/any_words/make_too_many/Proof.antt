use borrow.Author.Rules.{rules}
use Rattle.clients.proofs.Ceilings.{one_too_many}
use Rattle.clients.proofs.any_words.make_too_many.Statement.{statement}
use Rattle.clients.proofs.any_words.make_too_many.Tie as tie

pub make_too_many_spec : {M : Type 1} → statement M
make_too_many_spec =
    tie.close
    (tie.spec (λ c κs. search rules) (λ c κs. search rules) (λ c. search rules) (λ c. search (rules, one_too_many)))
