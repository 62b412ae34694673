use borrow.Author.Rules.{rules}
use Rattle.promises.proofs.Exactly.{check_answers}
use Rattle.clients.proofs.any_words.check.Statement.{statement}
use Rattle.clients.proofs.any_words.check.Tie as tie

pub check_spec : {M : Type 1} → statement M
check_spec =
    tie.close
    (tie.spec (λ c κs. search rules) (λ c. search (rules, check_answers)))
