use borrow.Author.Rules.{rules}
use Rattle.clients.proofs.Ceilings.{older_left}
use Rattle.clients.proofs.any_words.mark_older.Statement.{statement}
use Rattle.clients.proofs.any_words.mark_older.Tie as tie

pub mark_older_spec : {M : Type 1} → statement M
mark_older_spec =
    tie.close
    (tie.spec (λ c κs. search rules) (λ c κs. search rules) (λ c. search rules) (λ c. search (rules, older_left)))
