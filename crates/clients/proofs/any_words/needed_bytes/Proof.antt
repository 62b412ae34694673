use borrow.Author.Rules.{rules}
use Rattle.clients.proofs.WholeImage.{bytes_needed}
use Rattle.clients.proofs.any_words.needed_bytes.Statement.{statement}
use Rattle.clients.proofs.any_words.needed_bytes.Tie as tie

pub needed_bytes_spec : {M : Type 1} → statement M
needed_bytes_spec =
    tie.close
    (tie.spec (λ c. search rules) (λ c κs. search rules) (λ c κs. search rules) (λ c. search (rules, bytes_needed)))
