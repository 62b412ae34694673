use borrow.Author.Rules.{rules}
use Rattle.clients.proofs.NearestOfAll.{all_searched}
use Rattle.clients.proofs.any_words.nearest_of_all.Statement.{statement}
use Rattle.clients.proofs.any_words.nearest_of_all.Tie as tie

pub nearest_of_all_spec : {M : Type 1} → statement M
nearest_of_all_spec =
    tie.close
    (tie.spec (λ c κs. search rules) (λ c. search (rules, all_searched)))
