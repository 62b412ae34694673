use borrow.Author.Rules.{rules}
use Rattle.clients.proofs.Readings.{element_asked}
use Rattle.clients.proofs.any_words.ask_element.Statement.{statement}
use Rattle.clients.proofs.any_words.ask_element.Tie as tie

pub ask_element_spec : {M : Type 1} → statement M
ask_element_spec =
    tie.close
    (tie.spec (λ c κs. search rules) (λ c. search (rules, element_asked)))
