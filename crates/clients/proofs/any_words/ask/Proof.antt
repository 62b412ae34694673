use borrow.Author.Rules.{rules}
use Rattle.promises.proofs.Exactly.{ask_refusals}
use Rattle.promises.proofs.AnyWords.{ask_bounded}
use Rattle.clients.proofs.any_words.ask.Statement.{statement}
use Rattle.clients.proofs.any_words.ask.Tie as tie

pub ask_spec : {M : Type 1} → statement M
ask_spec =
    tie.close
    (tie.spec (λ c κs. search rules) (λ c. search (rules, ask_refusals, ask_bounded)))
