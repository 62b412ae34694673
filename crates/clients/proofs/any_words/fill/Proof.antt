use borrow.Author.Rules.{rules}
use Rattle.promises.proofs.Exactly.{fill_refusals}
use Rattle.promises.proofs.AnyWords.{fill_leaves}
use Rattle.clients.proofs.any_words.fill.Statement.{statement}
use Rattle.clients.proofs.any_words.fill.Tie as tie

pub fill_spec : {M : Type 1} → statement M
fill_spec =
    tie.close
    (tie.spec (λ c κs. search rules) (λ c. search rules) (λ c. search (rules, fill_refusals, fill_leaves)))
