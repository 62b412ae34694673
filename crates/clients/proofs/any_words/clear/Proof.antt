use borrow.Author.Rules.{rules}
use Rattle.promises.proofs.Exactly.{clear_refusals}
use Rattle.promises.proofs.AnyWords.{clear_leaves}
use Rattle.clients.proofs.any_words.clear.Statement.{statement}
use Rattle.clients.proofs.any_words.clear.Tie as tie

pub clear_spec : {M : Type 1} → statement M
clear_spec =
    tie.close
    (tie.spec (λ c κs. search rules) (λ c. search rules) (λ c. search (rules, clear_refusals, clear_leaves)))
