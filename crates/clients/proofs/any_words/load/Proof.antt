use borrow.Author.Rules.{rules}
use Rattle.promises.proofs.Exactly.{load_refusals}
use Rattle.promises.proofs.AnyWords.{load_leaves}
use Rattle.clients.proofs.any_words.load.Statement.{statement}
use Rattle.clients.proofs.any_words.load.Tie as tie

pub load_spec : {M : Type 1} → statement M
load_spec =
    tie.close
    (tie.spec (λ c κs. search rules) (λ c. search rules) (λ c. search (rules, load_refusals, load_leaves)))
