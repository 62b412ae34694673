use borrow.Author.Rules.{rules}
use Rattle.promises.proofs.Exactly.{save_unusable}
use Rattle.promises.proofs.AnyWords.{save_leaves}
use Rattle.clients.proofs.any_words.save.Statement.{statement}
use Rattle.clients.proofs.any_words.save.Tie as tie

pub save_spec : {M : Type 1} → statement M
save_spec =
    tie.close
    (tie.spec (λ c κs. search rules) (λ c. search rules) (λ c. search (rules, save_unusable, save_leaves)))
