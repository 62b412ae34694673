use borrow.Author.Rules.{rules}
use Rattle.clients.proofs.WholeImage.{whole_saved, too_long}
use Rattle.clients.proofs.any_words.save_whole.Statement.{statement}
use Rattle.clients.proofs.any_words.save_whole.Tie as tie

pub save_whole_spec : {M : Type 1} → statement M
save_whole_spec =
    tie.close
    (tie.spec (λ c κs. search rules) (λ c. search (rules, too_long)) (λ c κs. search rules) (λ c. search rules) (λ c. search (rules, whole_saved)))
