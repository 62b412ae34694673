use borrow.Author.Rules.{rules}
use lib.Seq.{length-take-le}
use Rattle.clients.proofs.WholeImage.{front_saved}
use Rattle.clients.proofs.any_words.save_front.Statement.{statement}
use Rattle.clients.proofs.any_words.save_front.Tie as tie

pub save_front_spec : {M : Type 1} → statement M
save_front_spec =
    tie.close
    (tie.spec (λ c. search rules) (λ c. search (rules, length-take-le)) (λ c κs. search rules) (λ c κs. search rules) (λ c. search rules) (λ c. search (rules, front_saved)))
