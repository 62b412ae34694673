use borrow.Author.Rules.{rules}
use Rattle.clients.proofs.Spoils.{off_every_panel}
use Rattle.clients.proofs.any_words.mark_off_panel.Statement.{statement}
use Rattle.clients.proofs.any_words.mark_off_panel.Tie as tie

pub mark_off_panel_spec : {M : Type 1} → statement M
mark_off_panel_spec =
    tie.close
    (tie.spec (λ c κs. search rules) (λ c κs. search rules) (λ c. search rules) (λ c. search (rules, off_every_panel)))
