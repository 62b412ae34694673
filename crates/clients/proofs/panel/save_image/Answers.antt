use borrow.Author.Rules.{rules}
use Rattle.clients.proofs.Readings.{saved_panel}
use Rattle.clients.proofs.panel.save_image.Goals as goal

pub returns : goal.returns
returns c = search (rules, saved_panel)
