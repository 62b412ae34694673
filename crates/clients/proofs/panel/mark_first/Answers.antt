use Rattle.clients.proofs.Marks.{first_panel}
use Rattle.clients.proofs.panel.mark_first.Goals as goal

pub returns : goal.returns
returns c =
    first_panel c.requires c.make.ensures c.mark.ensures c.mark-2.ensures c.mark-3.ensures c.mark-4.ensures
