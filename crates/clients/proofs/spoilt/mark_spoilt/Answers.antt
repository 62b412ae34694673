use borrow.Author.Rules.{rules}
use Rattle.clients.proofs.Spoils.{marks_twice}
use Rattle.clients.proofs.spoilt.mark_spoilt.Goals as goal

pub returns : goal.returns
returns c = search (rules, marks_twice)
