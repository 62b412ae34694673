use borrow.Author.Rules.{rules}
use Rattle.clients.proofs.Spoils.{checked_spoilt}
use Rattle.clients.proofs.spoilt.check_spoilt.Goals as goal

pub returns : goal.returns
returns c = search (rules, checked_spoilt)
