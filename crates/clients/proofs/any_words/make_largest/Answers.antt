-- `clients::any_words::make_largest` meets its contract.
use Rattle.clients.proofs.Ceilings.{made_largest}
use Rattle.clients.proofs.any_words.make_largest.Goals as goal

pub returns : goal.returns
returns c = made_largest c.make.ensures c.refusal_of.ensures
