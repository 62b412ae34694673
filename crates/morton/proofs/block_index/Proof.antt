-- `morton::block_index` meets its contract: two bits for each level go.
use Rattle.std.proofs.Common.{rules}
use Rattle.morton.proofs.Blocks.{four_pow}
use Rattle.morton.proofs.block_index.Statement.{statement}
use Rattle.morton.proofs.block_index.Tie as tie

returns : tie.Need-returns
returns c = rw (four_pow c.args.level)

pub block_index_spec : {M : Type 1} → statement M
block_index_spec = tie.close (tie.spec (λ c. search rules) (λ c. search rules) returns)
