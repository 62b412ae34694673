-- `morton::block_size` meets its contract: two bits for each level.
use Rattle.std.proofs.Common.{arith, rules}
use Rattle.morton.proofs.Blocks.{four_pow, size_to}
use Rattle.morton.proofs.block_size.Statement.{statement}
use Rattle.morton.proofs.block_size.Tie as tie

returns : tie.Need-returns
returns c = omega (arith, four_pow c.args.level, size_to c.args.level c.requires)

pub block_size_spec : {M : Type 1} → statement M
block_size_spec = tie.close (tie.spec (λ c. search rules) (λ c. search rules) (λ c. search rules) returns)
