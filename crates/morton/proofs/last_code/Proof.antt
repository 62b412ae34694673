-- `morton::last_code` meets its contract: the sum does not wrap, since a block ends with the largest code or before.
use Rattle.std.proofs.Common.{arith, rules}
use Rattle.morton.proofs.Blocks.{low_bits}
use Rattle.morton.proofs.last_code.Statement.{statement}
use Rattle.morton.proofs.last_code.Tie as tie

returns : tie.Need-returns
returns c = let a = c.before.args in record { is = λ from to ends. omega (arith, c.wrapping_add_u32.ensures, low_bits a.level from to) }

pub last_code_spec : {M : Type 1} → statement M
last_code_spec = tie.close (tie.spec (λ c. search rules) (λ c. search rules) (λ c. search rules) (λ c κs. search rules) returns)
