-- `morton::block_around` meets its contract: nothing is shifted out of the word.
use Rattle.std.proofs.Common.{◌^◌, mod-eq_of_lt, div-mul-le_self, arith, rules}
use Rattle.morton.proofs.Blocks.{four_pow}
use Rattle.morton.proofs.block_around.Statement.{statement}
use Rattle.morton.proofs.block_around.Tie as tie

returns : tie.Need-returns
returns c =
    let s = c.before in
    rw (c.block_index.ensures, four_pow s.args.level) (mod-eq_of_lt (omega (arith, div-mul-le_self s.args.code (4 ^ s.args.level), s.ranges.code.fits)))

pub block_around_spec : {M : Type 1} → statement M
block_around_spec = tie.close (tie.spec (λ c κs. search rules) (λ c. search rules) (λ c. search rules) returns)
