-- `morton::common_level` meets its contract.
use Rattle.std.proofs.Common.{rules}
use lib.Bits.{bit_xor}
use lib.Count.{leading_le}
use Rattle.morton.proofs.CommonLevels.{common_level_law}
use Rattle.morton.proofs.common_level.Statement.{statement}
use Rattle.morton.proofs.common_level.Tie as tie

sub_result : tie.Need-overflow_sub-result
sub_result c = leading_le 32 (bit_xor c.args.a c.args.b)

add_result : tie.Need-overflow_add-result
add_result c = search rules

returns : tie.Need-returns
returns c = common_level_law c.args.a c.args.b c.ranges.a.fits c.ranges.b.fits

pub common_level_spec : {M : Type 1} → statement M
common_level_spec = tie.close (tie.spec sub_result add_result returns)
