use Rattle.std.proofs.Common.{◌≤◌, arith}
use Rattle.std.proofs.Math.Pow.{pow_mono}
use Rattle.std.proofs.Math.Nat.{one-le-pow}
use Rattle.plain.proofs.codes.side_of.Goals as goal

pub returns : goal.returns
returns c =
    let small : c.min.result ≤ 4 = omega arith in
    omega (arith, pow_mono small, one-le-pow c.min.result 2 (omega arith))
