-- `measures::sizes::store_end` meets its contract: the slots' words are few enough for a `usize`.
use native.Mathlib.Omega.{arith}
use mathlib.Core.Path.{refl}
use Rattle.measures.proofs.Bounds.{words_bounded}
use Rattle.measures.proofs.sizes.store_end.Statement.{statement}
use Rattle.measures.proofs.sizes.store_end.Tie as tie

mul_result : tie.Need-overflow_mul-result
mul_result c = omega (arith, words_bounded c.before.requires)

add_result : tie.Need-overflow_add-result
add_result c = omega (arith, words_bounded c.before.requires)

returns : tie.Need-returns
returns c = refl

pub store_end_spec : {M : Type 1} → statement M
store_end_spec = tie.close (tie.spec mul_result add_result returns)
