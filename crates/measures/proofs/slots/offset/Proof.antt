-- `measures::slots::offset` meets its contract: a slot ends before the slots do, whose words are few enough for a `usize`.
use native.Mathlib.Omega.{arith}
use mathlib.Core.Path.{refl}
use Prim.Native.Nat.{◌+◌, ◌*◌, ◌≤◌}
use Rattle.measures.proofs.Bounds.{slot_ends, words_bounded}
use Rattle.measures.proofs.slots.offset.Statement.{statement}
use Rattle.measures.proofs.slots.offset.Tie as tie

-- the slot ends before the slots do
ends : (c : tie.Start) → c.args.slot * c.args.layout.width + c.args.layout.width ≤ c.args.layout.slots * c.args.layout.width
ends c = slot_ends c.args.slot c.args.layout.slots c.args.layout.width c.requires.1

mul_result : tie.Need-overflow_mul-result
mul_result c = omega (arith, ends c.before, words_bounded c.before.requires.0)

add_result : tie.Need-overflow_add-result
add_result c = omega (arith, ends c.before, words_bounded c.before.requires.0)

returns : tie.Need-returns
returns c = record { is = refl; ends = omega (arith, ends c.before) }

pub offset_spec : {M : Type 1} → statement M
offset_spec = tie.close (tie.spec mul_result add_result returns)
