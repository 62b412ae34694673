-- `morton::code_of` meets its contract.
use Rattle.std.proofs.Common.{◌≡◌, ℕ, ◌*◌, ◌%◌, ◌^◌, ap, ◌∙◌, ap₂, mod-eq_of_lt, arith, rules}
use lib.Bits.{bit_or}
use Rattle.morton.specs.Code.{spread_bits, code_of}
use Rattle.morton.proofs.Codes.{code_of_spread, spread_below}
use Rattle.morton.proofs.code_of.Statement.{statement}
use Rattle.morton.proofs.code_of.Tie as tie

spread-requires : tie.Need-spread-requires
spread-requires c κs = search rules

spread-requires-2 : tie.Need-spread-requires-2
spread-requires-2 c κs = search rules

code_law : (x y p q : ℕ) → p ≡ spread_bits 16 x → q ≡ spread_bits 16 y → bit_or p (q * 2 % 2 ^ 32) ≡ code_of x y
code_law x y p q ep eq =
    ap₂ (λ (s t : ℕ). bit_or s (t * 2 % 2 ^ 32)) ep eq
    ∙ ap (bit_or (spread_bits 16 x)) (mod-eq_of_lt (omega (arith, spread_below 16 y))) ∙ code_of_spread 16 x y

returns : tie.Need-returns
returns c =
    let x : ℕ = c.before.before.args.x in
    let y : ℕ = c.before.before.args.y in
    code_law x y c.before.spread.result c.spread-2.result c.before.spread.ensures c.spread-2.ensures

pub code_of_spec : {M : Type 1} → statement M
code_of_spec = tie.close (tie.spec spread-requires spread-requires-2 returns)
