-- `morton::gather` meets its contract.
use Rattle.std.proofs.Common.{◌≡◌, ℕ, ◌+◌, ◌/◌, ◌^◌, refl, ◌∙◌, ap₂}
use lib.Bits.{bit_and, bit_or}
use Rattle.morton.specs.Code.{gather_bits}
use Rattle.morton.proofs.Codes.{gather_below}
use Rattle.morton.proofs.Fields.{twice, evens, laid, laid_one, even_bits, gather_step}
use Rattle.morton.proofs.gather.Statement.{statement}
use Rattle.morton.proofs.gather.Tie as tie

abbrev step : (k mask y : ℕ) → ℕ
step k mask y = bit_and (bit_or y (y / 2 ^ k)) mask

step_is : (k m x : ℕ) {mask y : ℕ} → mask ≡ evens (k + k) m → y ≡ laid k (twice m) x → step k mask y ≡ laid (k + k) m x
step_is k m x em ey = ap₂ (λ (p q : ℕ). bit_and (bit_or p (p / 2 ^ k)) q) ey em ∙ gather_step k m x

gather_law : (c : ℕ) → step 8 0x0000_ffff (step 4 0x00ff_00ff (step 2 0x0f0f_0f0f (step 1 0x3333_3333 (bit_and c 0x5555_5555)))) ≡ gather_bits 16 c
unfolding evens twice
gather_law c =
    let x : ℕ = gather_bits 16 c in
    let e₁ = step_is 1 8 x {mask = 0x3333_3333} refl (even_bits 16 c) in
    let e₂ = step_is 2 4 x {mask = 0x0f0f_0f0f} refl e₁ in
    let e₄ = step_is 4 2 x {mask = 0x00ff_00ff} refl e₂ in
    step_is 8 1 x {mask = 0x0000_ffff} refl e₄ ∙ laid_one 16 x (gather_below 16 c)

returns : tie.Need-returns
returns c = let e = gather_law c.args.code in record { is = e; below = rw e (gather_below 16 c.args.code) }

pub gather_spec : {M : Type 1} → statement M
gather_spec = tie.close (tie.spec returns)
