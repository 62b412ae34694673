-- `morton::spread` meets its contract.
use Rattle.std.proofs.Common.{◌≡◌, ℕ, ◌+◌, ◌*◌, ◌%◌, ◌^◌, ◌<◌, ◌≤◌, sym, refl, ap, ◌∙◌, ap₂, lt_of_le_of_lt, lit<, lit≤, shl_exact}
use lib.Bits.{bit_and, bit_or, and_le_r}
use Rattle.morton.specs.Coordinate.{largest_side}
use Rattle.morton.specs.Code.{spread_bits}
use Rattle.morton.proofs.Fields.{twice, evens, laid, laid_one, laid_bits, spread_step}
use Rattle.morton.proofs.spread.Statement.{statement}
use Rattle.morton.proofs.spread.Tie as tie

-- what the program computes: nothing is shifted out of the word
abbrev step : (k mask y : ℕ) → ℕ
step k mask y = bit_and (bit_or y (y * 2 ^ k % 2 ^ 32)) mask

step_is : (j k m x : ℕ) {mask y : ℕ} → y < 2 ^ j → j + k ≤ 32 → mask ≡ evens k (twice m) → y ≡ laid (k + k) m x → step k mask y ≡ laid k (twice m) x
step_is j k m x {mask} {y} hj hk em ey =
    ap₂ (λ (p q : ℕ). bit_and (bit_or y p) q) (shl_exact j k 32 hj hk) em
    ∙ ap (λ (n : ℕ). bit_and (bit_or n (n * 2 ^ k)) (evens k (twice m))) ey ∙ spread_step k m x

-- a step's word is below what bounds its mask
step_lt : (k mask y : ℕ) {b : ℕ} → mask < b → step k mask y < b
step_lt k mask y h = lt_of_le_of_lt (and_le_r (bit_or y (y * 2 ^ k % 2 ^ 32)) mask) h

spread_law : (x : ℕ) → x < largest_side → step 1 0x5555_5555 (step 2 0x3333_3333 (step 4 0x0f0f_0f0f (step 8 0x00ff_00ff x))) ≡ spread_bits 16 x
unfolding evens twice
spread_law x h =
    let a : ℕ = step 8 0x00ff_00ff x in
    let b : ℕ = step 4 0x0f0f_0f0f a in
    let c : ℕ = step 2 0x3333_3333 b in
    let ea : a ≡ laid 8 2 x = step_is 16 8 1 x h (lit≤ tt) refl (sym (laid_one 16 x h)) in
    let eb : b ≡ laid 4 4 x = step_is 24 4 2 x (step_lt 8 0x00ff_00ff x (lit< tt)) (lit≤ tt) refl ea in
    let ec : c ≡ laid 2 8 x = step_is 28 2 4 x (step_lt 4 0x0f0f_0f0f a (lit< tt)) (lit≤ tt) refl eb in
    step_is 30 1 8 x (step_lt 2 0x3333_3333 b (lit< tt)) (lit≤ tt) refl ec ∙ laid_bits 16 x

returns : tie.Need-returns
returns c = spread_law c.args.x c.requires

pub spread_spec : {M : Type 1} → statement M
spread_spec = tie.close (tie.spec returns)
