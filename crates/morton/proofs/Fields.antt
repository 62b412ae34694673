-- Fields of k bits, each laid in a place of k + k: `spread` halves the fields and `gather` joins them, one law each, for any width.
use Rattle.std.proofs.Common.{◌≡◌, ℕ, zero, suc, ◌+◌, ◌-◌, ◌*◌, ◌/◌, ◌%◌, ◌^◌, ◌<◌, ◌≤◌, sym, refl, ap, ◌∙◌, ap₂, lt_of_lt_of_le, le-add_right, add_assoc, mod-lt, mod-eq_of_lt, mul_assoc, add-mul, add_comm, mul_right_comm, arith, pow_pos, pow_mono, pow-add, shl_lt, shr-shr}
use native.Mathlib.Nat.{mul-mod_left}
use lib.Arith.{digits_div, digits_mod}
use lib.Pow.{split, shl-shr, mod-pow-add, mod-mod-pow, ones_lt}
use lib.Bits.{bit_and, bit_or, and_block, and_mask, and_zero_r, or_zero_r, or_shr, or_mod, or_shifted_r}
use Rattle.morton.specs.Code.{spread_bits, gather_bits}

unfoldable pub twice : ℕ → ℕ
twice zero = zero
twice (suc m) = suc (suc (twice m))

-- the mask of n fields: the k low bits of each place
unfoldable pub evens : ℕ → ℕ → ℕ
evens k zero = zero
evens k (suc n) = evens k n * 2 ^ (k + k) + (2 ^ k - 1)

-- the n low fields of k bits of x, each in a place of k + k
unfoldable pub laid : ℕ → ℕ → ℕ → ℕ
laid k zero x = zero
laid k (suc n) x = laid k n (x / 2 ^ k) * 2 ^ (k + k) + x % 2 ^ k

-- the mask's lowest field keeps the k low bits of y, and the rest of the mask meets the rest of y
low_field : (k y e : ℕ) → bit_and y (e * 2 ^ (k + k) + (2 ^ k - 1)) ≡ bit_and (y / 2 ^ (k + k)) e * 2 ^ (k + k) + y % 2 ^ k
low_field k y e =
    ap (λ (n : ℕ). bit_and n (e * 2 ^ (k + k) + (2 ^ k - 1))) (sym (split y (k + k)))
    ∙ and_block (k + k) (y / 2 ^ (k + k)) e (y % 2 ^ (k + k)) (2 ^ k - 1) (mod-lt y (pow_pos (k + k))) (lt_of_lt_of_le (ones_lt k) (pow_mono (le-add_right k k)))
    ∙ ap (λ (n : ℕ). bit_and (y / 2 ^ (k + k)) e * 2 ^ (k + k) + n) (and_mask (y % 2 ^ (k + k)) k ∙ mod-mod-pow y k k)

-- two shifts, in either order
shr_swap : (y i j : ℕ) → y / 2 ^ i / 2 ^ j ≡ y / 2 ^ j / 2 ^ i
shr_swap y i j = shr-shr y i j ∙ ap (λ (e : ℕ). y / 2 ^ e) (add_comm i j) ∙ sym (shr-shr y j i)

-- a * 2 ^ (k + k), a shift at a time
shl_twice : (k a : ℕ) → a * 2 ^ (k + k) ≡ a * 2 ^ k * 2 ^ k
shl_twice k a = ap (λ (n : ℕ). a * n) (pow-add 2 k k) ∙ sym (mul_assoc a (2 ^ k) (2 ^ k))

-- one step of `spread`: fields of k + k bits to fields of k
pub spread_step : (k m x : ℕ) → bit_and (bit_or (laid (k + k) m x) (laid (k + k) m x * 2 ^ k)) (evens k (twice m)) ≡ laid k (twice m) x
unfolding twice evens laid
spread_step k zero x = and_zero_r (bit_or zero (zero * 2 ^ k))
spread_step k (suc m) x =
    let a : ℕ = laid (k + k) m (x / 2 ^ (k + k)) in
    let h : ℕ = x / 2 ^ k % 2 ^ k in
    let l : ℕ = x % 2 ^ k in
    let h< : h < 2 ^ k = mod-lt (x / 2 ^ k) (pow_pos k) in
    let l< : l < 2 ^ k = mod-lt x (pow_pos k) in
    let y : ℕ = a * 2 ^ (k + k + (k + k)) + x % 2 ^ (k + k) in
    let b : ℕ = a * 2 ^ (k + k) in
    let ey : y ≡ (b * 2 ^ k + h) * 2 ^ k + l = rw (shl_twice (k + k) a, shl_twice k b, mod-pow-add x k k, add-mul (b * 2 ^ k), add_assoc) in
    let y1 : y / 2 ^ k ≡ b * 2 ^ k + h = rw (ey, digits_div (b * 2 ^ k + h) l<) in
    let y2 : y / 2 ^ (k + k) ≡ b = rw (← shr-shr y k, y1, digits_div b h<) in
    let w : ℕ = y * 2 ^ k in
    let w2 : w / 2 ^ (k + k) ≡ b * 2 ^ k + h = rw (← shr-shr w k, shl-shr y, y1) in
    let z0 : bit_or y w % 2 ^ k ≡ l = rw (or_mod y w, mul-mod_left y, or_zero_r, ey, digits_mod (b * 2 ^ k + h) l<) in
    let z2 : bit_or y w / 2 ^ (k + k) ≡ bit_or b (b * 2 ^ k + h) = rw (or_shr y w, y2, w2) in
    let z20 : bit_or b (b * 2 ^ k + h) % 2 ^ k ≡ h = rw (or_mod b, digits_mod b h<, shl_twice k a, mul-mod_left) in
    let z4 : bit_or b (b * 2 ^ k + h) / 2 ^ (k + k) ≡ bit_or a (a * 2 ^ k) =
    rw (or_shr b, shl-shr a, ← shr-shr (b * 2 ^ k + h), digits_div b h<, shl_twice k a, shl-shr (a * 2 ^ k)) in
    rw (low_field k (bit_or y w), z0, z2, low_field k (bit_or b (b * 2 ^ k + h)), z20, z4, spread_step k m (x / 2 ^ (k + k)), shr-shr x k k)

-- one step of `gather`: fields of k bits to fields of k + k
pub gather_step : (k m x : ℕ) → bit_and (bit_or (laid k (twice m) x) (laid k (twice m) x / 2 ^ k)) (evens (k + k) m) ≡ laid (k + k) m x
unfolding twice evens laid
gather_step k zero x = and_zero_r (bit_or zero (zero / 2 ^ k))
gather_step k (suc m) x =
    let a : ℕ = laid k (twice m) (x / 2 ^ k / 2 ^ k) in
    let h : ℕ = x / 2 ^ k % 2 ^ k in
    let l : ℕ = x % 2 ^ k in
    let h< : h < 2 ^ k = mod-lt (x / 2 ^ k) (pow_pos k) in
    let l< : l < 2 ^ k = mod-lt x (pow_pos k) in
    let kq : 2 ^ k ≤ 2 ^ (k + k) = pow_mono (le-add_right k k) in
    let d : ℕ = a * 2 ^ (k + k) + h in
    let y : ℕ = d * 2 ^ (k + k) + l in
    let y4 : y / 2 ^ (k + k + (k + k)) ≡ a = rw (← shr-shr y (k + k), digits_div d (lt_of_lt_of_le l< kq), digits_div a (lt_of_lt_of_le h< kq)) in
    let w : ℕ = y / 2 ^ k in
    let ew : w ≡ a * 2 ^ k * 2 ^ (k + k) + h * 2 ^ k = rw (shl_twice k d, digits_div (d * 2 ^ k) l<, add-mul (a * 2 ^ (k + k)), mul_right_comm a (2 ^ (k + k))) in
    let w4 : w / 2 ^ (k + k + (k + k)) ≡ a / 2 ^ k = rw (shr_swap y k, y4) in
    let z0 : bit_or y w % 2 ^ (k + k) ≡ x % 2 ^ (k + k) = rw (or_mod y w, ew, digits_mod d (lt_of_lt_of_le l< kq), digits_mod (a * 2 ^ k) (shl_lt k k h<), or_shifted_r h k l, mod-pow-add x k k) in
    let z4 : bit_or y w / 2 ^ (k + k + (k + k)) ≡ bit_or a (a / 2 ^ k) = rw (or_shr y w, y4, w4) in
    rw (low_field (k + k) (bit_or y w), z0, z4, gather_step k m (x / 2 ^ k / 2 ^ k), shr-shr x k k)

-- fields of one bit are what the specification says
pub laid_bits : (n x : ℕ) → laid 1 n x ≡ spread_bits n x
unfolding laid spread_bits
laid_bits zero x = refl
laid_bits (suc n) x = omega (arith, laid_bits n (x / 2))

pub even_bits : (n c : ℕ) → bit_and c (evens 1 n) ≡ laid 1 n (gather_bits n c)
unfolding evens laid gather_bits
even_bits zero c = and_zero_r c
even_bits (suc n) c =
    let g : ℕ = gather_bits n (c / 4) in
    low_field 1 c (evens 1 n) ∙ ap (λ (n : ℕ). n * 4 + c % 2) (even_bits n (c / 4))
    ∙ ap₂ (λ (p q : ℕ). laid 1 n p * 4 + q) (omega arith) (omega arith)

-- one field is the number itself
pub laid_one : (k x : ℕ) → x < 2 ^ k → laid k 1 x ≡ x
unfolding laid
laid_one k x h = omega (arith, mod-eq_of_lt h)
