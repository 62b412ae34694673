-- What the masks leave of a code, and that codes are compared on one axis by what one of them leaves.
use Rattle.std.proofs.Common.{◌≡◌, ℕ, ◌+◌, ◌*◌, ◌/◌, ◌%◌, ◌^◌, ◌<◌, ◌≤◌, Bool, ◌&&◌, leb, sym, ap, ◌∙◌, ap₂, mod-lt, arith, le-leb}
use native.Mathlib.Decide.{dec_lt}
use lib.Pow.{split}
use lib.Bits.{bit_and, and_block, and_zero_r}
use borrow.Author.Tests.{lt-leb}
use Rattle.morton.specs.Coordinate.{Ascends, largest_side, Between}
use Rattle.morton.specs.Code.{spread_bits, x_of, y_of}
use Rattle.morton.proofs.Fields.{evens, laid_bits, even_bits}

-- what the masks leave of a code
pub even_mask : (c : ℕ) → bit_and c 0x5555_5555 ≡ spread_bits 16 (x_of c)
unfolding evens
even_mask c = even_bits 16 c ∙ laid_bits 16 (x_of c)

pub odd_mask : (c : ℕ) → bit_and c 0xaaaa_aaaa ≡ spread_bits 16 (y_of c) * 2
odd_mask c =
    ap (λ (n : ℕ). bit_and n 0xaaaa_aaaa) (sym (split c 1))
    ∙ and_block 1 (c / 2) 0x5555_5555 (c % 2) 0 (mod-lt c (omega arith)) (omega arith)
    ∙ ap₂ (λ (p q : ℕ). p * 2 + q) (even_mask (c / 2)) (and_zero_r (c % 2)) ∙ omega arith

-- where f ascends, its values are in the order of the numbers
ascends_le : (n : ℕ) (f : ℕ → ℕ) → Ascends n f → (a b : ℕ) → b < 2 ^ n → a ≤ b → f a ≤ f b
ascends_le n f up a b hb h = go (dec_lt a b)
  where
    go : Dec (a < b) → f a ≤ f b
    go (yes p) = omega (arith, up a b hb p)
    go (no p) = let e : a ≡ b = omega arith in omega (arith, ap f e)

pub same_order : (n : ℕ) (f : ℕ → ℕ) → Ascends n f → (a b : ℕ) → a < 2 ^ n → b < 2 ^ n → leb (f a) (f b) ≡ leb a b
same_order n f up a b ha hb = go (dec_lt b a)
  where
    go : Dec (b < a) → leb (f a) (f b) ≡ leb a b
    go (yes h) = lt-leb (f a) (f b) (up b a ha h) ∙ sym (lt-leb a b h)
    go (no h) = le-leb (f a) (f b) (ascends_le n f up a b hb (omega arith)) ∙ sym (le-leb a b (omega arith))

pub between_ascending : (f : ℕ → ℕ) → Ascends 16 f → {a b c p q s : ℕ} {r : Bool} → a < largest_side → b < largest_side → c < largest_side → p ≡ f a → q ≡ f b → s ≡ f c
    → Between p q s r → Between a b c r
between_ascending f up {a} {b} {c} ha hb hc ep eq es h =
    record {
      says = λ ordered.
          h.says (omega (arith, ascends_le 16 f up a b hb ordered))
          ∙ ap₂ ◌&&◌ (ap₂ leb ep es ∙ same_order 16 f up a c ha hc) (ap₂ leb es eq ∙ same_order 16 f up c b hc hb);
    }
