-- Where two constructors clash: `cc` proves 0 ≡ 1 from the clash, and from that follows anything.
use Prim.Native.Nat.{ℕ}
use native.Mathlib.Omega.{arith}
use mathlib.Core.Path.{◌≡◌, refl}
use mathlib.Core.Bool.{Bool, true, false}

pub zero_is_not_one : {A : Type 0} → ◌≡◌ {A = ℕ} 0 1 → A
zero_is_not_one z = absurd (omega arith)

-- a test that cannot be true is false
pub false_unless : (b : Bool) → (b ≡ true → ⊥) → b ≡ false
false_unless true h = absurd (h refl)
false_unless false h = refl
