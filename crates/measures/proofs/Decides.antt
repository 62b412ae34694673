-- How a comparison comes to decide a statement, and what a decision says once the test is known.
use Prim.Native.Nat.{ℕ, ◌≤◌, ◌<◌}
use mathlib.Core.Path.{◌≡◌, refl, subst}
use mathlib.Core.Bool.{Bool, true, false}
use lib.Dec.{leb, eqb}
use borrow.Author.Tests.{leb-true, leb-false, eqb-true, eqb-false}
use Rattle.measures.specs.Decides.{Decides}

-- a comparison decides what holds on its one side and fails on its other
pub leb_decides : (a b : ℕ) (P : Type 0) → (a ≤ b → P) → (b < a → P → ⊥) → Decides (leb a b) P
leb_decides a b P below above = go (leb a b) refl
  where
    go : (t : Bool) → leb a b ≡ t → Decides t P
    go true e = below (leb-true a b e)
    go false e = above (leb-false a b e)

-- so does a test of equality
pub eqb_decides : (a b : ℕ) (P : Type 0) → (a ≡ b → P) → ((a ≡ b → ⊥) → P → ⊥) → Decides (eqb a b) P
eqb_decides a b P same other = go (eqb a b) refl
  where
    go : (t : Bool) → eqb a b ≡ t → Decides t P
    go true e = same (eqb-true a b e)
    go false e = other (eqb-false a b e)

-- the test was true
pub decided_true : {t : Bool} {P : Type 0} → t ≡ true → Decides t P → P
decided_true {t} {P} e d = subst (λ (b : Bool). Decides b P) e d

-- the test was false
pub decided_false : {t : Bool} {P : Type 0} → t ≡ false → Decides t P → P → ⊥
decided_false {t} {P} e d = subst (λ (b : Bool). Decides b P) e d
