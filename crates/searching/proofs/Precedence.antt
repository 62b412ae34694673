-- The order by distance and then by code.
use Prim.Native.Nat.{ℕ, ◌≤◌, ◌<◌}
use native.Mathlib.Omega.{arith}
use mathlib.Core.Path.{◌≡◌, refl, sym, ◌∙◌}
use mathlib.Core.Bool.{Bool, true, false, ◌&&◌, ◌||◌, false≢true}
use lib.Dec.{ltb, eqb}
use borrow.Author.Tests.{ltb-true, ltb-false, eqb-true, eq-eqb}
use Rattle.searching.specs.Search.{precedes}

-- nearer, or as near and of no higher code
pub record NotAfter (distance code distance' code' : ℕ) : Type 0 where
  pub no_farther : distance ≤ distance'
  pub no_higher : distance ≡ distance' → code ≤ code'

pub not_after_itself : (d c : ℕ) → NotAfter d c d c
not_after_itself d c = record { no_farther = omega arith; no_higher = λ e. omega arith }

pub not_after_trans : {a b c d e f : ℕ} → NotAfter a b c d → NotAfter c d e f → NotAfter a b e f
not_after_trans {a} {b} {c} {d} {e} {f} p q =
    record {
      no_farther = omega (arith, p.no_farther, q.no_farther);
      no_higher = λ h.
          let u : a ≡ c = omega (arith, p.no_farther, q.no_farther) in
          let v : c ≡ e = omega (arith, p.no_farther, q.no_farther) in
          omega (arith, p.no_higher u, q.no_higher v);
    }

pub precedes_true : (d c d' c' : ℕ) → precedes d c d' c' ≡ true → NotAfter d c d' c'
precedes_true d c d' c' = go (ltb d d') refl (eqb d d') refl (ltb c c') refl
  where
    go : (s : Bool) → ltb d d' ≡ s → (t : Bool) → eqb d d' ≡ t → (u : Bool) → ltb c c' ≡ u → (s || (t && u)) ≡ true → NotAfter d c d' c'
    go true s t e u f h = let p : d < d' = ltb-true d d' s in record { no_farther = omega arith; no_higher = λ q. absurd (omega arith) }
    go false s true e true f h =
        let p : d ≡ d' = eqb-true d d' e in
        let q : c < c' = ltb-true c c' f in
        record { no_farther = omega arith; no_higher = λ r. omega arith }
    go false s true e false f h = absurd (false≢true h)
    go false s false e u f h = absurd (false≢true h)

pub precedes_false : (d c d' c' : ℕ) → precedes d c d' c' ≡ false → NotAfter d' c' d c
precedes_false d c d' c' = go (ltb d d') refl (eqb d d') refl (ltb c c') refl
  where
    go : (s : Bool) → ltb d d' ≡ s → (t : Bool) → eqb d d' ≡ t → (u : Bool) → ltb c c' ≡ u → (s || (t && u)) ≡ false → NotAfter d' c' d c
    go true s t e u f h = absurd (false≢true (sym h))
    go false s true e true f h = absurd (false≢true (sym h))
    go false s true e false f h =
        let p : d ≡ d' = eqb-true d d' e in
        let q : c' ≤ c = ltb-false c c' f in
        record { no_farther = omega arith; no_higher = λ r. omega arith }
    go false s false e u f h =
        let p : d' ≤ d = ltb-false d d' s in
        record { no_farther = p; no_higher = λ r. absurd (false≢true (sym e ∙ eq-eqb d d' (sym r))) }
