-- What one pixel more and one pixel less make of a set: its members, its length, and that it stays a set.
use Prim.Native.Nat.{ℕ, suc, ◌≤◌, ◌<◌}
use native.Mathlib.Omega.{arith}
use native.Mathlib.Decide.{dec_lt, ℕ_discrete}
use mathlib.Core.Path.{◌≡◌, refl, ap, sym, ◌∙◌}
use mathlib.Core.Bool.{Bool, true, false, ◌&&◌, ◌||◌, not, and-false, and-true}
use mathlib.Core.List.{List, [], ◌∷◌, ◌++◌}
use lib.Dec.{eqb}
use lib.ListN.{length}
use borrow.Author.Tests.{lt-ltb, le-ltb, eq-eqb, ne_eqb}
use Rattle.pktree.specs.Lists.{Every}
use Rattle.pktree.specs.Panel.{Panel, OnPanel}
use Rattle.pktree.specs.PixelSet.{member, Ascending, PixelSet, added, removed}
use Rattle.pktree.proofs.Pixels.{ascending_lower, member_below_ascending}
use Rattle.pktree.proofs.Absurd.{zero_is_not_one}

or_swap : (a b c : Bool) → (a || (b || c)) ≡ (b || (a || c))
or_swap true true c = refl
or_swap true false c = refl
or_swap false true c = refl
or_swap false false c = refl

-- one pixel more
pub member_added : (x : ℕ) (set : List ℕ) (y : ℕ) → member (added x set) y ≡ (eqb x y || member set y)
member_added x [] y = refl
member_added x (c ∷ set) y = go (dec_lt x c) (member_added x set y)
  where
    go : Dec (x < c) → member (added x set) y ≡ (eqb x y || member set y) → member (added x (c ∷ set)) y ≡ (eqb x y || member (c ∷ set) y)
    go (yes p) e = rw (lt-ltb x c p)
    go (no p) e = rw (le-ltb x c (omega arith), e) (or_swap (eqb c y) (eqb x y) (member set y))

pub length_added : (x : ℕ) (set : List ℕ) → length (added x set) ≡ suc (length set)
length_added x [] = refl
length_added x (c ∷ set) = go (dec_lt x c) (length_added x set)
  where
    go : Dec (x < c) → length (added x set) ≡ suc (length set) → length (added x (c ∷ set)) ≡ suc (length (c ∷ set))
    go (yes p) e = rw (lt-ltb x c p)
    go (no p) e = rw (le-ltb x c (omega arith), e)

added_ascends : (x from : ℕ) (set : List ℕ) → from ≤ x → Ascending from set → member set x ≡ false → Ascending from (added x set)
added_ascends x from [] p h out = (p, tt)
added_ascends x from (c ∷ set) p h out = go (dec_lt x c) (ℕ_discrete c x) (added_ascends x (suc c) set)
  where
    go : Dec (x < c) → Dec (c ≡ x) → (suc c ≤ x → Ascending (suc c) set → member set x ≡ false → Ascending (suc c) (added x set)) → Ascending from (added x (c ∷ set))
    go (yes q) e r = rw (lt-ltb x c q) (p, (omega arith, h.1))
    go (no q) (yes e) r = zero_is_not_one (cc (eq-eqb c x e))
    go (no q) (no e) r = rw (le-ltb x c (omega arith)) (h.0, r (omega arith) h.1 (rw (ne_eqb c x e) at out))

added_every : (P : ℕ → Type 0) (x : ℕ) (set : List ℕ) → P x → Every P set → Every P (added x set)
added_every P x [] p h = (p, tt)
added_every P x (c ∷ set) p h = go (dec_lt x c) (added_every P x set p h.1)
  where
    go : Dec (x < c) → Every P (added x set) → Every P (added x (c ∷ set))
    go (yes q) r = rw (lt-ltb x c q) (p, h)
    go (no q) r = rw (le-ltb x c (omega arith)) (h.0, r)

pub added_is_set : (panel : Panel) (x : ℕ) (set : List ℕ) → OnPanel panel x → PixelSet panel set → member set x ≡ false → PixelSet panel (added x set)
added_is_set panel x set p h out =
    record { ascending = added_ascends x 0 set (omega arith) h.ascending out; on_panel = added_every (OnPanel panel) x set p h.on_panel }

-- one pixel less
pub member_removed : (x from : ℕ) (set : List ℕ) (y : ℕ) → Ascending from set → member (removed x set) y ≡ (member set y && not (eqb x y))
member_removed x from [] y h = refl
member_removed x from (c ∷ set) y h = go (ℕ_discrete c x) (ℕ_discrete x y) (ℕ_discrete c y) (member_removed x (suc c) set y h.1)
  where
    go : Dec (c ≡ x) → Dec (x ≡ y) → Dec (c ≡ y) → member (removed x set) y ≡ (member set y && not (eqb x y)) → member (removed x (c ∷ set)) y ≡ (member (c ∷ set) y && not (eqb x y))
    go (yes e) (yes f) g r = rw (eq-eqb c x e, eq-eqb x y f, and-false (eqb c y || member set y)) (member_below_ascending (suc c) set y h.1 (omega arith))
    go (yes e) (no f) g r = rw (eq-eqb c x e, ne_eqb x y f, ne_eqb c y (λ z. f (sym e ∙ z))) (sym (and-true (member set y)))
    go (no e) (yes f) (yes g) r = absurd (e (g ∙ sym f))
    go (no e) (no f) (yes g) r = rw (ne_eqb c x e, ne_eqb x y f, eq-eqb c y g)
    go (no e) f (no g) r = rw (ne_eqb c x e, ne_eqb c y g) r

pub length_removed : (x : ℕ) (set : List ℕ) → member set x ≡ true → suc (length (removed x set)) ≡ length set
length_removed x [] h = zero_is_not_one (cc)
length_removed x (c ∷ set) h = go (ℕ_discrete c x) (length_removed x set)
  where
    go : Dec (c ≡ x) → (member set x ≡ true → suc (length (removed x set)) ≡ length set) → suc (length (removed x (c ∷ set))) ≡ length (c ∷ set)
    go (yes e) r = rw (eq-eqb c x e)
    go (no e) r = rw (ne_eqb c x e) (ap suc (r (rw (ne_eqb c x e) at h)))

removed_ascends : (x from : ℕ) (set : List ℕ) → Ascending from set → Ascending from (removed x set)
removed_ascends x from [] h = tt
removed_ascends x from (c ∷ set) h = go (ℕ_discrete c x) (removed_ascends x (suc c) set h.1)
  where
    go : Dec (c ≡ x) → Ascending (suc c) (removed x set) → Ascending from (removed x (c ∷ set))
    go (yes e) r = rw (eq-eqb c x e) (ascending_lower from (suc c) set (omega arith) h.1)
    go (no e) r = rw (ne_eqb c x e) (h.0, r)

removed_every : (P : ℕ → Type 0) (x : ℕ) (set : List ℕ) → Every P set → Every P (removed x set)
removed_every P x [] h = tt
removed_every P x (c ∷ set) h = go (ℕ_discrete c x) (removed_every P x set h.1)
  where
    go : Dec (c ≡ x) → Every P (removed x set) → Every P (removed x (c ∷ set))
    go (yes e) r = rw (eq-eqb c x e) h.1
    go (no e) r = rw (ne_eqb c x e) (h.0, r)

pub removed_is_set : (panel : Panel) (x : ℕ) (set : List ℕ) → PixelSet panel set → PixelSet panel (removed x set)
removed_is_set panel x set h = record { ascending = removed_ascends x 0 set h.ascending; on_panel = removed_every (OnPanel panel) x set h.on_panel }

-- the pixel at its place in an ascending list
place_from : (x from : ℕ) (l r : List ℕ) → Ascending from (l ++ (x ∷ r)) → from ≤ x
place_from x from [] r h = h.0
place_from x from (c ∷ l) r h = omega (arith, place_from x (suc c) l r h.1)

pub added_at_place : (x from : ℕ) (l r : List ℕ) → Ascending from (l ++ (x ∷ r)) → added x (l ++ r) ≡ l ++ (x ∷ r)
added_at_place x from [] [] h = refl
added_at_place x from [] (c ∷ r) h = rw (lt-ltb x c (omega arith))
added_at_place x from (c ∷ l) r h =
    rw (le-ltb x c (omega (arith, place_from x (suc c) l r h.1))) (ap (λ (s : List ℕ). c ∷ s) (added_at_place x (suc c) l r h.1))

pub removed_at_place : (x from : ℕ) (l r : List ℕ) → Ascending from (l ++ (x ∷ r)) → removed x (l ++ (x ∷ r)) ≡ l ++ r
removed_at_place x from [] r h = rw (eq-eqb x x refl)
removed_at_place x from (c ∷ l) r h =
    rw (ne_eqb c x (omega (arith, place_from x (suc c) l r h.1))) (ap (λ (s : List ℕ). c ∷ s) (removed_at_place x (suc c) l r h.1))
