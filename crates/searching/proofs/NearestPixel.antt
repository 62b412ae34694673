-- The nearest of some pixels, the lowest code among equal distances.
use Prim.Native.Nat.{ℕ}
use mathlib.Core.Path.{◌≡◌, refl}
use mathlib.Core.Bool.{Bool, true, false, cond}
use mathlib.Core.Option.{Option, none, some}
use mathlib.Core.List.{List, [], ◌∷◌, ◌++◌}
use Rattle.pktree.specs.Lists.{Every}
use Rattle.pktree.proofs.Absurd.{zero_is_not_one}
use Rattle.searching.specs.Distance.{squared_distance}
use Rattle.searching.specs.Search.{pixel_precedes, nearest_of}
use Rattle.searching.proofs.Precedence.{NotAfter, not_after_itself, not_after_trans, precedes_true, precedes_false}

-- of a pixel found, if any
abbrev pub Holds : (ℕ → Type 0) → Option ℕ → Type 0
Holds P none = Unit {0}
Holds P (some p) = P p

-- what holds of two pixels holds of the one chosen
holds_chosen : (P : ℕ → Type 0) (t : Bool) (c p : ℕ) → P c → P p → P (cond t c p)
holds_chosen P true c p h g = h
holds_chosen P false c p h g = g

module _ (place : ℕ) where
  -- p is nearer than q, or as near and of no higher code
  abbrev pub First : ℕ → ℕ → Type 0
  First p q = NotAfter (squared_distance place p) p (squared_distance place q) q

  first_itself : (p : ℕ) → First p p
  first_itself p = not_after_itself (squared_distance place p) p

  -- the choice between two comes before both
  record Chosen (c p r : ℕ) : Type 0 where
    first_new : First r c
    first_old : First r p

  chosen : (c p : ℕ) → Chosen c p (cond (pixel_precedes place c p) c p)
  chosen c p = go (pixel_precedes place c p) refl
    where
      go : (t : Bool) → pixel_precedes place c p ≡ t → Chosen c p (cond t c p)
      go true e = record { first_new = first_itself c; first_old = precedes_true (squared_distance place c) c (squared_distance place p) p e }
      go false e = record { first_new = precedes_false (squared_distance place c) c (squared_distance place p) p e; first_old = first_itself p }

  -- p among some pixels, none of which comes before it
  pub record NearestFrom (p : ℕ) (l : List ℕ) (o : Option ℕ) : Type 0 where
    pub pixel : ℕ
    pub is : o ≡ some pixel
    pub first_old : First pixel p
    pub first : Every (First pixel) l

  pub nearest_from : (p : ℕ) (l : List ℕ) → NearestFrom p l (nearest_of place (some p) l)
  nearest_from p [] = record { pixel = p; is = refl; first_old = first_itself p; first = tt }
  nearest_from p (c ∷ l) =
      let q : ℕ = cond (pixel_precedes place c p) c p in
      let best = chosen c p in
      let later = nearest_from q l in
      record {
        pixel = later.pixel;
        is = later.is;
        first_old = not_after_trans later.first_old best.first_old;
        first = (not_after_trans later.first_old best.first_new, later.first);
      }

  nearest_holds_from : (P : ℕ → Type 0) (p : ℕ) (l : List ℕ) → P p → Every P l → Holds P (nearest_of place (some p) l)
  nearest_holds_from P p [] h g = h
  nearest_holds_from P p (c ∷ l) h g = nearest_holds_from P (cond (pixel_precedes place c p) c p) l (holds_chosen P (pixel_precedes place c p) c p g.0 h) g.1

  pub nearest_holds : (P : ℕ → Type 0) (l : List ℕ) → Every P l → Holds P (nearest_of place none l)
  nearest_holds P [] g = tt
  nearest_holds P (c ∷ l) g = nearest_holds_from P c l g.0 g.1

  -- what was found is the first of all
  pub nearest_first : (l : List ℕ) → Holds (λ p. Every (First p) l) (nearest_of place none l)
  nearest_first [] = tt
  nearest_first (c ∷ l) =
      let n = nearest_from c l in
      let h : Holds (λ p. Every (First p) (c ∷ l)) (some n.pixel) = (n.first_old, n.first) in
      rw n.is h

  -- nothing is found only where there is nothing
  pub nothing_nearest : (l : List ℕ) → nearest_of place none l ≡ none → l ≡ []
  nothing_nearest [] e = refl
  nothing_nearest (c ∷ l) e = zero_is_not_one (cc (nearest_from c l).is)

  pub nearest_append : (o : Option ℕ) (l r : List ℕ) → nearest_of place o (l ++ r) ≡ nearest_of place (nearest_of place o l) r
  nearest_append none [] r = refl
  nearest_append (some p) [] r = refl
  nearest_append none (c ∷ l) r = nearest_append (some c) l r
  nearest_append (some p) (c ∷ l) r = nearest_append (some (cond (pixel_precedes place c p) c p)) l r
