-- What any search returns, told from what it has opened and met.
use Prim.Native.Nat.{ℕ, ◌≤◌, ◌<◌}
use native.Mathlib.Omega.{arith}
use mathlib.Core.Path.{◌≡◌, refl, sym}
use mathlib.Core.Bool.{true, false, false≢true}
use mathlib.Core.Logic.{◌⊎◌, inl, inr, ◌↔◌}
use mathlib.Core.Option.{Option, none, some}
use mathlib.Core.List.{List, [], ◌∷◌}
use Rattle.pktree.specs.Lists.{Every}
use Rattle.pktree.specs.PixelSet.{member}
use Rattle.pktree.specs.Tree.{BlockOf}
use Rattle.pktree.proofs.Absurd.{zero_is_not_one}
use Rattle.searching.specs.Distance.{squared_distance}
use Rattle.searching.specs.Search.{distance_to, nearest_of, all_farther}
use Rattle.searching.specs.Nearest.{limit_of, is_some, code_found, distance_found}
use Rattle.searching.specs.NearestPromises.{IsNearest}
use Rattle.searching.proofs.ListLaws.{every_map, of_member, members}
use Rattle.searching.proofs.NearestPixel.{First, Holds, nearest_first, nearest_holds, nothing_nearest}
use Rattle.searching.proofs.Completion.{Farther, all_farther_lem}
use Rattle.searching.proofs.Limits.{limit_of_found, limit_greatest}

module _ (place : ℕ) where
  pub is_nearest : (p : ℕ) (l : List ℕ) → member l p ≡ true → Every (First place p) l → IsNearest place p l
  is_nearest p l m h =
      record {
        among = m;
        nearest = λ q e. (of_member (First place p) l q h e).no_farther;
        lowest = λ q e d. (of_member (First place p) l q h e).no_higher d;
      }

  -- of any search: what was found, and when it is complete
  pub found_nearest : (l : List ℕ) (o : Option ℕ) → nearest_of place none l ≡ o → is_some o ≡ true → IsNearest place (code_found o) l
  found_nearest l none e h = absurd (false≢true h)
  found_nearest l (some p) e h = is_nearest p l (rw e at (nearest_holds place (λ q. member l q ≡ true) l (members l))) (rw e at (nearest_first place l))

  pub not_found_none : (l : List ℕ) (o : Option ℕ) → nearest_of place none l ≡ o → is_some o ≡ false → l ≡ []
  not_found_none l none e h = nothing_nearest place l e
  not_found_none l (some p) e h = absurd (false≢true (sym h))

  pub not_found_zero : (o : Option ℕ) → is_some o ≡ false → (code_found o ≡ 0) × (distance_found place o ≡ 0)
  not_found_zero none h = (refl, refl)
  not_found_zero (some p) h = absurd (false≢true (sym h))

  pub found_distance : (o : Option ℕ) → is_some o ≡ true → distance_found place o ≡ squared_distance place (code_found o)
  found_distance none h = absurd (false≢true h)
  found_distance (some p) h = refl

  pub complete_when : (o : Option ℕ) (l : List BlockOf)
      → (all_farther place o l ≡ true) ↔ ((l ≡ []) ⊎ ((is_some o ≡ true) × Every (λ b. distance_found place o < distance_to place b) l))
  complete_when none [] = ((λ h. inl refl), (λ h. refl))
  complete_when none (b ∷ l) = ((λ h. absurd (false≢true h)), back)
    where
      back : ((b ∷ l ≡ []) ⊎ ((false ≡ true) × Every (λ b. 0 < distance_to place b) (b ∷ l))) → false ≡ true
      back (inl e) = zero_is_not_one (cc e)
      back (inr h) = h.0
  complete_when (some p) l = ((λ h. inr (refl, (all_farther_lem place p l).0 h)), back)
    where
      back : ((l ≡ []) ⊎ ((true ≡ true) × Every (Farther place p) l)) → all_farther place (some p) l ≡ true
      back (inl e) = rw e
      back (inr h) = (all_farther_lem place p l).1 h.1

  pub seen_from : (v : ℕ) (l : List ℕ) (o : Option ℕ) → nearest_of place none l ≡ o → Holds (λ p. v ≤ squared_distance place p) o
      → Every (λ q. v ≤ squared_distance place q) l
  seen_from v l none e h = rw (nothing_nearest place l e) tt
  seen_from v l (some p) e h =
      every_map (First place p) (λ q. v ≤ squared_distance place q) l (λ q f. omega (arith, f.no_farther, h)) (rw e at (nearest_first place l))

  pub limit_found : (o : Option ℕ) (l : List BlockOf) → is_some o ≡ true → limit_of place o l ≤ distance_found place o
  limit_found none l e = absurd (false≢true e)
  limit_found (some p) l e = limit_of_found place (some p) l

  pub greatest : (v : ℕ) (o : Option ℕ) (l : List BlockOf) → (is_some o ≡ true → v ≤ distance_found place o) → Every (λ b. v ≤ distance_to place b) l
      → (is_some o ≡ false → l ≡ [] → ⊥) → v ≤ limit_of place o l
  greatest v none l h g n = limit_greatest place v none l tt g (λ w. n refl w.1)
  greatest v (some p) l h g n = limit_greatest place v (some p) l (h refl) g (λ w. zero_is_not_one (cc w.0))
