-- The limit is the greatest number that exceeds no distance of a pixel found or of a block met.
use Prim.Native.Nat.{ℕ, min, ◌≤◌}
use native.Mathlib.Omega.{arith}
use mathlib.Core.Path.{◌≡◌, refl}
use mathlib.Core.Option.{Option, none, some}
use mathlib.Core.List.{List, [], ◌∷◌}
use Rattle.pktree.specs.Lists.{Every}
use Rattle.pktree.specs.Tree.{BlockOf}
use Rattle.searching.specs.Distance.{squared_distance}
use Rattle.searching.specs.Search.{distance_to}
use Rattle.searching.specs.Nearest.{least_distance, limit_of}
use Rattle.searching.proofs.NearestPixel.{Holds}

-- neither a pixel found nor a block left
abbrev pub Neither : Option ℕ → List BlockOf → Type 0
Neither o l = (o ≡ none) × (l ≡ [])

module _ (place : ℕ) where
  least_first : (n : ℕ) (l : List BlockOf) → least_distance place n l ≤ n
  least_first n [] = omega arith
  least_first n (b ∷ l) = omega (arith, least_first (min n (distance_to place b)) l)

  least_others : (n : ℕ) (l : List BlockOf) → Every (λ b. least_distance place n l ≤ distance_to place b) l
  least_others n [] = tt
  least_others n (b ∷ l) =
      let m : ℕ = min n (distance_to place b) in
      (omega (arith, least_first m l), least_others m l)

  least_greatest : (v n : ℕ) (l : List BlockOf) → v ≤ n → Every (λ b. v ≤ distance_to place b) l → v ≤ least_distance place n l
  least_greatest v n [] h g = h
  least_greatest v n (b ∷ l) h g = least_greatest v (min n (distance_to place b)) l (omega (arith, g.0)) g.1

  pub limit_of_found : (o : Option ℕ) (l : List BlockOf) → Holds (λ p. limit_of place o l ≤ squared_distance place p) o
  limit_of_found none l = tt
  limit_of_found (some p) l = omega (arith, least_first (squared_distance place p) l)

  pub limit_of_met : (o : Option ℕ) (l : List BlockOf) → Every (λ b. limit_of place o l ≤ distance_to place b) l
  limit_of_met none [] = tt
  limit_of_met none (b ∷ l) = (least_first (distance_to place b) l, least_others (distance_to place b) l)
  limit_of_met (some p) l = least_others (squared_distance place p) l

  pub limit_greatest : (v : ℕ) (o : Option ℕ) (l : List BlockOf) → Holds (λ p. v ≤ squared_distance place p) o → Every (λ b. v ≤ distance_to place b) l
      → (Neither o l → ⊥) → v ≤ limit_of place o l
  limit_greatest v none [] h g n = absurd (n (refl, refl))
  limit_greatest v none (b ∷ l) h g n = least_greatest v (distance_to place b) l g.0 g.1
  limit_greatest v (some p) l h g n = least_greatest v (squared_distance place p) l h g
