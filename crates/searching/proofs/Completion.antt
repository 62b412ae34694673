-- The test for completeness, and the limit: both are told by the next block alone.
use Prim.Native.Nat.{ℕ, suc, ◌≤◌, ◌<◌}
use native.Mathlib.Omega.{arith}
use mathlib.Core.Path.{◌≡◌, refl, sym, ◌∙◌}
use mathlib.Core.Bool.{Bool, true, false, false≢true, and-eq-true_iff}
use mathlib.Core.Logic.{◌↔◌}
use mathlib.Core.Option.{Option, none, some}
use mathlib.Core.List.{List, [], ◌∷◌}
use borrow.Author.Tests.{ltb-true, ltb-false, lt-ltb}
use Rattle.pktree.specs.Lists.{Every}
use Rattle.pktree.specs.Tree.{BlockOf}
use Rattle.pktree.proofs.Absurd.{zero_is_not_one}
use Rattle.searching.specs.Distance.{squared_distance}
use Rattle.searching.specs.Search.{distance_to, is_farther, all_farther, next, others}
use Rattle.searching.specs.Nearest.{limit_of}
use Rattle.searching.proofs.ListLaws.{every_map}
use Rattle.searching.proofs.NearestPixel.{Holds}
use Rattle.searching.proofs.NextBlock.{Earlier, next_first, chosen_every, every_chosen}
use Rattle.searching.proofs.Limits.{limit_of_found, limit_of_met, limit_greatest}

module _ (place : ℕ) where
  pub none_farther : (l : List BlockOf) → all_farther place none l ≡ true → l ≡ []
  none_farther [] h = refl
  none_farther (b ∷ l) h = absurd (false≢true h)

  abbrev pub Farther : ℕ → BlockOf → Type 0
  Farther p b = squared_distance place p < distance_to place b

  pub is_farther_lem : (p : ℕ) (b : BlockOf) → is_farther place (some p) b ≡ true → Farther p b
  is_farther_lem p b h = ltb-true (squared_distance place p) (distance_to place b) h

  pub not_farther : (p : ℕ) (b : BlockOf) → is_farther place (some p) b ≡ false → distance_to place b ≤ squared_distance place p
  not_farther p b h = ltb-false (squared_distance place p) (distance_to place b) h

  pub all_farther_lem : (p : ℕ) (l : List BlockOf) → (all_farther place (some p) l ≡ true) ↔ Every (Farther p) l
  all_farther_lem p [] = ((λ h. tt), (λ h. refl))
  all_farther_lem p (b ∷ l) =
      let both = and-eq-true_iff (is_farther place (some p) b) (all_farther place (some p) l) in
      let later = all_farther_lem p l in (
        (λ h. let e = both.0 h in (is_farther_lem p b e.0, later.0 e.1)),
        (λ h. both.1 (lt-ltb (squared_distance place p) (distance_to place b) h.0, later.1 h.1)),
      )

  -- what is at most the next block's distance is at most that of each block met
  from_next : (v : ℕ) (b : BlockOf) (l : List BlockOf) → v ≤ distance_to place (next place b l) → Every (λ c. v ≤ distance_to place c) (b ∷ l)
  from_next v b l h =
      let r = every_chosen place (λ c. v ≤ distance_to place c) b l h
      (every_map (Earlier place (next place b l)) (λ c. v ≤ distance_to place c) (others place b l) (λ c e. omega (arith, e.no_farther)) (next_first place b l)) in
      (r.0, r.1)

  to_next : (P : BlockOf → Type 0) (b : BlockOf) (l : List BlockOf) → Every P (b ∷ l) → P (next place b l)
  to_next P b l h = (chosen_every place P b l h.0 h.1).0

  pub farther_next : (o : Option ℕ) (b : BlockOf) (l : List BlockOf) → all_farther place o (b ∷ l) ≡ is_farther place o (next place b l)
  farther_next none b l = refl
  farther_next (some p) b l = go (is_farther place (some p) (next place b l)) refl (all_farther place (some p) (b ∷ l)) refl
    where
      go : (t : Bool) → is_farther place (some p) (next place b l) ≡ t → (u : Bool) → all_farther place (some p) (b ∷ l) ≡ u → u ≡ t
      go true e u f = sym f ∙ (all_farther_lem p (b ∷ l)).1 (from_next (suc (squared_distance place p)) b l (is_farther_lem p (next place b l) e))
      go false e true f = absurd (omega (arith, not_farther p (next place b l) e, to_next (Farther p) b l ((all_farther_lem p (b ∷ l)).0 f)))
      go false e false f = refl

  -- the limit of a complete search, and of one that is not
  pub limit_complete : (p : ℕ) (l : List BlockOf) → all_farther place (some p) l ≡ true → limit_of place (some p) l ≡ squared_distance place p
  limit_complete p l h =
      let low = limit_of_found place (some p) l in
      let high = limit_greatest place (squared_distance place p) (some p) l (omega arith)
      (every_map (Farther p) (λ b. squared_distance place p ≤ distance_to place b) l (λ b f. omega arith) ((all_farther_lem p l).0 h))
      (λ g. zero_is_not_one (cc g.0)) in
      omega (arith, low, high)

  not_below : (o : Option ℕ) (b : BlockOf) → is_farther place o b ≡ false → Holds (λ p. distance_to place b ≤ squared_distance place p) o
  not_below none b h = tt
  not_below (some p) b h = not_farther p b h

  pub limit_incomplete : (o : Option ℕ) (b : BlockOf) (l : List BlockOf) → is_farther place o (next place b l) ≡ false
      → limit_of place o (b ∷ l) ≡ distance_to place (next place b l)
  limit_incomplete o b l h =
      let v : ℕ = distance_to place (next place b l) in
      let low : limit_of place o (b ∷ l) ≤ v = to_next (λ c. limit_of place o (b ∷ l) ≤ distance_to place c) b l (limit_of_met place o (b ∷ l)) in
      let high : v ≤ limit_of place o (b ∷ l) =
      limit_greatest place v o (b ∷ l) (not_below o (next place b l) h) (from_next v b l (omega arith)) (λ g. zero_is_not_one (cc g.1)) in
      omega (arith, low, high)
