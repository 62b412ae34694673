-- 02, P5: the promises hold of every set on a valid panel, every place and every budget.
use Prim.Native.Nat.{ℕ, suc, ◌-◌, ◌≤◌}
use native.Mathlib.Omega.{arith}
use mathlib.Core.Path.{◌≡◌, refl, sym, ap, subst, ◌∙◌}
use mathlib.Core.Bool.{true, false, false≢true}
use mathlib.Core.Logic.{◌⊎◌, inl, inr}
use mathlib.Core.Option.{Option, none, some}
use mathlib.Core.List.{List, [], ◌∷◌}
use lib.ListN.{length}
use Rattle.pktree.specs.Lists.{Every}
use Rattle.pktree.specs.Panel.{Panel, Valid}
use Rattle.pktree.specs.PixelSet.{member, PixelSet}
use Rattle.pktree.specs.Tree.{BlockOf, tree, pixels}
use Rattle.pktree.proofs.Absurd.{zero_is_not_one}
use Rattle.searching.specs.Distance.{squared_distance}
use Rattle.searching.specs.Search.{block_elements, pixels_among, nearest_of, Search, search, continued, found, all_farther, is_complete}
use Rattle.searching.specs.Nearest.{Nearest, limit_of, is_some, code_found, distance_found}
use Rattle.searching.specs.NearestPromises.{nearest_on, AllSearched, NothingMarked, NoFarther, NearestPromises}
use Rattle.searching.proofs.ListLaws.{every_map, of_member, members}
use Rattle.searching.proofs.NearestPixel.{First, nearest_first, nearest_holds}
use Rattle.searching.proofs.OpenedPixels.{Inside}
use Rattle.searching.proofs.Completion.{none_farther, all_farther_lem, limit_complete}
use Rattle.searching.proofs.Limits.{limit_of_found, limit_of_met, limit_greatest}
use Rattle.searching.proofs.Steps.{continued_keeps, FoundWithin, within_kept, AtLeast, at_least_kept}
use Rattle.searching.proofs.Budgets.{spent}
use Rattle.searching.proofs.Returned.{is_nearest, found_nearest, found_distance, not_found_none, not_found_zero, complete_when, seen_from, limit_found, greatest}
use Rattle.searching.proofs.SetSearches.{never, gathered, covered, holding, inside, neither, spent_all, only_root, further}

module _ (panel : Panel) (set : List ℕ) (valid : Valid panel) (is : PixelSet panel set) (place : ℕ) where
  abbrev start : Search
  start = search (block_elements (tree panel (member set))) []

  abbrev after : ℕ → Search
  after n = continued place n start

  limit_seen : (n : ℕ) → Every (λ q. (nearest_on panel set place n).limit ≤ squared_distance place q) (pixels_among (after n).opened)
  limit_seen n =
      seen_from place (nearest_on panel set place n).limit (pixels_among (after n).opened) (found place (after n)) refl
      (limit_of_found place (found place (after n)) (after n).met)

  limit_holds : (n : ℕ) → Every (λ q. (nearest_on panel set place n).limit ≤ squared_distance place q) set
  limit_holds n =
      covered panel set valid is place (λ q. (nearest_on panel set place n).limit ≤ squared_distance place q) n
      (record { seen = limit_seen n; unseen = inside panel set valid is place (nearest_on panel set place n).limit n (limit_of_met place (found place (after n)) (after n).met) })

  found_marked : (n : ℕ) (o : Option ℕ) → found place (after n) ≡ o → is_some o ≡ true → member set (code_found o) ≡ true
  found_marked n none e h = absurd (false≢true h)
  found_marked n (some p) e h =
      rw e at (nearest_holds place (λ q. member set q ≡ true) (pixels_among (after n).opened) (holding panel set valid is place (λ q. member set q ≡ true) n (members set)).seen)

  -- the values, by the pixel found
  abbrev values_by : Option ℕ → Search → Nearest
  values_by o s =
      record {
        is_found = is_some o;
        code = code_found o;
        distance = distance_found place o;
        opened = length s.opened;
        limit = limit_of place o s.met;
        complete = all_farther place o s.met;
      }

  all_searched : (n : ℕ) (o : Option ℕ) → found place (after n) ≡ o → all_farther place o (after n).met ≡ true
      → AllSearched set place (values_by o (after n)) ⊎ ((is_some o ≡ false) × (set ≡ []))
  all_searched n none e h = inr (refl, neither panel set valid is place n e (none_farther place (after n).met h))
  all_searched n (some p) e h =
      let farther : ℕ → Type 0 = λ q. suc (squared_distance place p) ≤ squared_distance place q in
      let first : Every (First place p) set =
      covered panel set valid is place (First place p) n
      (record {
        seen = rw e at (nearest_first place (pixels_among (after n).opened));
        unseen = every_map (Inside farther) (Inside (First place p)) (after n).met
            (λ b. every_map farther (First place p) (pixels b.elements) (λ q l. record { no_farther = omega arith; no_higher = λ f. absurd (omega arith) }))
            (inside panel set valid is place (suc (squared_distance place p)) n ((all_farther_lem place p (after n).met).0 h));
      }) in
      inl (record { found = refl; nearest = is_nearest place p set (found_marked n (some p) e refl) first; limit = limit_complete place p (after n).met h })

  none_marked : (n : ℕ) → 1 ≤ n → set ≡ [] → NothingMarked (nearest_on panel set place n)
  none_marked n h e =
      let complete : is_complete place (after n) ≡ true = spent_all panel set valid is place n (omega (arith, only_root panel set valid is place e)) in
      let seen : pixels_among (after n).opened ≡ [] = never (pixels_among (after n).opened) (holding panel set valid is place (λ q. ⊥) n (subst (Every (λ q. ⊥)) (sym e) tt)).seen in
      let f : found place (after n) ≡ none = ap (nearest_of place none) seen in
      let m : (after n).met ≡ [] = none_farther place (after n).met (subst (λ (o : Option ℕ). all_farther place o (after n).met ≡ true) f complete) in
      record { complete = complete; found = ap is_some f; limit = ap (λ (o : Option ℕ). limit_of place o (after n).met) f ∙ ap (limit_of place none) m }

  near_found : (o : Option ℕ) → is_some o ≡ true → FoundWithin place (distance_found place o) o
  near_found none h = absurd (false≢true h)
  near_found (some p) h = record { pixel = p; is = refl; near = omega arith }

  no_farther : (n m : ℕ) → n ≤ m → (nearest_on panel set place n).is_found ≡ true → NoFarther (nearest_on panel set place n) (nearest_on panel set place m)
  no_farther n m h f =
      let d : ℕ = (nearest_on panel set place n).distance in
      let later : FoundWithin place d (found place (after m)) =
      subst (λ (s : Search). FoundWithin place d (found place s)) (further panel set valid is place n m h)
      (continued_keeps place (λ s. FoundWithin place d (found place s)) (within_kept place d) (m - n) (after n) (near_found (found place (after n)) f)) in
      record { found = ap is_some later.is; distance = omega (arith, ap (distance_found place) later.is, later.near) }

  limit_grows : (n m : ℕ) → 1 ≤ n → n ≤ m → (nearest_on panel set place n).limit ≤ (nearest_on panel set place m).limit
  limit_grows n m g h = go set refl
    where
      v : ℕ
      v = (nearest_on panel set place n).limit

      later : AtLeast panel (member set) valid place v (after m)
      later =
          subst (λ (s : Search). AtLeast panel (member set) valid place v s) (further panel set valid is place n m h)
          (continued_keeps place (AtLeast panel (member set) valid place v) (at_least_kept panel (member set) valid place v) (m - n) (after n)
          (record { gathered = gathered panel set valid is place n; seen = limit_seen n; unseen = limit_of_met place (found place (after n)) (after n).met }))

      go : (l : List ℕ) → set ≡ l → v ≤ (nearest_on panel set place m).limit
      go [] e = omega (arith, (none_marked n g e).limit)
      go (c ∷ l) e =
          limit_greatest place v (found place (after m)) (after m).met
          (nearest_holds place (λ q. v ≤ squared_distance place q) (pixels_among (after m).opened) later.seen) later.unseen
          (λ w. zero_is_not_one (cc (e, neither panel set valid is place m w.0 w.1)))

  pub nearest_promises : (budget : ℕ) → NearestPromises panel set place budget
  nearest_promises n =
      let o : Option ℕ = found place (after n) in
      let met : List BlockOf = (after n).met in
      let opened : List BlockOf = (after n).opened in
      record {
        found = found_nearest place (pixels_among opened) o refl;
        found_marked = found_marked n o refl;
        found_distance = found_distance place o;
        not_found = not_found_none place (pixels_among opened) o refl;
        not_found_zero = λ h. let zero = not_found_zero place o h in record { pixel = zero.0; distance = zero.1 };
        opened = refl;
        limit = λ q. of_member (λ c. limit_of place o met ≤ squared_distance place c) set q (limit_holds n);
        limit_unopened = limit_of_met place o met;
        limit_found = limit_found place o met;
        limit_greatest = λ v. greatest place v o met;
        complete_exactly = complete_when place o met;
        complete = all_searched n o refl;
        nothing_marked = none_marked n;
        larger_pixel = no_farther n;
        larger_limit = limit_grows n;
        opened_to = omega (arith, (spent place n start).to);
        opened_below = λ h. (spent place n start).below (omega arith);
        all_held = spent_all panel set valid is place n;
      }
