-- A search that does not keep a block farther than the pixel found by then returns what a search that keeps all returns.
use Prim.Native.Nat.{ℕ, zero, suc, ◌+◌, ◌≤◌}
use native.Mathlib.Omega.{arith}
use mathlib.Core.Path.{◌≡◌, refl, sym, ap, ap₂, subst, ◌∙◌}
use mathlib.Core.Bool.{Bool, true, false, cond, false≢true}
use mathlib.Core.Option.{Option}
use mathlib.Core.List.{List, [], ◌∷◌, ◌++◌}
use lib.ListN.{length}
use Rattle.pktree.specs.Lists.{select, total}
use Rattle.pktree.specs.Tree.{BlockOf}
use Rattle.pktree.proofs.WindowParts.{select_join, total_join}
use Rattle.searching.specs.Search.{pixel_elements, block_elements, nearest_of, next, others, Search, search, open_of, open_next, found, all_farther, is_complete, continued}
use Rattle.searching.specs.Nearest.{Nearest, nearest_by}
use Rattle.searching.proofs.ListLaws.{select_narrow, total_select}
use Rattle.searching.proofs.OpenedPixels.{held_by}
use Rattle.searching.proofs.Steps.{found_end, count_kept}
use Rattle.searching.proofs.Budgets.{complete_stays, none_left, goes_on_lem}
use Rattle.searching.proofs.NearBlocks.{farther_near, limit_near, NextAmong, next_among, near_before}
pub use Rattle.searching.proofs.NearBlocks.{is_near}

module _ (place : ℕ) where
  -- one block opened: of its elements that are blocks, those not farther than the pixel found by then are kept
  abbrev pub keep_of : List BlockOf → List BlockOf → Search
  keep_of [] opened = search [] opened
  keep_of (b ∷ l) opened =
      search (select (is_near place (found place (search [] (opened ++ (next place b l ∷ []))))) (block_elements (next place b l).elements) ++ others place b l)
      (opened ++ (next place b l ∷ []))

  abbrev pub keep_next : Search → Search
  keep_next s = keep_of s.met s.opened

  -- until the search is complete or the budget spent
  unfoldable pub pruned : ℕ → Search → Search
  pruned zero s = s
  pruned (suc n) s = let later = pruned n (keep_next s) in cond (is_complete place s) s later

  pub pruned_complete : (n : ℕ) (s : Search) → is_complete place s ≡ true → pruned n s ≡ s
  unfolding pruned
  pruned_complete zero s h = refl
  pruned_complete (suc n) s h = rw h

  pub pruned_spent : (s : Search) → pruned 0 s ≡ s
  unfolding pruned
  pruned_spent s = refl

  pub pruned_on : (n : ℕ) (s : Search) → is_complete place s ≡ false → pruned (suc n) s ≡ pruned n (keep_next s)
  unfolding pruned
  pruned_on n s h = rw h

  pub found_kept : (b : BlockOf) (l opened : List BlockOf)
      → found place (keep_of (b ∷ l) opened) ≡ nearest_of place (found place (search (b ∷ l) opened)) (pixel_elements (next place b l).elements)
  found_kept b l opened = found_end place opened (next place b l)

  -- no more blocks are held than before
  held_of : (met opened : List BlockOf) → length (keep_of met opened).opened + total held_by (keep_of met opened).met ≤ length opened + total held_by met
  held_of [] opened = omega arith
  held_of (b ∷ l) opened =
      let n : BlockOf = next place b l in
      let near = is_near place (found place (search [] (opened ++ (n ∷ [])))) in
      let inner : List BlockOf = block_elements n.elements in
      omega (
        arith,
        count_kept place (length opened + total held_by (b ∷ l)) (search (b ∷ l) opened) refl,
        total_join held_by inner (others place b l),
        total_join held_by (select near inner) (others place b l),
        total_select held_by near inner,
      )

  pub held_kept : (s : Search) → length (keep_next s).opened + total held_by (keep_next s).met ≤ length s.opened + total held_by s.met
  held_kept s = held_of s.met s.opened

  -- two searches that have opened the same and have met the same near blocks
  record Alike (s t : Search) : Type 0 where
    opened : t.opened ≡ s.opened
    near : select (is_near place (found place s)) s.met ≡ select (is_near place (found place s)) t.met

  near_alone : (met opened : List BlockOf)
      → nearest_by place (search (select (is_near place (found place (search met opened))) met) opened) ≡ nearest_by place (search met opened)
  near_alone met opened =
      let o : Option ℕ = found place (search met opened) in
      rw (limit_near place o met, farther_near place o met)

  alike_nearest : (s t : Search) → Alike s t → nearest_by place s ≡ nearest_by place t
  alike_nearest s t h =
      sym (near_alone s.met s.opened) ∙ ap (λ (m : List BlockOf). nearest_by place (search m s.opened)) h.near ∙ near_alone t.met s.opened
      ∙ ap (λ (opened : List BlockOf). nearest_by place (search t.met opened)) (sym h.opened)

  -- they open the same block next, and then have again met the same near blocks
  next_alike : (o : Option ℕ) (b : BlockOf) (l : List BlockOf) (c : BlockOf) (m k : List BlockOf) → NextAmong place o b l k → NextAmong place o c m k → all_farther place o k ≡ false
      → (next place c m ≡ next place b l) × (select (is_near place o) (others place b l) ≡ select (is_near place o) (others place c m))
  next_alike o b l c m [] r q h = absurd (false≢true (sym h))
  next_alike o b l c m (d ∷ k) r q h = (q.first ∙ sym r.first, r.rest ∙ sym q.rest)

  alike_opened : (met met' opened : List BlockOf) → all_farther place (found place (search met opened)) met ≡ false
      → select (is_near place (found place (search met opened))) met ≡ select (is_near place (found place (search met opened))) met'
      → Alike (keep_of met opened) (open_of place met' opened)
  alike_opened [] met' opened h e = absurd (false≢true (sym h))
  alike_opened (b ∷ l) [] opened h e =
      let o : Option ℕ = found place (search (b ∷ l) opened) in
      absurd (false≢true (sym h ∙ sym (farther_near place o (b ∷ l)) ∙ ap (all_farther place o) e))
  alike_opened (b ∷ l) (c ∷ m) opened h e =
      let o : Option ℕ = found place (search (b ∷ l) opened) in
      let n : BlockOf = next place b l in
      let more : List ℕ = pixel_elements n.elements in
      let near : BlockOf → Bool = is_near place (found place (search [] (opened ++ (n ∷ [])))) in
      let inner : List BlockOf = block_elements n.elements in
      let same = next_alike o b l c m (select (is_near place o) (b ∷ l)) (next_among place o b l) (subst (NextAmong place o c m) (sym e) (next_among place o c m)) (farther_near place o (b ∷ l) ∙ h) in
      let narrow : (d : BlockOf) → near d ≡ true → is_near place o d ≡ true =
      λ d g. near_before place o more d (subst (λ (p : Option ℕ). is_near place p d ≡ true) (found_end place opened n) g) in
      let rest : select near (others place b l) ≡ select near (others place c m) =
      sym (select_narrow (is_near place o) near narrow (others place b l)) ∙ ap (select near) same.1 ∙ select_narrow (is_near place o) near narrow (others place c m) in
      record {
        opened = rw same.0;
        near = rw (same.0, select_join near (select near inner) (others place b l), select_join near inner (others place c m))
            (ap₂ ◌++◌ (select_narrow near near (λ d g. g) inner) rest);
      }

  alike_next : (s t : Search) → Alike s t → is_complete place s ≡ false → Alike (keep_next s) (open_next place t)
  alike_next s t h e =
      subst (λ (opened : List BlockOf). Alike (keep_next s) (open_of place t.met opened)) (sym h.opened) (alike_opened s.met t.met s.opened e h.near)

  pruned_alike : (n : ℕ) (s t : Search) → Alike s t → nearest_by place (pruned n s) ≡ nearest_by place (continued place n t)
  pruned_alike zero s t h = rw (pruned_spent s, none_left place t) (alike_nearest s t h)
  pruned_alike (suc n) s t h = go (is_complete place s) refl (λ g. pruned_alike n (keep_next s) (open_next place t) g)
    where
      both : is_complete place s ≡ is_complete place t
      both = ap (λ (a : Nearest). a.complete) (alike_nearest s t h)

      go : (u : Bool) → is_complete place s ≡ u
          → (Alike (keep_next s) (open_next place t) → nearest_by place (pruned n (keep_next s)) ≡ nearest_by place (continued place n (open_next place t)))
          → nearest_by place (pruned (suc n) s) ≡ nearest_by place (continued place (suc n) t)
      go true e ih = rw (pruned_complete (suc n) s e, complete_stays place (suc n) t (sym both ∙ e)) (alike_nearest s t h)
      go false e ih = rw (pruned_on n s e, goes_on_lem place n t (sym both ∙ e)) (ih (alike_next s t h e))

  pub pruned_nearest : (n : ℕ) (s : Search) → nearest_by place (pruned n s) ≡ nearest_by place (continued place n s)
  pruned_nearest n s = pruned_alike n s s (record { opened = refl; near = refl })
