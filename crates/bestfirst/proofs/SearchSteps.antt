-- The steps of a search on a sound store: it is complete, or the budget is spent, or the next block is opened.
use Prim.Native.Nat.{ℕ, suc, ◌+◌, ◌-◌, ◌≤◌, ◌<◌}
use native.Mathlib.Omega.{arith}
use mathlib.Core.Path.{◌≡◌, refl, ap, sym, subst, ◌∙◌}
use mathlib.Core.Bool.{true, false}
use mathlib.Core.Option.{Option, none, some}
use mathlib.Core.List.{List, [], ◌∷◌, ◌++◌}
use lib.ListN.{length, length-append}
use borrow.Author.Tests.{lt-ltb, le-ltb}
use Rattle.pktree.specs.Lists.{select, total}
use Rattle.pktree.specs.Panel.{Valid}
use Rattle.pktree.specs.PixelSet.{member}
use Rattle.pktree.specs.Tree.{BlockOf}
use Rattle.pktree.proofs.WindowParts.{total_join}
use Rattle.measures.specs.declared.sizes.Layout.{Layout}
use Rattle.measures.specs.Sizes.{panel_of, sizes_of}
use Rattle.store.specs.Sound.{Holds}
use Rattle.walks.proofs.RootWalk.{held_tree}
use Rattle.searching.specs.Distance.{squared_distance}
use Rattle.searching.specs.Search.{block_elements, distance_to, next, others, Search, search, found, is_farther, all_farther}
use Rattle.searching.specs.Nearest.{distance_found, limit_of, nearest_by, nearest_in}
use Rattle.searching.proofs.Distances.{nearest_position}
use Rattle.searching.proofs.NextBlock.{chosen_every}
use Rattle.searching.proofs.Completion.{farther_next, limit_complete, limit_incomplete}
use Rattle.searching.proofs.TreeBlocks.{Gathered}
use Rattle.searching.proofs.Pruned.{is_near, keep_next, pruned, pruned_complete, pruned_spent, pruned_on, found_kept, held_kept}
use Rattle.searching.proofs.Spread.{spread_kept}
use Rattle.frontier.specs.declared.Entry.{Entry}
use Rattle.frontier.proofs.EntryLaws.{total_ones}
use Rattle.meeting.specs.declared.best.Best.{Best}
use Rattle.meeting.specs.declared.place.Place.{Place}
use Rattle.meeting.specs.Place.{place_code, beyond}
use Rattle.meeting.specs.Best.{best_of}
use Rattle.meeting.specs.Matching.{Matches}
use Rattle.meeting.specs.Meeting.{Added}
use Rattle.bestfirst.specs.declared.Searched.{Searched}
use Rattle.bestfirst.specs.Turns.{distance_in, Turned}
use Rattle.bestfirst.specs.UnderWay.{Reached}
use Rattle.answers.specs.Answer.{values_of}
use Rattle.bestfirst.specs.Searches.{DistanceShown, Stated}
use Rattle.bestfirst.proofs.EntryOrder.{distance_told}
use Rattle.bestfirst.proofs.Stating.{distance_below, stated_values}
use Rattle.bestfirst.proofs.Aimed.{matches_join, few_entries, Aimed}

module _ {words set : List ℕ} (holds : Holds words set) (layout : Layout) (place : Place) (budget : ℕ) where
  abbrev P : ℕ
  P = place_code place

  abbrev valid : Valid (panel_of (sizes_of words))
  valid = holds.sound.usable.valid.panel

  module _ {queue : List Entry} {opened : ℕ} {best : Best} {e : Entry} (a : Aimed holds layout place budget queue opened best e) where
    abbrev here : Search
    here = search (a.head ∷ a.rest) a.done

    abbrev block : BlockOf
    block = next P a.head a.rest

    by_found : (o : Option ℕ) → found P here ≡ o → best ≡ best_of P o
    by_found o f = a.best_is ∙ ap (best_of P) f

    tested : is_farther P (found P here) block ≡ all_farther P (found P here) (a.head ∷ a.rest)
    tested = sym (farther_next P (found P here) a.head a.rest)

    block_below : distance_to P block < beyond
    block_below =
        let g : Gathered (panel_of (sizes_of words)) (member set) valid block = (chosen_every P (Gathered (panel_of (sizes_of words)) (member set) valid) a.head a.rest a.spread.gathered.0 a.spread.gathered.1).0 in
        let p = nearest_position (panel_of (sizes_of words)) P block.level block.code valid g.of_panel in
        omega (arith, p.reached, distance_below P p.position)

    -- a pixel is found, and the next block is farther
    pub values_complete : {r : Searched} → best.distance < distance_in e → (n : Stated best opened best.distance true r) → values_of n.nearest ≡ nearest_in (held_tree words set) P budget
    values_complete l n = go (found P here) refl
      where
        go : (o : Option ℕ) → found P here ≡ o → values_of n.nearest ≡ nearest_in (held_tree words set) P budget
        go none g = absurd (omega (arith, l, ap (λ (b : Best). b.distance) (by_found none g), distance_told a.is, block_below))
        go (some p) g =
            let d : best.distance ≡ squared_distance P p = ap (λ (b : Best). b.distance) (by_found (some p) g) in
            let far : is_farther P (some p) block ≡ true = lt-ltb (squared_distance P p) (distance_to P block) (omega (arith, l, d, distance_told a.is)) in
            let c : all_farther P (some p) (a.head ∷ a.rest) ≡ true = farther_next P (some p) a.head a.rest ∙ far in
            let c' : all_farther P (found P here) (a.head ∷ a.rest) ≡ true = subst (λ (o : Option ℕ). all_farther P o (a.head ∷ a.rest) ≡ true) (sym g) c in
            stated_values n P here (some p) g (by_found (some p) g) a.opened_is (limit_complete P p (a.head ∷ a.rest) c ∙ sym d) c
            ∙ ap (λ (s : Search). nearest_by P s) (sym (pruned_complete P a.left here c')) ∙ a.answers

    incomplete : distance_in e ≤ best.distance → (o : Option ℕ) → found P here ≡ o → is_farther P o block ≡ false
    incomplete h none g = refl
    incomplete h (some p) g = le-ltb (squared_distance P p) (distance_to P block) (omega (arith, h, distance_told a.is, ap (λ (b : Best). b.distance) (by_found (some p) g)))

    -- the budget is spent
    pub values_spent : {r : Searched} → budget ≤ opened → distance_in e ≤ best.distance → (n : Stated best opened (distance_in e) false r)
        → values_of n.nearest ≡ nearest_in (held_tree words set) P budget
    values_spent h l n =
        let i : is_farther P (found P here) block ≡ false = incomplete l (found P here) refl in
        let z : a.left ≡ 0 = omega (arith, a.spends) in
        stated_values n P here (found P here) refl a.best_is a.opened_is (limit_incomplete P (found P here) a.head a.rest i ∙ sym (distance_told a.is)) (sym tested ∙ i)
        ∙ ap (λ (s : Search). nearest_by P s) (sym (pruned_spent P here)) ∙ ap (λ (n : ℕ). nearest_by P (pruned P n here)) (sym z) ∙ a.answers

    pub few_opened : opened < layout.slots
    few_opened = omega (arith, a.counted, a.opened_is)

    -- the next block is opened
    pub go_on : {after : List Entry} {best' : Best} → opened < budget → distance_in e ≤ best.distance
        → Turned words layout P e best queue best' after → Reached holds layout place budget after (opened + 1) best'
    go_on {after} {best'} h near t =
        let f = found_kept P a.head a.rest a.done in
        let added : Added layout.width layout.slots words P (found P (keep_next P here)) queue block.elements after =
        subst (λ (o : Option ℕ). Added layout.width layout.slots words P o queue block.elements after) (sym f)
        (t.added block a.is (found P here) a.best_is) in
        let i : all_farther P (found P here) (a.head ∷ a.rest) ≡ false = sym tested ∙ incomplete near (found P here) refl in
        let left : ℕ = a.left - 1 in
        let more : a.left ≡ suc left = omega (arith, a.spends) in
        record {
          state = keep_next P here;
          entries = added.new ++ a.entries;
          matched = matches_join layout.width layout.slots words P (select (is_near P (found P (keep_next P here))) (block_elements block.elements)) (others P a.head a.rest) added.new a.entries added.matched a.matched;
          same = λ number. omega (arith, added.sum number, a.same number, total_join number added.new a.entries);
          spread = spread_kept (panel_of (sizes_of words)) set valid P here a.spread;
          best_is = t.nearest block a.is (found P here) a.best_is ∙ ap (best_of P) (sym f);
          opened_is = omega (arith, length-append a.done (block ∷ []), a.opened_is);
          left = left;
          spends = omega (arith, a.spends);
          answers = ap (nearest_by P) (sym (pruned_on P left here i)) ∙ ap (λ (n : ℕ). nearest_by P (pruned P n here)) (sym more) ∙ a.answers;
          counted = omega (arith, held_kept P here, a.counted);
        }

  -- no more blocks are met than there are slots
  pub few_met : {queue : List Entry} {opened : ℕ} {best : Best} → Reached holds layout place budget queue opened best → length queue ≤ layout.slots
  few_met {queue} q =
      omega (arith, total_ones queue, q.same (λ e. 1), few_entries layout.width layout.slots words P q.state.met q.entries q.matched, q.counted)

  -- nothing is left to open
  pub values_over : {queue : List Entry} {opened limit : ℕ} {best : Best} {r : Searched} → length queue ≤ 0 → Reached holds layout place budget queue opened best
      → DistanceShown best.distance limit → (n : Stated best opened limit true r) → values_of n.nearest ≡ nearest_in (held_tree words set) P budget
  values_over {queue} {opened} {limit} {best} over q d n = go q.state.met q.entries refl q.matched (omega (arith, over, total_ones queue, q.same (λ e. 1)))
    where
      last : (o : Option ℕ) → limit_of P o [] ≡ distance_found P o
      last none = refl
      last (some p) = refl

      go : (l : List BlockOf) (es : List Entry) → q.state.met ≡ l → Matches layout.width layout.slots words P l es → 0 ≡ total (λ e. 1) es
          → values_of n.nearest ≡ nearest_in (held_tree words set) P budget
      go (b ∷ l) [] f m z = absurd m
      go (b ∷ l) (e ∷ es) f m z = absurd (omega arith)
      go [] es f m z =
          let o : Option ℕ = found P q.state in
          let c : all_farther P o q.state.met ≡ true = ap (all_farther P o) f in
          stated_values n P q.state o refl q.best_is q.opened_is
          (ap (limit_of P o) f ∙ last o ∙ sym (d.says P o (ap (λ (b : Best). b.distance) q.best_is))) c
          ∙ ap (λ (s : Search). nearest_by P s) (sym (pruned_complete P q.left q.state c)) ∙ q.answers
