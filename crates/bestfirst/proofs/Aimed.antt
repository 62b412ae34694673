-- Where a search on a sound store is when the least entry is taken out: the block to open next, and that the answer is still the same.
use Prim.Native.Nat.{ℕ, ◌+◌, ◌≤◌}
use native.Mathlib.Omega.{arith}
use mathlib.Core.Path.{◌≡◌, refl, sym, subst}
use mathlib.Core.List.{List, [], ◌∷◌, ◌++◌}
use lib.ListN.{length}
use Rattle.pktree.specs.Lists.{total}
use Rattle.pktree.specs.Panel.{Panel, Valid}
use Rattle.pktree.specs.Tree.{BlockOf}
use Rattle.measures.specs.declared.sizes.Layout.{Layout}
use Rattle.measures.specs.Sizes.{panel_of, sizes_of}
use Rattle.store.specs.Sound.{Holds}
use Rattle.walks.proofs.RootWalk.{held_tree}
use Rattle.searching.specs.Search.{next, others, search, found}
use Rattle.searching.specs.Nearest.{nearest_by, nearest_in}
use Rattle.searching.proofs.OpenedPixels.{held_by}
use Rattle.searching.proofs.Pruned.{pruned}
use Rattle.searching.proofs.Spread.{Spread}
use Rattle.frontier.specs.declared.Entry.{Entry}
use Rattle.frontier.specs.Entries.{Taken}
use Rattle.meeting.specs.declared.best.Best.{Best}
use Rattle.meeting.specs.declared.place.Place.{Place}
use Rattle.meeting.specs.Place.{place_code}
use Rattle.meeting.specs.Best.{best_of}
use Rattle.meeting.specs.Matching.{EntryOf, Matches}
use Rattle.bestfirst.specs.UnderWay.{Reached}
use Rattle.bestfirst.proofs.LeastEntries.{TakenFrom, least_taken, rest_taken}
use Rattle.bestfirst.proofs.EntryOrder.{matches_next, keys_apart}

module _ (width slots : ℕ) (words : List ℕ) (place : ℕ) where
  abbrev Stand : List BlockOf → List Entry → Type 0
  Stand = Matches width slots words place

  pub matches_join : (l m : List BlockOf) (p q : List Entry) → Stand l p → Stand m q → Stand (l ++ m) (p ++ q)
  matches_join [] m [] q h g = g
  matches_join [] m (e ∷ p) q h g = absurd h
  matches_join (b ∷ l) m [] q h g = absurd h
  matches_join (b ∷ l) m (e ∷ p) q h g = (h.0, matches_join l m p q h.1 g)

  -- there are no more entries than blocks held by those met
  pub few_entries : (l : List BlockOf) (q : List Entry) → Stand l q → total (λ e. 1) q ≤ total held_by l
  few_entries [] [] h = omega arith
  few_entries [] (e ∷ q) h = absurd h
  few_entries (b ∷ l) [] h = absurd h
  few_entries (b ∷ l) (e ∷ q) h = omega (arith, few_entries l q h.1)

  -- and none where no block is met
  pub no_entries : (q : List Entry) → Stand [] q → total (λ e. 1) q ≡ 0
  no_entries [] h = refl
  no_entries (e ∷ q) h = absurd h

module _ {words set : List ℕ} (holds : Holds words set) (layout : Layout) (place : Place) (budget : ℕ) where
  abbrev P : ℕ
  P = place_code place

  abbrev panel : Panel
  panel = panel_of (sizes_of words)

  abbrev valid : Valid panel
  valid = holds.sound.usable.valid.panel

  pub record Aimed (queue : List Entry) (opened : ℕ) (best : Best) (e : Entry) : Type 0 where
    pub head : BlockOf
    pub rest : List BlockOf
    pub done : List BlockOf
    pub is : EntryOf layout.width layout.slots words P (next P head rest) e
    pub entries : List Entry
    pub matched : Matches layout.width layout.slots words P (others P head rest) entries
    pub same : (number : Entry → ℕ) → total number queue ≡ total number entries
    pub spread : Spread panel set valid P (head ∷ rest)
    pub best_is : best ≡ best_of P (found P (search (head ∷ rest) done))
    pub opened_is : length done ≡ opened
    pub left : ℕ
    pub spends : opened + left ≡ budget
    pub answers : nearest_by P (pruned P left (search (head ∷ rest) done)) ≡ nearest_in (held_tree words set) P budget
    pub counted : length done + total held_by (head ∷ rest) ≤ layout.slots

  pub aim : {before after : List Entry} {opened : ℕ} {best : Best} {e : Entry} → Reached holds layout place budget before opened best → Taken before after e → Aimed after opened best e
  aim {before} {after} {opened} {best} {e} r taken =
      go r.state.met r.state.opened r.entries r.matched r.same r.spread r.best_is r.opened_is r.answers r.counted
    where
      go : (l done : List BlockOf) (q : List Entry) → Matches layout.width layout.slots words P l q → ((number : Entry → ℕ) → total number before ≡ total number q)
          → Spread panel set valid P l → best ≡ best_of P (found P (search l done)) → length done ≡ opened
          → nearest_by P (pruned P r.left (search l done)) ≡ nearest_in (held_tree words set) P budget → length done + total held_by l ≤ layout.slots
          → Aimed after opened best e
      go [] done q m same spread b o a c = absurd (omega (arith, same (λ f. 1), taken.one_less (λ f. 1), no_entries layout.width layout.slots words P q m))
      go (h ∷ l) done [] m same spread b o a c = absurd m
      go (h ∷ l) done (x ∷ q) m same spread b o a c =
          let of : TakenFrom x q before after e = record {
            apart = keys_apart layout.width layout.slots words P (h ∷ l) (x ∷ q) m spread.apart;
            same = same;
            taken = taken.one_less;
            least = taken.least;
          } in
          let n = matches_next layout.width layout.slots words P h l x q m.0 m.1 in
          record {
            head = h;
            rest = l;
            done = done;
            is = subst (EntryOf layout.width layout.slots words P (next P h l)) (sym (least_taken of)) n.0;
            entries = _;
            matched = n.1;
            same = rest_taken of;
            spread = spread;
            best_is = b;
            opened_is = o;
            left = r.left;
            spends = r.spends;
            answers = a;
            counted = c;
          }
