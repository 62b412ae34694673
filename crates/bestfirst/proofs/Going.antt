-- The loop of a search on any words: where it is for each set that they may hold; and where the root cannot be opened, that it has not been.
use Rattle.std.specs.Prelude.{Ok, Err}
use Prim.Native.Nat.{ℕ, ◌+◌, ◌*◌, ◌/◌, ◌%◌, ◌≤◌, ◌<◌}
use native.Mathlib.Omega.{arith}
use mathlib.Core.Path.{◌≡◌, refl, ap, sym, subst, ◌∙◌}
use mathlib.Core.Bool.{Bool, true, false}
use mathlib.Core.List.{List, [], ◌∷◌}
use lib.ListN.{length}
use Rattle.pktree.specs.Lists.{total}
use Rattle.pktree.specs.PixelSet.{member}
use Rattle.pktree.specs.Elements.{empty, block, gather, unlabelled}
use Rattle.pktree.proofs.Forests.{block_count}
use Rattle.pktree.proofs.Unlabelled.{block_count_unlabelled}
use Rattle.measures.specs.declared.sizes.Layout.{Layout}
use Rattle.measures.specs.Layout.{LaidOut}
use Rattle.measures.specs.Sizes.{panel_of, sizes_of}
use Rattle.measures.proofs.Usable.{layout_said}
use Rattle.elements.specs.Element.{tag_slots}
use Rattle.store.specs.declared.Damaged.{Damaged}
use Rattle.store.specs.Opening.{RootCannotOpen}
use Rattle.store.specs.Sound.{Holds}
use Rattle.store.proofs.BlockView.{BlockView, root_view}
use Rattle.store.proofs.SoundView.{sound_view}
use Rattle.store.proofs.Held.{tree_of_held}
use Rattle.walks.proofs.RootWalk.{held_tree}
use Rattle.searching.specs.Search.{block_elements, search}
use Rattle.searching.specs.Nearest.{nearest_in}
use Rattle.searching.proofs.Pruned.{pruned_nearest}
use Rattle.searching.proofs.Spread.{spread_start}
use Rattle.frontier.specs.declared.Entry.{Entry}
use Rattle.frontier.specs.Entries.{entry, Taken}
use Rattle.answers.specs.declared.Nearest.{Nearest}
use Rattle.meeting.specs.declared.best.Best.{Best}
use Rattle.meeting.specs.declared.place.Place.{Place}
use Rattle.meeting.specs.Place.{place_code, beyond, ToBlock}
use Rattle.meeting.specs.Matching.{key_codes, tag_of}
use Rattle.meeting.specs.Meeting.{KeyIs, TagIs}
use Rattle.bestfirst.specs.declared.Searched.{Searched}
use Rattle.bestfirst.specs.declared.Searched.TheVariants.{Known}
use Rattle.bestfirst.specs.Turns.{distance_in, Shut, TurnMeets}
use Rattle.bestfirst.specs.UnderWay.{Reached, AtStart, Going, no_best}
use Rattle.answers.specs.Answer.{values_of}
use Rattle.bestfirst.specs.Searches.{DistanceShown, Stated, Closes}
use Rattle.bestfirst.proofs.Aimed.{Aimed, aim}
use Rattle.bestfirst.proofs.SearchSteps.{values_complete, values_spent, values_over, few_opened, go_on}

nothing_left : (l : List Entry) → total (λ e. 1) l ≡ 0 → l ≡ []
nothing_left [] h = refl
nothing_left (e ∷ l) h = absurd (omega arith)

-- the root's entry was taken out
pub record RootTaken (order opened : ℕ) (best : Best) (e : Entry) : Type 0 where
  pub opened_none : opened ≡ 0
  pub none_found : best.distance ≡ beyond
  pub below : distance_in e < beyond
  pub code_is : e.key % key_codes ≡ 0
  pub tag_is : e.tag ≡ tag_of 0 order

pub record Aiming (words : List ℕ) (layout : Layout) (place : Place) (budget : ℕ) (queue : List Entry) (opened : ℕ) (best : Best) (e : Entry) : Type 0 where
  pub aimed : (set : List ℕ) (holds : Holds words set) → Aimed holds layout place budget queue opened best e
  pub first : RootCannotOpen words → RootTaken (sizes_of words).order opened best e

-- the values are known, and right
pub record Ended (words : List ℕ) (layout : Layout) (place : Place) (budget : ℕ) (r : Searched) : Type 0 where
  pub nearest : Nearest
  pub is : r ≡ Known nearest
  pub right : (set : List ℕ) → Holds words set → values_of nearest ≡ nearest_in (held_tree words set) (place_code place) budget
  pub closes : Closes words layout.slots budget nearest.opened

module _ {words : List ℕ} {layout : Layout} {place : Place} {budget : ℕ} where
  ended : {opened limit : ℕ} {complete : Bool} {best : Best} {r : Searched} (n : Stated best opened limit complete r)
      → ((set : List ℕ) → Holds words set → values_of n.nearest ≡ nearest_in (held_tree words set) (place_code place) budget)
      → opened ≤ budget → opened ≤ layout.slots → (1 ≤ budget → RootCannotOpen words → ⊥) → Ended words layout place budget r
  ended n right spent few shut =
      record {
        nearest = n.nearest;
        is = n.is;
        right = right;
        closes = record { to_budget = omega (arith, n.opened_is, spent); to_slots = omega (arith, n.opened_is, few); root_opened = shut };
      }

  module _ {order far key tag : ℕ} (said : order ≡ (sizes_of words).order) (laid : LaidOut (sizes_of words) layout) (to : ToBlock place order 0 far)
      (k : KeyIs far 0 key) (t : TagIs 0 order tag) where
    start : (set : List ℕ) (holds : Holds words set) → Reached holds layout place budget (entry key tag ∷ []) 0 no_best
    start set holds =
        let (es, v) = sound_view words holds.placed holds.sound in
        let root = root_view words holds.placed es holds.sound v in
        let wide = layout_said words refl laid in
        let is : block (sizes_of words).order 0 (unlabelled es) empty ≡ held_tree words set =
        sym (ap unlabelled v.is) ∙ tree_of_held holds in
        let inside : gather (member set) (sizes_of words).k (sizes_of words).order 0 ≡ unlabelled es = cc is in
        record {
          state = search (block_elements (held_tree words set)) [];
          entries = entry key tag ∷ [];
          matched = (
            record {
              k = (sizes_of words).k;
              slot = 0;
              placed = es;
              view = subst (λ (l : Layout). BlockView (sizes_of words).k l.width l.slots words 0 (sizes_of words).order 0 es) (sym wide) root;
              small = omega arith;
              elements_are = inside;
              key_is = k.is ∙ ap (λ (d : ℕ). d * key_codes + 0 / 4) to.is ∙ rw said;
              tag_is = t.is ∙ ap (tag_of 0) said;
            },
            tt,
          );
          same = λ number. refl;
          spread = spread_start (panel_of (sizes_of words)) set holds.sound.usable.valid.panel (place_code place);
          best_is = refl;
          opened_is = refl;
          left = budget;
          spends = omega arith;
          answers = pruned_nearest (place_code place) budget (search (block_elements (held_tree words set)) []);
          counted = omega (arith, v.few, block_count_unlabelled es, ap block_count inside, ap (λ (l : Layout). l.slots) wide);
        }

    pub going_start : Going words layout place budget (entry key tag ∷ []) 0 no_best
    going_start =
        record {
          reached = start;
          first = λ shut.
              record {
                opened_none = refl;
                none_found = refl;
                root = entry key tag;
                alone = refl;
                below = omega (arith, k.is, to.below);
                code_is = omega (arith, k.is);
                tag_is = omega (arith, t.is, said);
              };
        }

  pub going_next : {before after : List Entry} {opened : ℕ} {best : Best} {e : Entry} → Going words layout place budget before opened best → Taken before after e
      → Aiming words layout place budget after opened best e
  going_next {before} {after} {opened} {best} {e} g taken =
      record {
        aimed = λ set holds. aim holds layout place budget (g.reached set holds) taken;
        first = λ shut. let s = g.first shut in only s (subst (λ (q : List Entry). Taken q after e) s.alone taken);
      }
    where
      only : (s : AtStart (sizes_of words).order before opened best) → Taken (s.root ∷ []) after e → RootTaken (sizes_of words).order opened best e
      only s one =
          let none = nothing_left after (omega (arith, one.one_less (λ e. 1))) in
          let k : s.root.key ≡ e.key = omega (arith, one.one_less (λ e. e.key), ap (total (λ (e : Entry). e.key)) none) in
          let t : s.root.tag ≡ e.tag = omega (arith, one.one_less (λ e. e.tag), ap (total (λ (e : Entry). e.tag)) none) in
          record {
            opened_none = s.opened_none;
            none_found = s.none_found;
            below = omega (arith, k, s.below);
            code_is = omega (arith, k, s.code_is);
            tag_is = omega (arith, t, s.tag_is);
          }

  module _ {queue : List Entry} {opened : ℕ} {best : Best} {e : Entry} (a : Aiming words layout place budget queue opened best e) where
    pub ends_complete : {r : Searched} → opened ≤ budget → opened ≤ layout.slots → best.distance < distance_in e → Stated best opened best.distance true r
        → Ended words layout place budget r
    ends_complete spent few l n =
        ended n (λ set holds. values_complete holds layout place budget (a.aimed set holds) l n) spent few
        (λ h shut. absurd (omega (arith, l, (a.first shut).below, (a.first shut).none_found)))

    pub ends_spent : {r : Searched} → opened ≤ budget → opened ≤ layout.slots → budget ≤ opened → distance_in e ≤ best.distance → Stated best opened (distance_in e) false r
        → Ended words layout place budget r
    ends_spent spent few h l n =
        ended n (λ set holds. values_spent holds layout place budget (a.aimed set holds) h l n) spent few (λ g shut. absurd (omega (arith, g, h, (a.first shut).opened_none)))

    module _ (laid : LaidOut (sizes_of words) layout) where
      root_shut : RootCannotOpen words → Shut layout words e
      root_shut shut =
          let s = a.first shut in
          let slot : e.tag % tag_slots ≡ 0 = omega (arith, s.tag_is) in
          let level : e.tag / tag_slots ≡ (sizes_of words).order = omega (arith, s.tag_is) in
          let code : e.key % key_codes * 4 ≡ 0 = omega (arith, s.code_is) in
          rw (slot, level, code, layout_said words refl laid) shut

      pub goes_further : {after : List Entry} {best' : Best} → opened < budget → distance_in e ≤ best.distance
          → TurnMeets words layout place e opened best queue after (Ok best') → Going words layout place budget after (opened + 1) best'
      goes_further h l t =
          record {
            reached = λ set holds. go_on holds layout place budget (a.aimed set holds) h l t.case.2;
            first = λ shut. absurd (t.case.1 (root_shut shut));
          }

    pub not_damaged : {after : List Entry} {d : Damaged} → TurnMeets words layout place e opened best queue after (Err d) → (set : List ℕ) → Holds words set → ⊥
    not_damaged t set holds = let at = a.aimed set holds in t.case _ at.is (few_opened holds layout place budget at)

  pub ends_over : {queue : List Entry} {opened limit : ℕ} {best : Best} {r : Searched} → opened ≤ budget → opened ≤ layout.slots → length queue ≤ 0
      → Going words layout place budget queue opened best → DistanceShown best.distance limit → Stated best opened limit true r → Ended words layout place budget r
  ends_over spent few h g d n =
      ended n (λ set holds. values_over holds layout place budget h (g.reached set holds) d n) spent few (λ b shut. absurd (omega (arith, h, ap length (g.first shut).alone)))
