-- How a search begins, and its loop from turn to turn.
use Rattle.std.specs.Prelude.{Result, Ok, Err}
use Rattle.std.specs.Result.{IsErr}
use Prim.Native.Nat.{ℕ, ◌+◌, ◌-◌, ◌≤◌, ◌<◌}
use native.Mathlib.Omega.{arith}
use mathlib.Core.Path.{◌≡◌, sym, subst}
use mathlib.Core.Bool.{true, false, false≢true}
use mathlib.Core.List.{List, [], ◌∷◌}
use lib.ListN.{length}
use Rattle.measures.specs.declared.sizes.Layout.{Layout}
use Rattle.measures.specs.Layout.{LaidOut, most_elements}
use Rattle.measures.specs.Sizes.{sizes_of}
use Rattle.store.specs.declared.Damaged.{Damaged}
use Rattle.frontier.specs.declared.Entry.{Entry}
use Rattle.frontier.specs.Entries.{entry, Taken}
use Rattle.meeting.specs.declared.best.Best.{Best}
use Rattle.meeting.specs.declared.place.Place.{Place}
use Rattle.meeting.specs.Place.{ToBlock}
use Rattle.meeting.specs.Meeting.{KeyIs, TagIs}
use Rattle.bestfirst.specs.declared.Searched.{Searched}
use Rattle.bestfirst.specs.declared.Searched.TheVariants.{Full}
use Rattle.bestfirst.specs.Turns.{distance_in, TurnMeets}
use Rattle.bestfirst.specs.UnderWay.{progress, UnderWay, RootMet}
use Rattle.bestfirst.specs.Searches.{DistanceShown, Stated, SearchMeets}
use Rattle.bestfirst.proofs.SearchSteps.{few_met}
use Rattle.bestfirst.proofs.Going.{Ended, going_start, going_next, ends_complete, ends_spent, goes_further, not_damaged, ends_over}

pub root_met : {order : ℕ} {place : Place} {far key tag : ℕ} {start : List Entry} → start ≡ entry key tag ∷ [] → ToBlock place order 0 far → KeyIs far 0 key → TagIs 0 order tag
    → RootMet order place start
root_met {order} {place} alone to k t =
    subst (RootMet order place) (sym alone)
    (record { begins = λ words layout budget said laid. record { spent = omega arith; few = omega arith; going = going_start said laid to k t } })

module _ {words : List ℕ} {layout : Layout} {place : Place} {budget : ℕ} where
  known_meets : {places : ℕ} {after : List Entry} {r : Searched} → Ended words layout place budget r → SearchMeets words layout place budget places after (Ok r)
  known_meets n = rw n.is (record { right = n.right; case = n.closes })

  module _ {queue : List Entry} {opened : ℕ} {best : Best} (places : ℕ) (s : UnderWay words layout place budget queue (progress opened best)) where
    pub loop_full : length queue ≤ places → places - length queue < most_elements → SearchMeets words layout place budget places queue (Ok (Full (progress opened best)))
    loop_full within h = record { right = λ set holds. omega (arith, h, within, few_met holds layout place budget (s.going.reached set holds)); case = s }

    pub loop_over : {limit : ℕ} {r : Searched} → length queue ≤ 0 → DistanceShown best.distance limit → Stated best opened limit true r
        → SearchMeets words layout place budget places queue (Ok r)
    loop_over h d n = known_meets (ends_over s.spent s.few h s.going d n)

    module _ {rest : List Entry} {e : Entry} (taken : Taken queue rest e) where
      pub loop_complete : {r : Searched} → best.distance < distance_in e → Stated best opened best.distance true r → SearchMeets words layout place budget places rest (Ok r)
      loop_complete l n = known_meets (ends_complete (going_next s.going taken) s.spent s.few l n)

      pub loop_spent : {r : Searched} → budget ≤ opened → distance_in e ≤ best.distance → Stated best opened (distance_in e) false r
          → SearchMeets words layout place budget places rest (Ok r)
      loop_spent h l n = known_meets (ends_spent (going_next s.going taken) s.spent s.few h l n)

      -- the words are damaged
      pub loop_damaged : {after : List Entry} {d : Damaged} → TurnMeets words layout place e opened best rest after (Err d) → (r : Result Searched Damaged) → IsErr r
          → SearchMeets words layout place budget places after r
      loop_damaged turned (Ok u) h = absurd (false≢true h)
      loop_damaged turned (Err d) h = record { right = not_damaged (going_next s.going taken) turned; case = tt }

      pub loop_goes_on : {after : List Entry} {best' : Best} → LaidOut (sizes_of words) layout → TurnMeets words layout place e opened best rest after (Ok best') → opened < budget
          → distance_in e ≤ best.distance → UnderWay words layout place budget after (progress (opened + 1) best')
      loop_goes_on laid turned h l =
          record { spent = omega arith; few = omega (arith, turned.case.0); going = goes_further (going_next s.going taken) laid h l turned }
