-- A search under way: what the frontier holds, and that what was opened and what is left to open still lead to the same answer.
use Rattle.std.specs.Prelude.{ℕ, ◌+◌, ◌/◌, ◌%◌, ◌≤◌, ◌<◌, ◌≡◌, List, [], ◌∷◌, length}
use Rattle.pktree.specs.Lists.{total}
use Rattle.measures.specs.declared.sizes.Layout.{Layout}
use Rattle.measures.specs.Layout.{LaidOut}
use Rattle.measures.specs.Sizes.{panel_of, sizes_of}
use Rattle.store.specs.Opening.{RootCannotOpen}
use Rattle.store.specs.Sound.{Holds}
use Rattle.walks.proofs.RootWalk.{held_tree}
use Rattle.searching.specs.Search.{Search, found}
use Rattle.searching.specs.Nearest.{nearest_by, nearest_in}
use Rattle.searching.proofs.OpenedPixels.{held_by}
use Rattle.searching.proofs.Pruned.{pruned}
use Rattle.searching.proofs.Spread.{Spread}
use Rattle.frontier.specs.declared.Entry.{Entry}
use Rattle.meeting.specs.declared.best.Best.{Best}
use Rattle.meeting.specs.declared.place.Place.{Place}
use Rattle.meeting.specs.Place.{place_code, beyond}
use Rattle.meeting.specs.Best.{best_of}
use Rattle.meeting.specs.Matching.{key_codes, tag_of, Matches}
use Rattle.bestfirst.specs.declared.Progress.{Progress}

-- on a sound store, when the frontier holds these entries
pub record Reached {words set : List ℕ} (holds : Holds words set) (layout : Layout) (place : Place) (budget : ℕ) (queue : List Entry) (opened : ℕ) (best : Best) : Type 0 where
  pub state : Search
  pub entries : List Entry
  pub matched : Matches layout.width layout.slots words (place_code place) state.met entries
  pub same : (number : Entry → ℕ) → total number queue ≡ total number entries
  pub spread : Spread (panel_of (sizes_of words)) set holds.sound.usable.valid.panel (place_code place) state.met
  pub best_is : best ≡ best_of (place_code place) (found (place_code place) state)
  pub opened_is : length state.opened ≡ opened
  pub left : ℕ
  pub spends : opened + left ≡ budget
  pub answers : nearest_by (place_code place) (pruned (place_code place) left state) ≡ nearest_in (held_tree words set) (place_code place) budget
  pub counted : length state.opened + total held_by state.met ≤ layout.slots

-- the root's entry is the only one, and nothing was opened yet
pub record AtStart (order : ℕ) (queue : List Entry) (opened : ℕ) (best : Best) : Type 0 where
  pub opened_none : opened ≡ 0
  pub none_found : best.distance ≡ beyond
  pub root : Entry
  pub alone : queue ≡ root ∷ []
  pub below : root.key / key_codes < beyond
  pub code_is : root.key % key_codes ≡ 0
  pub tag_is : root.tag ≡ tag_of 0 order

-- on any words: where it is for each set that they may hold; and where the root cannot be opened, that it has not been
pub record Going (words : List ℕ) (layout : Layout) (place : Place) (budget : ℕ) (queue : List Entry) (opened : ℕ) (best : Best) : Type 0 where
  pub reached : (set : List ℕ) (holds : Holds words set) → Reached holds layout place budget queue opened best
  pub first : RootCannotOpen words → AtStart (sizes_of words).order queue opened best

-- so many blocks opened, and the nearest pixel
abbrev pub progress : ℕ → Best → Progress
progress opened best = record { opened = opened; best = best }

-- a search that is so far, with these entries, can go on
pub record UnderWay (words : List ℕ) (layout : Layout) (place : Place) (budget : ℕ) (queue : List Entry) (at : Progress) : Type 0 where
  pub spent : at.opened ≤ budget
  pub few : at.opened ≤ layout.slots
  pub going : Going words layout place budget queue at.opened at.best

-- no pixel found yet
abbrev pub no_best : Best
no_best = record { distance = beyond; code = 0 }

-- the root of this order is met: so a search begins, in whatever store
pub record RootMet (order : ℕ) (place : Place) (start : List Entry) : Type 0 where
  pub begins : (words : List ℕ) (layout : Layout) (budget : ℕ) → order ≡ (sizes_of words).order → LaidOut (sizes_of words) layout
      → UnderWay words layout place budget start (progress 0 no_best)
