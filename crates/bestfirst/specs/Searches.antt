-- What a search answers.
use Rattle.std.specs.Prelude.{ℕ, ◌+◌, ◌≤◌, ◌<◌, ◌≡◌, Bool, List, Result, Ok, Err}
use Rattle.std.specs.Prelude as prelude
use Rattle.std.proofs.Math.Option.{Option}
use Rattle.pktree.specs.Elements.{Forest}
use Rattle.measures.specs.declared.sizes.Layout.{Layout}
use Rattle.measures.specs.Layout.{most_elements}
use Rattle.store.specs.declared.Damaged.{Damaged}
use Rattle.store.specs.Opening.{RootCannotOpen}
use Rattle.store.specs.Sound.{Holds}
use Rattle.walks.proofs.RootWalk.{held_tree}
use Rattle.searching.specs.Nearest.{is_some, code_found, distance_found, nearest_in}
use Rattle.answers.specs.declared.NearPixel.{NearPixel}
use Rattle.answers.specs.declared.Nearest.{Nearest}
use Rattle.answers.specs.Answer.{pixel_told, values_of}
use Rattle.frontier.specs.declared.Entry.{Entry}
use Rattle.meeting.specs.declared.best.Best.{Best}
use Rattle.meeting.specs.declared.place.Place.{Place}
use Rattle.meeting.specs.Place.{place_code}
use Rattle.meeting.specs.Best.{best_of}
use Rattle.bestfirst.specs.declared.Searched.{Searched}
use Rattle.bestfirst.specs.declared.Searched.TheVariants.{Known, Full}
use Rattle.bestfirst.specs.UnderWay.{UnderWay}

-- the zeros where nothing was found
pub record DistanceShown (distance r : ℕ) : Type 0 where
  pub says : (place : ℕ) (o : Option ℕ) → distance ≡ (best_of place o).distance → r ≡ distance_found place o

-- the pixel found, and none where nothing was found
pub record PixelShown (best : Best) (r : prelude.Option NearPixel) : Type 0 where
  pub says : (place : ℕ) (o : Option ℕ) → best ≡ best_of place o
      → (prelude.is_some r ≡ is_some o) × ((pixel_told r).code ≡ code_found o) × ((pixel_told r).distance ≡ distance_found place o)

pub record Stated (best : Best) (opened limit : ℕ) (complete : Bool) (r : Searched) : Type 0 where
  pub nearest : Nearest
  pub is : r ≡ Known nearest
  pub opened_is : nearest.opened ≡ opened
  pub says : (place : ℕ) (o : Option ℕ) → best ≡ best_of place o
      → values_of nearest ≡ record { is_found = is_some o; code = code_found o; distance = distance_found place o; opened = opened; limit = limit; complete = complete }

-- on a sound store: full only among fewer places than the slots need
abbrev pub SearchRight : Forest → ℕ → ℕ → ℕ → ℕ → Result Searched Damaged → Type 0
SearchRight tree place budget places slots (Ok (Known n)) = values_of n ≡ nearest_in tree place budget
SearchRight tree place budget places slots (Ok (Full at)) = places < slots + most_elements
SearchRight tree place budget places slots (Err _) = ⊥

-- on any words: the values of a search that ended
pub record Closes (words : List ℕ) (slots budget opened : ℕ) : Type 0 where
  pub to_budget : opened ≤ budget
  pub to_slots : opened ≤ slots
  pub root_opened : 1 ≤ budget → RootCannotOpen words → ⊥

-- where it stopped for want of room, it can go on
abbrev pub SearchCase : List ℕ → Layout → Place → ℕ → List Entry → Result Searched Damaged → Type 0
SearchCase words layout place budget after (Ok (Known n)) = Closes words layout.slots budget n.opened
SearchCase words layout place budget after (Ok (Full at)) = UnderWay words layout place budget after at
SearchCase words layout place budget after (Err _) = Unit {0}

pub record SearchMeets (words : List ℕ) (layout : Layout) (place : Place) (budget places : ℕ) (after : List Entry) (r : Result Searched Damaged) : Type 0 where
  pub right : (set : List ℕ) → Holds words set → SearchRight (held_tree words set) (place_code place) budget places layout.slots r
  pub case : SearchCase words layout place budget after r
