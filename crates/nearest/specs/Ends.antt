-- The places that a search is lent, and what it answers once it went on to its end.
use Rattle.std.specs.Prelude.{ℕ, ◌+◌, ◌≡◌, List, Result, Ok, Err}
use Rattle.pktree.specs.Elements.{Forest}
use Rattle.measures.specs.declared.sizes.Layout.{Layout}
use Rattle.measures.specs.Layout.{most_elements, most_slots}
use Rattle.store.specs.declared.Damaged.{Damaged}
use Rattle.store.specs.Sound.{Holds}
use Rattle.walks.proofs.RootWalk.{held_tree}
use Rattle.searching.specs.Nearest.{nearest_in}
use Rattle.answers.specs.declared.Refusal.{Refusal}
use Rattle.answers.specs.declared.Refusal.TheVariants.{StoreDamaged}
use Rattle.answers.specs.declared.Nearest.{Nearest}
use Rattle.answers.specs.Answer.{values_of}
use Rattle.meeting.specs.declared.place.Place.{Place}
use Rattle.meeting.specs.Place.{place_code}
use Rattle.bestfirst.specs.Searches.{Closes}

-- as many places for the blocks met and not opened at one time as any search needs
abbrev pub many_places : ℕ
many_places = most_slots + most_elements

-- damage is refused with 13
abbrev pub answer_of : Result Nearest Damaged → Result Nearest Refusal
answer_of (Ok nearest) = Ok nearest
answer_of (Err _) = Err StoreDamaged

-- a search that went on to its end
abbrev pub EndRight : Forest → ℕ → ℕ → Result Nearest Damaged → Type 0
EndRight tree place budget (Ok n) = values_of n ≡ nearest_in tree place budget
EndRight tree place budget (Err _) = ⊥

abbrev pub EndCase : List ℕ → ℕ → ℕ → Result Nearest Damaged → Type 0
EndCase words slots budget (Ok n) = Closes words slots budget n.opened
EndCase words slots budget (Err _) = Unit {0}

pub record SearchEnds (words : List ℕ) (layout : Layout) (place : Place) (budget : ℕ) (r : Result Nearest Damaged) : Type 0 where
  pub right : (set : List ℕ) → Holds words set → EndRight (held_tree words set) (place_code place) budget r
  pub case : EndCase words layout.slots budget r
