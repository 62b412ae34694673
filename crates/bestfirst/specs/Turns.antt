-- What opening the next block does.
use Rattle.std.specs.Prelude.{ℕ, ◌*◌, ◌/◌, ◌%◌, ◌<◌, ◌≡◌, List, Result, Ok, Err}
use Rattle.std.proofs.Math.Option.{Option}
use Rattle.pktree.specs.Tree.{BlockOf}
use Rattle.measures.specs.declared.sizes.Layout.{Layout}
use Rattle.elements.specs.Element.{tag_slot, tag_level}
use Rattle.store.specs.declared.Damaged.{Damaged}
use Rattle.store.specs.Opening.{CannotOpen}
use Rattle.searching.specs.Search.{pixel_elements, nearest_of}
use Rattle.frontier.specs.declared.Entry.{Entry}
use Rattle.meeting.specs.declared.best.Best.{Best}
use Rattle.meeting.specs.declared.place.Place.{Place}
use Rattle.meeting.specs.Place.{place_code}
use Rattle.meeting.specs.Best.{best_of}
use Rattle.meeting.specs.Matching.{key_codes, EntryOf}
use Rattle.meeting.specs.Meeting.{Added}

-- the code and the distance that an entry's key says
abbrev pub code_in : Entry → ℕ
code_in e = e.key % key_codes * 4

abbrev pub distance_in : Entry → ℕ
distance_in e = e.key / key_codes

-- the block of an entry cannot be opened
abbrev pub Shut : Layout → List ℕ → Entry → Type 0
Shut layout words e = CannotOpen layout.width words (tag_slot e.tag) (tag_level e.tag) (code_in e)

-- the pixel found after the elements of the block, and the blocks among them, of a block that stands in the store
pub record Turned (words : List ℕ) (layout : Layout) (place : ℕ) (next : Entry) (best : Best) (before : List Entry) (best' : Best) (after : List Entry) : Type 0 where
  pub nearest : (b : BlockOf) → EntryOf layout.width layout.slots words place b next → (o : Option ℕ) → best ≡ best_of place o
      → best' ≡ best_of place (nearest_of place o (pixel_elements b.elements))
  pub added : (b : BlockOf) → EntryOf layout.width layout.slots words place b next → (o : Option ℕ) → best ≡ best_of place o
      → Added layout.width layout.slots words place (nearest_of place o (pixel_elements b.elements)) before b.elements after

abbrev pub TurnCase : List ℕ → Layout → Place → Entry → ℕ → Best → List Entry → List Entry → Result Best Damaged → Type 0
TurnCase words layout place next opened best before after (Ok best') =
    (opened < layout.slots) × (Shut layout words next → ⊥) × Turned words layout (place_code place) next best before best' after
TurnCase words layout place next opened best before after (Err _) =
    (b : BlockOf) → EntryOf layout.width layout.slots words (place_code place) b next → opened < layout.slots → ⊥

pub record TurnMeets (words : List ℕ) (layout : Layout) (place : Place) (next : Entry) (opened : ℕ) (best : Best) (before after : List Entry) (r : Result Best Damaged) : Type 0 where
  pub case : TurnCase words layout place next opened best before after r
