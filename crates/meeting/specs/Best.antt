-- The nearest pixel so far, as a struct: beyond every distance while there is none.
use Rattle.std.specs.Prelude.{ℕ, ◌≡◌, List}
use Rattle.std.proofs.Math.Option.{Option, none, some}
use Rattle.pktree.specs.Elements.{unlabelled}
use Rattle.elements.specs.declared.Element.{Element}
use Rattle.elements.specs.declared.Element.TheVariants.{Pixel, Block}
use Rattle.store.specs.Placed.{Placed}
use Rattle.searching.specs.Distance.{squared_distance}
use Rattle.searching.specs.Search.{pixel_elements, nearer, nearest_of}
use Rattle.meeting.specs.declared.best.Best.{Best}
use Rattle.meeting.specs.declared.place.Place.{Place}
use Rattle.meeting.specs.Place.{place_code, beyond}
use Rattle.meeting.specs.Shown.{Shown}

abbrev pub best_of : ℕ → Option ℕ → Best
best_of place none = record { distance = beyond; code = 0 }
best_of place (some p) = record { distance = squared_distance place p; code = p }

pub record AfterPixel (place : Place) (best : Best) (code : ℕ) (r : Best) : Type 0 where
  pub says : (o : Option ℕ) → best ≡ best_of (place_code place) o → r ≡ best_of (place_code place) (nearer (place_code place) o code)

abbrev pub nearer_element : ℕ → Option ℕ → Element → Option ℕ
nearer_element place o (Pixel code) = nearer place o code
nearer_element place o (Block block) = o

pub record AfterElement (place : Place) (best : Best) (element : Element) (r : Best) : Type 0 where
  pub says : (o : Option ℕ) → best ≡ best_of (place_code place) o → r ≡ best_of (place_code place) (nearer_element (place_code place) o element)

-- the nearest pixel after those among the elements of a block
pub record AfterElements (place : Place) (best : Best) (part : List ℕ) (count : ℕ) (r : Best) : Type 0 where
  pub says : (width slots : ℕ) (words : List ℕ) (level : ℕ) (es : Placed) → Shown width slots words part count level es
      → (o : Option ℕ) → best ≡ best_of (place_code place) o → r ≡ best_of (place_code place) (nearest_of (place_code place) o (pixel_elements (unlabelled es)))
