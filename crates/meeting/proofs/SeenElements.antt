-- The nearest pixel after one element, and after the first i elements of a block.
use Prim.Native.Nat.{ℕ, ◌+◌, ◌≤◌, ◌<◌}
use mathlib.Core.Path.{◌≡◌, refl, ap, sym, ◌∙◌}
use mathlib.Core.Option.{Option}
use mathlib.Core.List.{List, ◌∷◌, ◌++◌}
use Rattle.pktree.specs.Elements.{Forest, empty, pixel, block_at, ◌⧺◌, unlabelled}
use Rattle.elements.specs.declared.Element.{Element}
use Rattle.elements.specs.declared.Element.TheVariants.{Pixel}
use Rattle.elements.specs.Element.{element_at, named}
use Rattle.store.specs.Placed.{Placed}
use Rattle.store.proofs.PassedElements.{OneElement, is_pixel_lem, is_block}
use Rattle.searching.specs.Search.{pixel_elements, nearest_of}
use Rattle.searching.proofs.NearestPixel.{nearest_append}
use Rattle.meeting.specs.declared.best.Best.{Best}
use Rattle.meeting.specs.declared.place.Place.{Place}
use Rattle.meeting.specs.Place.{place_code}
use Rattle.meeting.specs.Best.{best_of, AfterPixel, nearer_element, AfterElement, AfterElements}
use Rattle.meeting.proofs.PassedTo.{PassedTo, passed_none, passed_one, passed_all}

module _ {place : Place} {best : Best} {element : Element} where
  pub pixel_seen : {code : ℕ} {r : Best} → element ≡ Pixel code → AfterPixel place best code r → AfterElement place best element r
  pixel_seen e after = record { says = λ o h. rw e (after.says o h) }

  pub block_seen : {slot level code : ℕ} → element ≡ named slot level code → AfterElement place best element best
  block_seen e = record { says = λ o h. rw e h }

-- the nearest pixel is r after these elements
abbrev Nearest : Place → Best → Best → Forest → Type 0
Nearest place best r f = (o : Option ℕ) → best ≡ best_of (place_code place) o → r ≡ best_of (place_code place) (nearest_of (place_code place) o (pixel_elements f))

pub record SeenTo (place : Place) (best : Best) (part : List ℕ) (count i : ℕ) (r : Best) : Type 0 where
  pub passed : (level : ℕ) → PassedTo part count level i (λ width slots words. Nearest place best r)

pixels_join : (f g : Forest) → pixel_elements (f ⧺ g) ≡ pixel_elements f ++ pixel_elements g
pixels_join empty g = refl
pixels_join (pixel c f) g = ap (c ∷◌) (pixels_join f g)
pixels_join (block_at u i c es f) g = pixels_join f g

one_nearest : (place : ℕ) (o : Option ℕ) {k width slots : ℕ} {words : List ℕ} {level code : ℕ} {x : Element} {g : Placed} → OneElement k width slots words level code x g
    → nearer_element place o x ≡ nearest_of place o (pixel_elements (unlabelled g))
one_nearest place o (is_pixel_lem c) = refl
one_nearest place o (is_block s i c fs child) = refl

module _ {place : Place} {best : Best} {part : List ℕ} {count : ℕ} where
  pub seen_none : SeenTo place best part count 0 best
  seen_none = record { passed = λ level. passed_none _ (λ width slots words o h. h) }

  pub seen_one : {i : ℕ} {r r' : Best} → i < count → SeenTo place best part count i r → AfterElement place r (element_at part i) r' → SeenTo place best part count (i + 1) r'
  seen_one below to after =
      record {
        passed = λ level. passed_one (to.passed level) _ below (λ k width slots words code f g one done o h.
            after.says (nearest_of (place_code place) o (pixel_elements f)) (done o h)
            ∙ ap (best_of (place_code place)) (one_nearest (place_code place) (nearest_of (place_code place) o (pixel_elements f)) one
            ∙ sym (nearest_append (place_code place) o (pixel_elements f) (pixel_elements (unlabelled g)))
            ∙ ap (nearest_of (place_code place) o) (sym (pixels_join f (unlabelled g)))));
      }

  pub seen_all : {i : ℕ} {r : Best} → count ≤ i → SeenTo place best part count i r → AfterElements place best part count r
  seen_all end to = record { says = λ width slots words level es shown. passed_all (to.passed level) end width slots words es shown }
