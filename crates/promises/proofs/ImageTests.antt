-- The test is true exactly where the bytes are the image of the set, and of no other set where it is false.
use Prim.Native.Nat.{ℕ, ◌≤◌}
use native.Mathlib.Omega.{arith}
use mathlib.Core.Path.{◌≡◌, refl, ap₂, subst, sym}
use mathlib.Core.Bool.{true}
use mathlib.Core.List.{List, [], ◌∷◌}
use lib.Dec.{eqb}
use borrow.Author.Tests.{eqb-true, eq-eqb}
use Rattle.measures.specs.Sizes.{largest_most}
use Rattle.pktree.specs.Panel.{Panel, Valid}
use Rattle.pktree.specs.Image.{image}
use Rattle.pktree.proofs.Absurd.{zero_is_not_one}
use Rattle.image.specs.Parts.{pixels_of}
use Rattle.image.proofs.ImageOfSet.{image_tells_pixels, image_is_well_formed}
use Rattle.image.specs.Held.{HasImage, SomeHasImage}
use Rattle.promises.specs.SetTest.{is_set_of}
use Rattle.promises.specs.ImageTest.{same_list, is_image_of}
use Rattle.promises.proofs.SetTests.{both_true, set_says, set_passes}

same_says : (a b : List ℕ) → same_list a b ≡ true → a ≡ b
same_says [] [] e = refl
same_says [] (y ∷ b) e = zero_is_not_one (cc)
same_says (x ∷ a) [] e = zero_is_not_one (cc)
same_says (x ∷ a) (y ∷ b) e = let (p, q) = both_true (eqb x y) (same_list a b) e in ap₂ ◌∷◌ (eqb-true x y p) (same_says a b q)

same_passes : (a : List ℕ) → same_list a a ≡ true
same_passes [] = refl
same_passes (x ∷ a) = rw (eq-eqb x x refl) (same_passes a)

module _ (panel : Panel) (most : ℕ) (bytes : List ℕ) where
  pub test_says : (set : List ℕ) → is_image_of panel most bytes set ≡ true → HasImage panel most bytes set
  test_says set e =
      let (p, s) = both_true (is_set_of panel most set) (same_list (image panel set) bytes) e in
      let (on, room) = set_says panel most set p in
      record { on_panel = on; room = room; is = same_says (image panel set) bytes s }

  test_passes : (set : List ℕ) → HasImage panel most bytes set → is_image_of panel most bytes set ≡ true
  test_passes set h = rw (set_passes panel most set h.on_panel h.room, ← h.is) (same_passes (image panel set))

  -- the set that has this image is that of the entries of level 0
  pub some_passes : Valid panel → most ≤ largest_most → SomeHasImage panel most bytes → is_image_of panel most bytes (pixels_of bytes) ≡ true
  some_passes valid limit s =
      let h = s.has_image in
      let formed = (image_is_well_formed panel s.set bytes valid h.on_panel (omega (arith, h.room)) h.is).formed in
      let e : pixels_of bytes ≡ s.set = image_tells_pixels panel s.set bytes valid h.on_panel formed h.is in
      subst (λ (l : List ℕ). is_image_of panel most bytes l ≡ true) (sym e) (test_passes s.set h)
