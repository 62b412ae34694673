-- Whether bytes are the image of this set of at most N pixels on the panel: a test, by the definition of the image alone.
use Rattle.std.specs.Prelude.{ℕ, Bool, true, false, ◌&&◌, List, [], ◌∷◌, eqb}
use Rattle.pktree.specs.Panel.{Panel}
use Rattle.pktree.specs.Image.{image}
use Rattle.promises.specs.SetTest.{is_set_of}

abbrev pub same_list : List ℕ → List ℕ → Bool
same_list [] [] = true
same_list [] (b ∷ bytes) = false
same_list (a ∷ list) [] = false
same_list (a ∷ list) (b ∷ bytes) = eqb a b && same_list list bytes

abbrev pub is_image_of : Panel → ℕ → List ℕ → List ℕ → Bool
is_image_of panel most bytes set = is_set_of panel most set && same_list (image panel set) bytes
