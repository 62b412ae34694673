-- The images of the sets that a register can hold.
use Rattle.std.specs.Prelude.{ℕ, ◌+◌, ◌≤◌, ◌≡◌, List, length}
use Rattle.pktree.specs.Panel.{Panel}
use Rattle.pktree.specs.PixelSet.{PixelSet}
use Rattle.pktree.specs.Image.{image}
use Rattle.measures.specs.Sizes.{panel_of, slot_count, sizes_of}
use Rattle.image.specs.Parts.{image_length}

-- a set of at most N pixels on the panel, with these bytes as its image
pub record HasImage (panel : Panel) (most : ℕ) (bytes set : List ℕ) : Type 0 where
  pub on_panel : PixelSet panel set
  pub room : length set ≤ most
  pub is : image panel set ≡ bytes

-- some set has it
pub record SomeHasImage (panel : Panel) (most : ℕ) (bytes : List ℕ) : Type 0 where
  pub set : List ℕ
  pub has_image : HasImage panel most bytes set

-- the register's panel and N
abbrev pub panel_in : List ℕ → Panel
panel_in words = panel_of (sizes_of words)

abbrev pub most_in : List ℕ → ℕ
most_in words = (sizes_of words).most

-- the most bytes that an image of N pixels in S blocks has
abbrev pub most_bytes : List ℕ → ℕ
most_bytes words = image_length ((sizes_of words).most + slot_count (sizes_of words).k (sizes_of words).most)
