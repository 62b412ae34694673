-- A store that comes to hold the pixels of an image's entries.
use Rattle.std.specs.Prelude.{ℕ, ◌*◌, ◌≤◌, ◌≡◌, cond, eqb, Option, Some, None, List, length}
use Rattle.pktree.specs.PixelSet.{PixelSet}
use Rattle.pktree.specs.Entries.{Entry, pixel_entries}
use Rattle.measures.specs.declared.sizes.Sizes.{Sizes}
use Rattle.measures.specs.Sizes.{panel_of, sizes_of, UsableStore}
use Rattle.image.specs.Parts.{entries_at}

-- the codes of the pixels among the first n entries
abbrev pub pixels_to : List ℕ → List ℕ → ℕ → List ℕ
pixels_to codes levels n = pixel_entries (entries_at codes levels n 0)

-- among all: each entry has one level
abbrev pub pixels_given : List ℕ → List ℕ → List ℕ
pixels_given codes levels = pixels_to codes levels (length levels)

-- the code of a pixel, and nothing of a block
abbrev pub pixel_of : Entry → Option ℕ
pixel_of e = cond (eqb e.level 0) (Some e.code) None

-- a code for each level, and pixels that the register can hold
pub record EntriesFit (sizes : Sizes) (codes levels : List ℕ) : Type 0 where
  pub codes_long : length codes ≡ 4 * length levels
  pub on_panel : PixelSet (panel_of sizes) (pixels_given codes levels)
  pub room : length (pixels_given codes levels) ≤ sizes.most

-- whatever the words from 4 on are
pub record ReplaceDue (words : List ℕ) (sizes : Sizes) (codes levels : List ℕ) (number : ℕ) : Type 0 where
  pub usable : UsableStore words
  pub sizes_are : sizes ≡ sizes_of words
  pub given : EntriesFit sizes codes levels
  pub number_is : number ≡ length (pixels_given codes levels)
