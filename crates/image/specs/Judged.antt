-- 01 "Whoever sends an image": when refusals 10, 11 and 12 do not apply.
use Rattle.std.specs.Prelude.{ℕ, ◌≤◌, ◌≡◌, List, length, get_or}
use Rattle.pktree.specs.Panel.{Panel}
use Rattle.pktree.specs.PixelSet.{PixelSet}
use Rattle.pktree.specs.Image.{image, header_length}
use Rattle.image.specs.Parts.{entry_number, pixel_number, image_length}

-- 10: under 10 bytes, or length not 10 + 5e
pub record WellFormed (bytes : List ℕ) : Type 0 where
  pub header : header_length ≤ length bytes
  pub arrays : length bytes ≡ image_length (entry_number bytes)

-- 11: m or k unlike the register's, or n > N
pub record FitsRegister (panel : Panel) (most : ℕ) (bytes : List ℕ) : Type 0 where
  pub order : get_or bytes 0 0 ≡ panel.order
  pub k : get_or bytes 1 0 ≡ panel.k
  pub pixels : pixel_number bytes ≤ most

-- 12: no set of n pixels on the panel has this image
pub record ImageOfSome (panel : Panel) (bytes : List ℕ) : Type 0 where
  pub set : List ℕ
  pub on_panel : PixelSet panel set
  pub of_n : length set ≡ pixel_number bytes
  pub is : image panel set ≡ bytes
