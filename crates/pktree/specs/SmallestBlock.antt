-- 02, P8: the smallest instantiated block that contains a pixel, and the law of its elements.
use Rattle.std.specs.Prelude.{ℕ, ◌+◌, ◌^◌, ◌≤◌, ◌<◌, ◌≡◌, Bool, true, ◌↔◌, List, [], ◌∷◌}
use Rattle.pktree.specs.Panel.{Panel}
use Rattle.pktree.specs.PixelSet.{member}
use Rattle.pktree.specs.Elements.{ForestOf, empty, pixel, block_at, gather}
use Rattle.pktree.specs.Tree.{Instantiated}

-- the pixel of this code lies in the block of this level whose lowest corner has the code `block`
abbrev pub Contains : ℕ → ℕ → ℕ → Type 0
Contains level block code = (block ≤ code) × (code < block + 4 ^ level)

-- it is instantiated, it contains the pixel, and no instantiated block that contains the pixel has a lower level
pub record Smallest (panel : Panel) (marked : ℕ → Bool) (code level block : ℕ) : Type 0 where
  pub instantiated : Instantiated panel marked level block
  pub contains : Contains level block code
  pub least : (i c : ℕ) → Instantiated panel marked i c → Contains i c code → level ≤ i

-- the pixels among some elements, without those inside the blocks among them
abbrev pub pixel_elements : {A : Type 0} → ForestOf A → List ℕ
pixel_elements empty = []
pixel_elements (pixel c f) = c ∷ pixel_elements f
pixel_elements (block_at u i c es f) = pixel_elements f

-- the pixel is an element of the block
abbrev pub IsElement : Panel → (ℕ → Bool) → ℕ → ℕ → ℕ → Type 0
IsElement panel marked code level block = member (pixel_elements (gather marked panel.k level block)) code ≡ true

-- what is shown of every pixel of a panel: there is one such block and no other, and the pixel is marked exactly when it is an element of it
pub record HasSmallest (panel : Panel) (marked : ℕ → Bool) (code : ℕ) : Type 0 where
  pub level : ℕ
  pub block : ℕ
  pub smallest : Smallest panel marked code level block
  pub only : (i c : ℕ) → Smallest panel marked code i c → (i ≡ level) × (c ≡ block)
  pub law : (marked code ≡ true) ↔ IsElement panel marked code level block
