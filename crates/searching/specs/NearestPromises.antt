-- 02, P5: every promise about the nearest unfit pixel, for a set of pixels on a panel, a place and a budget.
use Rattle.std.specs.Prelude.{ℕ, ◌≤◌, ◌<◌, ◌≡◌, true, false, ◌⊎◌, ◌↔◌, List, [], length}
use Rattle.pktree.specs.Lists.{Every}
use Rattle.pktree.specs.Panel.{Panel}
use Rattle.pktree.specs.PixelSet.{member}
use Rattle.pktree.specs.Tree.{BlockOf, tree, blocks}
use Rattle.searching.specs.Distance.{squared_distance}
use Rattle.searching.specs.Search.{distance_to, pixels_among, searched}
use Rattle.searching.specs.Nearest.{Nearest, nearest_in}

-- the values of a search on the register of a set
abbrev pub nearest_on : Panel → List ℕ → ℕ → ℕ → Nearest
nearest_on panel set place budget = nearest_in (tree panel (member set)) place budget

-- a pixel is the nearest of some, and among equal distances the one of the lowest code
pub record IsNearest (place pixel : ℕ) (set : List ℕ) : Type 0 where
  pub among : member set pixel ≡ true
  pub nearest : (code : ℕ) → member set code ≡ true → squared_distance place pixel ≤ squared_distance place code
  pub lowest : (code : ℕ) → member set code ≡ true → squared_distance place pixel ≡ squared_distance place code → pixel ≤ code

-- the nearest of all marked pixels was found, at the limit
pub record AllSearched (set : List ℕ) (place : ℕ) (a : Nearest) : Type 0 where
  pub found : a.is_found ≡ true
  pub nearest : IsNearest place a.code set
  pub limit : a.limit ≡ squared_distance place a.code

pub record NothingFound (a : Nearest) : Type 0 where
  pub pixel : a.code ≡ 0
  pub distance : a.distance ≡ 0

pub record NothingMarked (a : Nearest) : Type 0 where
  pub complete : a.complete ≡ true
  pub found : a.is_found ≡ false
  pub limit : a.limit ≡ 0

pub record NoFarther (a b : Nearest) : Type 0 where
  pub found : b.is_found ≡ true
  pub distance : b.distance ≤ a.distance

module _ (panel : Panel) (set : List ℕ) (place budget : ℕ) where
  abbrev given : Nearest
  given = nearest_on panel set place budget

  -- the blocks that the search has opened, and those that it has met and not opened
  abbrev pub opened_blocks : List BlockOf
  opened_blocks = (searched (tree panel (member set)) place budget).opened

  abbrev pub unopened_blocks : List BlockOf
  unopened_blocks = (searched (tree panel (member set)) place budget).met

  pub record NearestPromises : Type 0 where
    -- the pixel returned is the nearest among the elements of the opened blocks, and marked; its squared distance comes with it
    pub found : given.is_found ≡ true → IsNearest place given.code (pixels_among opened_blocks)
    pub found_marked : given.is_found ≡ true → member set given.code ≡ true
    pub found_distance : given.is_found ≡ true → given.distance ≡ squared_distance place given.code
    -- where no pixel has been found, there is none in the opened blocks; pixel and distance are zero
    pub not_found : given.is_found ≡ false → pixels_among opened_blocks ≡ []
    pub not_found_zero : given.is_found ≡ false → NothingFound given
    -- the number of blocks opened
    pub opened : given.opened ≡ length opened_blocks
    -- no marked pixel can be below the limit; nor is the pixel found or a block met and not opened
    pub limit : (code : ℕ) → member set code ≡ true → given.limit ≤ squared_distance place code
    pub limit_unopened : Every (λ b. given.limit ≤ distance_to place b) unopened_blocks
    pub limit_found : given.is_found ≡ true → given.limit ≤ given.distance
    -- and it is the greatest such number, where a pixel is found or a block left
    pub limit_greatest : (n : ℕ) → (given.is_found ≡ true → n ≤ given.distance) → Every (λ b. n ≤ distance_to place b) unopened_blocks
        → (given.is_found ≡ false → unopened_blocks ≡ [] → ⊥) → n ≤ given.limit
    -- complete exactly when no met block is left unopened or all of these are farther than a pixel found
    pub complete_exactly : (given.complete ≡ true)
        ↔ ((unopened_blocks ≡ []) ⊎ ((given.is_found ≡ true) × Every (λ b. given.distance < distance_to place b) unopened_blocks))
    -- then the pixel is the nearest of all and the limit equals its squared distance, or nothing is marked and the call says so
    pub complete : given.complete ≡ true → AllSearched set place given ⊎ ((given.is_found ≡ false) × (set ≡ []))
    pub nothing_marked : 1 ≤ budget → set ≡ [] → NothingMarked given
    -- a larger budget never returns a farther pixel than a smaller one found, nor a smaller limit
    pub larger_pixel : (larger : ℕ) → budget ≤ larger → given.is_found ≡ true → NoFarther given (nearest_on panel set place larger)
    pub larger_limit : (larger : ℕ) → 1 ≤ budget → budget ≤ larger → given.limit ≤ (nearest_on panel set place larger).limit
    -- opened is never above the budget, is below it only when the search is complete, and a budget of all the held blocks completes it
    pub opened_to : given.opened ≤ budget
    pub opened_below : given.opened < budget → given.complete ≡ true
    pub all_held : length (blocks (tree panel (member set))) ≤ budget → given.complete ≡ true
