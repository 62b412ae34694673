-- The order of opening, without a search: by squared distance, then by code, and of two blocks with one code the larger first.
use Rattle.std.specs.Prelude.{ℕ, ◌≤◌, ◌<◌, ◌≡◌, ◌⊎◌}
use mathlib.Core.List.{List, [], ◌∷◌, Memᴰ}
use Rattle.pktree.specs.Lists.{Every}
use Rattle.pktree.specs.Panel.{Panel}
use Rattle.pktree.specs.PixelSet.{member}
use Rattle.pktree.specs.Tree.{BlockOf, tree, blocks}
use Rattle.searching.specs.Search.{distance_to}
use Rattle.searching.specs.NearestPromises.{opened_blocks}

pub record Sooner (place : ℕ) (a b : BlockOf) : Type 0 where
  pub no_farther : distance_to place a ≤ distance_to place b
  pub no_higher : distance_to place a ≡ distance_to place b → a.code ≤ b.code
  pub larger : distance_to place a ≡ distance_to place b → a.code ≡ b.code → b.level < a.level

-- each before all that follow
abbrev pub InOrder : (BlockOf → BlockOf → Type 0) → List BlockOf → Type 0
InOrder R [] = Unit {0}
InOrder R (b ∷ l) = Every (R b) l × InOrder R l

-- the blocks opened are in this order, and every other block of the tree comes after all of them: they are the first of all blocks
pub record OpeningOrder (panel : Panel) (set : List ℕ) (place : ℕ) : Type 0 where
  pub in_order : (budget : ℕ) → InOrder (Sooner place) (opened_blocks panel set place budget)
  pub first : (budget : ℕ) → Every (λ b. Memᴰ b (opened_blocks panel set place budget) ⊎ Every (λ a. Sooner place a b) (opened_blocks panel set place budget)) (blocks (tree panel (member set)))
