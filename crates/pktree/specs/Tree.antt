-- 01 "Blocks": the instantiated blocks, and the tree that they form.
use Rattle.std.specs.Prelude.{ℕ, ◌≤◌, ◌≡◌, Bool, ◌⊎◌, List, [], ◌∷◌, ◌++◌}
use Rattle.pktree.specs.Panel.{Panel, Block}
use Rattle.pktree.specs.Elements.{ForestOf, Forest, empty, pixel, block, block_at, size, gather}

-- 01: a block is instantiated when it has at least k elements, or is the root
pub record Instantiated (panel : Panel) (marked : ℕ → Bool) (level code : ℕ) : Type 0 where
  pub of_panel : Block panel level code
  pub enough : (level ≡ panel.order) ⊎ (panel.k ≤ size (gather marked panel.k level code))

-- the root, with its elements
abbrev pub tree : Panel → (ℕ → Bool) → Forest
tree panel marked = block panel.order 0 (gather marked panel.k panel.order 0) empty

-- a block with its elements
pub record BlockOf : Type 0 where
  pub level : ℕ
  pub code : ℕ
  pub elements : Forest

abbrev pub block_of : ℕ → ℕ → Forest → BlockOf
block_of level code elements = record { level = level; code = code; elements = elements }

-- all blocks, each before those inside it
abbrev pub blocks : Forest → List BlockOf
blocks empty = []
blocks (pixel c f) = blocks f
blocks (block_at u i c es f) = block_of i c es ∷ (blocks es ++ blocks f)

-- the codes of all pixels
abbrev pub pixels : {A : Type 0} → ForestOf A → List ℕ
pixels empty = []
pixels (pixel c f) = c ∷ pixels f
pixels (block_at u i c es f) = pixels es ++ pixels f
