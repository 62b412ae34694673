-- 01 "Blocks": the elements of a block, gathered from its four quarters.
use Rattle.std.specs.Prelude.{ℕ, zero, suc, ◌+◌, ◌*◌, ◌^◌, Bool, cond, ltb}

-- elements in ascending order: none; a pixel by its code, before the elements that follow it; or a block by its label, level, code and
-- own elements, before those that follow it. The labels say something more of each block: in a store, its slot; in 01's tree, nothing.
pub data ForestOf (A : Type 0) : Type 0 where
  empty : ForestOf A
  pixel : ℕ → ForestOf A → ForestOf A
  block_at : A → ℕ → ℕ → ForestOf A → ForestOf A → ForestOf A

-- a forest without labels
abbrev pub Forest : Type 0
Forest = ForestOf (Unit {0})

abbrev pub block : ℕ → ℕ → Forest → Forest → Forest
block level code inside rest = block_at tt level code inside rest

infixr 50 ◌⧺◌
abbrev pub ◌⧺◌ : {A : Type 0} → ForestOf A → ForestOf A → ForestOf A
empty ⧺ g = g
pixel c f ⧺ g = pixel c (f ⧺ g)
block_at a i c es f ⧺ g = block_at a i c es (f ⧺ g)

-- the number of elements
abbrev pub size : {A : Type 0} → ForestOf A → ℕ
size empty = 0
size (pixel c f) = suc (size f)
size (block_at u i c es f) = suc (size f)

-- without the labels
abbrev pub unlabelled : {A : Type 0} → ForestOf A → Forest
unlabelled empty = empty
unlabelled (pixel c f) = pixel c (unlabelled f)
unlabelled (block_at u i c es f) = block i c (unlabelled es) (unlabelled f)

-- what a quarter with the elements es gives: fewer than k, those; k or more, itself as one element
abbrev pub give : ℕ → ℕ → ℕ → Forest → Forest
give k level code es = cond (ltb (size es) k) es (block level code es empty)

-- the elements of the block of this level and code, where `marked` says which codes are marked
unfoldable pub gather : (ℕ → Bool) → ℕ → ℕ → ℕ → Forest
gather marked k zero code = cond (marked code) (pixel code empty) empty
gather marked k (suc level) code =
    give k level code (gather marked k level code)
    ⧺ (give k level (code + 4 ^ level) (gather marked k level (code + 4 ^ level))
    ⧺ (give k level (code + 2 * 4 ^ level) (gather marked k level (code + 2 * 4 ^ level))
    ⧺ give k level (code + 3 * 4 ^ level) (gather marked k level (code + 3 * 4 ^ level))))
