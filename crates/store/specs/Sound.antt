-- 01: when a store is sound.
use Rattle.std.specs.Prelude.{ℕ, ◌≤◌, ◌<◌, ◌≡◌, List, ◌++◌, length}
use Rattle.std.proofs.Math.Option.{some}
use Rattle.pktree.specs.Lists.{Every}
use Rattle.pktree.specs.PixelSet.{member}
use Rattle.pktree.specs.Tree.{tree, pixels}
use Rattle.measures.specs.Words.{blocks_word}
use Rattle.measures.specs.Sizes.{panel_of, slot_count, slot_width, sizes_of, UsableStore}
use Rattle.store.specs.Placed.{Placed, slots_of}
use Rattle.store.specs.Reading.{tree_of}
use Rattle.freeslots.specs.FreeSlots.{FreeSlots, occurrences}
use Rattle.store.specs.Numbers.{Numbered}
use Rattle.pktree.specs.Elements.{unlabelled}

-- every slot is in the tree or free, and only once; none is beyond the last
pub record SlotsShared (slots : ℕ) (used free : List ℕ) : Type 0 where
  pub once : (s : ℕ) → s < slots → occurrences s (used ++ free) ≡ 1
  pub inside : Every (λ s. s < slots) (used ++ free)

-- the store is sound, and this is its tree
pub record Sound (words : List ℕ) (placed : Placed) : Type 0 where
  pub usable : UsableStore words
  pub reads : tree_of words ≡ some placed
  -- the tree of instantiated blocks of its own pixels
  pub is_tree : unlabelled placed ≡ tree (panel_of (sizes_of words)) (member (pixels placed))
  pub fits : length (pixels placed) ≤ (sizes_of words).most
  -- unused slots are all available again
  pub free : List ℕ
  pub chain : FreeSlots (slot_width (sizes_of words).k) words free
  pub shared : SlotsShared (slot_count (sizes_of words).k (sizes_of words).most) (slots_of placed) free
  -- word 6 is the number of blocks
  pub counted : blocks_word words ≡ length (slots_of placed)
  -- 02, P6: every block carries the number of marked pixels beneath it
  pub numbered : Numbered (slot_width (sizes_of words).k) (slot_count (sizes_of words).k (sizes_of words).most) words (pixels placed)

-- a sound store that holds this set of pixels
pub record Holds (words set : List ℕ) : Type 0 where
  pub placed : Placed
  pub sound : Sound words placed
  pub set_is : pixels placed ≡ set

-- the store is sound: it is so with some tree
pub record IsSound (words : List ℕ) : Type 0 where
  pub placed : Placed
  pub sound : Sound words placed
