-- The block that a run of a block's elements is to become.
use Prim.Native.Nat.{ℕ, ◌-◌, ◌*◌, ◌≤◌}
use mathlib.Core.Path.{◌≡◌, ap, ◌∙◌}
use mathlib.Core.List.{List, ◌++◌}
use Rattle.pktree.specs.Elements.{◌⧺◌, size, block_at}
use Rattle.pktree.specs.Tree.{pixels}
use Rattle.pktree.proofs.Forests.{pixels_join}
use Rattle.pktree.proofs.Alignment.{block_code}
use Rattle.pktree.proofs.Arranged.{LocallyRight}
use Rattle.store.specs.Placed.{Placed, slots_of}
use Rattle.store.proofs.PlacedJoin.{slots_join}

-- the block to be formed, of elements in their slots
pub record FormedAt (k level code x j first n : ℕ) (es : Placed) : Type 0 where
  pub before : Placed
  pub run : Placed
  pub after : Placed
  pub is : es ≡ before ⧺ (run ⧺ after)
  pub first_is : size before ≡ first
  pub size_is : size run ≡ n
  pub inner : LocallyRight k j (block_code j x) run
  pub most : n ≤ 4 * (k - 1)
  pub right : (slot : ℕ) → LocallyRight k level code (before ⧺ block_at slot j (block_code j x) run after)

-- the pixels and the slots, in three parts
module _ {k level code x j first n : ℕ} {es : Placed} (g : FormedAt k level code x j first n es) where
  pub pixels_in_parts : pixels es ≡ pixels g.before ++ (pixels g.run ++ pixels g.after)
  pixels_in_parts = ap pixels g.is ∙ pixels_join g.before (g.run ⧺ g.after) ∙ ap (λ (l : List ℕ). pixels g.before ++ l) (pixels_join g.run g.after)

  pub slots_in_parts : slots_of es ≡ slots_of g.before ++ (slots_of g.run ++ slots_of g.after)
  slots_in_parts = ap slots_of g.is ∙ slots_join g.before (g.run ⧺ g.after) ∙ ap (λ (l : List ℕ). slots_of g.before ++ l) (slots_join g.run g.after)
