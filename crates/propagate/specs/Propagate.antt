-- The way up: a change that is pending in the block at the end of a path comes to rest.
use Rattle.std.specs.Prelude.{ℕ, ◌-◌, ◌*◌, ◌≤◌, ◌<◌, ◌≡◌, List, [], ◌∷◌, length, take, Option, Some, None, Result, Ok}
use Rattle.pktree.specs.Elements.{size}
use Rattle.measures.specs.Layout.{LayoutFits, most_elements}
use Rattle.store.specs.declared.Damaged.{Damaged}
use Rattle.store.specs.Placed.{Placed}
use Rattle.store.proofs.Standing.{element_words}
use Rattle.descent.specs.declared.Located.{Located}
use Rattle.descent.specs.declared.Passed.{Passed}
use Rattle.descent.specs.Way.{Frame}
use Rattle.descent.specs.Located.{PathNames, passed_at}
use Rattle.ascent.proofs.Pending.{Setting, Pending}
use Rattle.ascent.proofs.Completed.{Completed}
use Rattle.step.specs.declared.Change.{Change}
use Rattle.step.specs.Step.{Kept}

-- the parent of the block at this depth, as the path names it
abbrev pub ParentIs : List Passed → ℕ → Option Passed → Type 0
ParentIs path depth (Some parent) = (0 < depth) × (parent ≡ passed_at path (depth - 1)) × (parent.place ≤ most_elements)
ParentIs path depth None = 0 < depth → most_elements < (passed_at path (depth - 1)).place

pub record CanPropagate (change : Change) (words : List ℕ) (located : Located) (path : List Passed) (removed inserted : ℕ) : Type 0 where
  pub fits : LayoutFits change.layout words
  pub k_from : 2 ≤ change.k
  pub k_to : change.k ≤ 16
  pub slot_below : located.block.slot < change.layout.slots
  pub deep : located.depth ≤ 16
  pub path_below : (i : ℕ) → i < located.depth → (passed_at path i).slot < change.layout.slots
  pub place_to : located.place ≤ most_elements
  pub removed_to : removed ≤ 1
  pub inserted_to : inserted ≤ 1

-- in this setting the change is pending in the block at the end of the way that the path names
pub record PendingAt (σ : Setting) (words : List ℕ) (passed : List Passed) (depth slot place removed inserted : ℕ) (scratch : List ℕ) : Type 0 where
  pub way : List Frame
  pub level : ℕ
  pub code : ℕ
  pub a : Placed
  pub old : Placed
  pub new : Placed
  pub b : Placed
  pub free : List ℕ
  pub depth_is : depth ≡ length way
  pub names : PathNames passed way
  pub place_is : size a ≡ place
  pub removed_is : size old ≡ removed
  pub inserted_is : size new ≡ inserted
  pub scratch_is : take (2 * inserted) scratch ≡ element_words new
  pub pending : Pending σ words way slot level code a old new b free

pub record OfChange (σ : Setting) (change : Change) : Type 0 where
  pub layout_is : change.layout ≡ σ.layout
  pub k_is : change.k ≡ σ.k
  pub x_is : change.code ≡ σ.x

pub record PropagateMeets (change : Change) (located : Located) (path : List Passed) (removed inserted : ℕ) (before after : List ℕ) (r : Result (Unit {0}) Damaged) : Type 0 where
  pub kept : Kept change.layout before after
  pub right : (σ : Setting) → OfChange σ change
      → PendingAt σ before path located.depth located.block.slot located.place removed inserted (change.code ∷ 0 ∷ [])
      → (r ≡ Ok tt) × Completed σ after
