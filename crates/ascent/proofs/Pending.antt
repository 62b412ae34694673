-- A change on its way up: what holds before a block of the way is changed, and what its change leaves.
use Prim.Native.Nat.{ℕ, ◌-◌, ◌*◌, ◌≤◌}
use mathlib.Core.Path.{◌≡◌}
use mathlib.Core.Logic.{◌⊎◌}
use mathlib.Core.List.{List, ◌∷◌, ◌++◌}
use lib.ListN.{length}
use Rattle.pktree.specs.Elements.{size, ◌⧺◌}
use Rattle.pktree.specs.Tree.{pixels}
use Rattle.pktree.proofs.Arranged.{quarter_level, LocallyRight}
use Rattle.pktree.proofs.Regroup.{Disturbed}
use Rattle.measures.specs.declared.sizes.Layout.{Layout}
use Rattle.measures.specs.Sizes.{largest_most, slot_width, slot_count}
use Rattle.measures.specs.Slot.{slot_part}
use Rattle.store.specs.Placed.{Placed, slots_of}
use Rattle.store.specs.Numbers.{Numbered}
use Rattle.store.specs.Sound.{SlotsShared}
use Rattle.store.proofs.Standing.{SlotSays, Stands}
use Rattle.store.proofs.SlotsLeft.{SlotsLeft}
use Rattle.descent.specs.Way.{Frame, plug}
use Rattle.ascent.proofs.Frames.{FramesRight, FramesStand, way_slots}

-- what stays the same through one call: the sizes, the code at which the set changes, and the set to come
pub record Setting : Type 0 where
  pub layout : Layout
  pub k : ℕ
  pub m : ℕ
  pub most : ℕ
  pub x : ℕ
  pub target : List ℕ
  pub k_from : 2 ≤ k
  pub k_to : k ≤ 16
  pub m_to : m ≤ 16
  pub most_from : 1 ≤ most
  pub most_to : most ≤ largest_most
  pub few : length target ≤ most
  pub width_is : layout.width ≡ slot_width k
  pub slots_is : layout.slots ≡ slot_count k most

abbrev pub width_in : Setting → ℕ
width_in σ = σ.layout.width

abbrev pub slots_in : Setting → ℕ
slots_in σ = σ.layout.slots

-- the store around the block in slot s, which has the elements es, is that of a register; es are right but perhaps around x
pub record Around (σ : Setting) (words : List ℕ) (way : List Frame) (s level code : ℕ) (es : Placed) (free : List ℕ) : Type 0 where
  pub frames_right : FramesRight σ.k σ.m way level code
  pub frames_stand : FramesStand (width_in σ) words way s level code
  pub stands : Stands (width_in σ) words es
  pub level_from : 1 ≤ level
  pub disturbed : Disturbed σ.k (quarter_level level) code σ.x es
  pub fits : size es ≤ 5 * (σ.k - 1)
  pub some : (level ≡ σ.m) ⊎ (1 ≤ size es)
  pub free_chain : SlotsLeft (width_in σ) (slots_in σ) words free
  pub shared : SlotsShared (slots_in σ) (way_slots way ++ (s ∷ slots_of es)) free
  pub pixels_are : pixels (plug way s level code es) ≡ σ.target
  -- the numbers are those of the set to come
  pub numbered : Numbered (width_in σ) (slots_in σ) words σ.target

-- to be done: in the slot, the elements `removed` between a and b give way to `inserted`
pub record Pending (σ : Setting) (words : List ℕ) (way : List Frame) (s level code : ℕ) (a removed inserted b : Placed) (free : List ℕ) : Type 0 where
  pub around : Around σ words way s level code (a ⧺ (inserted ⧺ b)) free
  pub says : SlotSays (slot_part (width_in σ) words s) level code (a ⧺ (removed ⧺ b))
  pub was_fit : size (a ⧺ (removed ⧺ b)) ≤ 4 * (σ.k - 1)
  -- where nothing comes, the rest is right
  pub right_if_none_inserted : size inserted ≡ 0 → LocallyRight σ.k level code (a ⧺ (inserted ⧺ b))

-- done: the slot says the new elements
pub record Laid (σ : Setting) (words : List ℕ) (way : List Frame) (s level code : ℕ) (es : Placed) (free : List ℕ) : Type 0 where
  pub around : Around σ words way s level code es free
  pub says : SlotSays (slot_part (width_in σ) words s) level code es
