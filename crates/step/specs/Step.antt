-- What a change does to one block of the path. On any words it stays in bounds; on those of a register it comes to rest, or is pending one block up.
use Rattle.std.specs.Prelude.{ℕ, ◌+◌, ◌-◌, ◌*◌, ◌≤◌, ◌<◌, ◌≡◌, Bool, true, false, ◌⊎◌, List, [], ◌∷◌, length, take, drop, Option, Some, None, Result, Ok, Err}
use Rattle.pktree.specs.Elements.{size, block_at, empty}
use Rattle.measures.specs.declared.sizes.Layout.{Layout}
use Rattle.measures.specs.Layout.{LayoutFits, store_end, most_elements}
use Rattle.measures.specs.Slot.{slot_part, count_word, element_index}
use Rattle.elements.specs.Splice.{CanSplice}
use Rattle.store.specs.declared.Damaged.{Damaged}
use Rattle.store.specs.Placed.{Placed}
use Rattle.store.proofs.Standing.{element_words}
use Rattle.descent.specs.Way.{Frame}
use Rattle.rewrite.specs.Rewrite.{SplicedSlot, HandedUpAll, scratch_words}
use Rattle.step.specs.declared.Change.{Change}
use Rattle.ascent.proofs.Pending.{Setting, Pending, Laid}
use Rattle.ascent.proofs.FormedAt.{FormedAt}
use Rattle.ascent.proofs.Completed.{Completed}

-- words 0 to 5 and those past the formula are as they were
pub record Kept (layout : Layout) (before after : List ℕ) : Type 0 where
  pub long : length after ≡ length before
  pub head : take 6 after ≡ take 6 before
  pub past : drop (store_end layout) after ≡ drop (store_end layout) before

-- a block hands up its elements where it has fewer than k, which is at most 16
abbrev pub most_handed_up : ℕ
most_handed_up = 16

-- the place is one among the elements of a slot
pub record CanPut (layout : Layout) (words : List ℕ) (slot place removed inserted : ℕ) (scratch : List ℕ) : Type 0 where
  pub fits : LayoutFits layout words
  pub slot_below : slot < layout.slots
  pub place_to : place ≤ most_elements
  pub removed_to : removed ≤ 1
  pub inserted_to : inserted ≤ most_handed_up
  pub room : length scratch ≡ scratch_words

-- the elements are spliced, so many there are then; or they cannot be
abbrev pub PutMeets : Layout → ℕ → ℕ → ℕ → ℕ → List ℕ → List ℕ → List ℕ → Result ℕ Damaged → Type 0
PutMeets layout slot place removed inserted scratch before after (Ok n) =
    (n ≡ count_word (slot_part layout.width before slot) - removed + inserted) × CanSplice (slot_part layout.width before slot) scratch place removed inserted
    × SplicedSlot layout.width slot place removed inserted scratch before after
PutMeets layout slot place removed inserted scratch before after (Err _) =
    (after ≡ before) × (CanSplice (slot_part layout.width before slot) scratch place removed inserted → ⊥)

-- the change is one in this setting
pub record InSetting (σ : Setting) (change : Change) (root : Bool) (way : List Frame) : Type 0 where
  pub layout_is : change.layout ≡ σ.layout
  pub k_is : change.k ≡ σ.k
  pub x_is : change.code ≡ σ.x
  pub root_is : (root ≡ true → way ≡ []) × (root ≡ false → way ≡ [] → ⊥)

-- the change is at rest, or it is pending in the block around, with the elements that stand in the scratch words
pub record PendingAbove (σ : Setting) (words scratch : List ℕ) (f : Frame) (way : List Frame) (slot n : ℕ) : Type 0 where
  pub level : ℕ
  pub code : ℕ
  pub left : Placed
  pub free : List ℕ
  pub pending : Pending σ words way f.slot f.level f.code f.before (block_at slot level code empty empty) left f.after free
  pub count_is : size left ≡ n
  pub scratch_is : take (2 * n) scratch ≡ element_words left

-- how a step ends: the change is at rest, so many elements go up, or the words are damaged
abbrev pub Stepped : Type 0
Stepped = Result (Option ℕ) Damaged

abbrev pub SteppedRight : Setting → List ℕ → List ℕ → List Frame → ℕ → Stepped → Type 0
SteppedRight σ words scratch way slot (Ok None) = Completed σ words
SteppedRight σ words scratch [] slot (Ok (Some n)) = ⊥
SteppedRight σ words scratch (f ∷ way) slot (Ok (Some n)) = PendingAbove σ words scratch f way slot n
SteppedRight σ words scratch way slot (Err _) = ⊥

abbrev pub FewHandedUp : Stepped → Type 0
FewHandedUp (Ok None) = Unit {0}
FewHandedUp (Ok (Some n)) = n ≤ most_handed_up
FewHandedUp (Err _) = Unit {0}

pub record CanRegroup (change : Change) (words : List ℕ) (slot level first size : ℕ) (scratch : List ℕ) : Type 0 where
  pub fits : LayoutFits change.layout words
  pub slot_below : slot < change.layout.slots
  pub level_to : level ≤ 15
  pub laid : element_index (count_word (slot_part change.layout.width words slot)) ≤ change.layout.width
  pub within : first + size ≤ count_word (slot_part change.layout.width words slot)
  pub size_from : 1 ≤ size
  pub k_to : change.k ≤ 16
  pub room : length scratch ≡ scratch_words

pub record RegroupMeets (change : Change) (root : Bool) (slot level first size : ℕ) (before after scratch scratch' : List ℕ) (r : Stepped) : Type 0 where
  pub kept : Kept change.layout before after
  pub bounds : FewHandedUp r
  pub scratch_long : length scratch' ≡ length scratch
  pub right : (σ : Setting) (way : List Frame) (outer code : ℕ) (es : Placed) (free : List ℕ) → InSetting σ change root way
      → Laid σ before way slot outer code es free → FormedAt σ.k outer code σ.x level first size es → SteppedRight σ after scratch' way slot r

-- the block is the root or has k elements, and all is as it was; or all its elements go up
abbrev pub UnderfullMeets : Change → Bool → ℕ → ℕ → List ℕ → List ℕ → List ℕ → List ℕ → Option ℕ → Type 0
UnderfullMeets change root slot count before after scratch scratch' None = ((root ≡ true) ⊎ (change.k ≤ count)) × (after ≡ before) × (scratch' ≡ scratch)
UnderfullMeets change root slot count before after scratch scratch' (Some n) = (root ≡ false) × (count < change.k) × HandedUpAll change.layout slot before after scratch scratch' n

pub record StepMeets (change : Change) (root : Bool) (slot place removed inserted : ℕ) (before after scratch scratch' : List ℕ) (r : Stepped) : Type 0 where
  pub kept : Kept change.layout before after
  pub bounds : FewHandedUp r
  pub scratch_long : length scratch' ≡ length scratch
  pub right : (σ : Setting) (way : List Frame) (level code : ℕ) (a old new b : Placed) (free : List ℕ) → InSetting σ change root way
      → size a ≡ place → size old ≡ removed → size new ≡ inserted → take (2 * inserted) scratch ≡ element_words new
      → Pending σ before way slot level code a old new b free → SteppedRight σ after scratch' way slot r
