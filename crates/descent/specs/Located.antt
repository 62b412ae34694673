-- What the descent to a code finds, on any words: one look at the elements of a block, then the smallest block that holds the code.
use Rattle.std.specs.Prelude.{ℕ, suc, ◌^◌, ◌/◌, ◌<◌, ◌+◌, ◌≤◌, ◌≡◌, Bool, true, false, List, [], ◌∷◌, ◌⊎◌, length, get_or, Result, Ok, Err}
use Rattle.elements.specs.Element.{element_at, named}
use Rattle.elements.specs.Splice.{PlaceOf}
use Rattle.elements.specs.declared.Element.{Element}
use Rattle.elements.specs.declared.Element.TheVariants.{Pixel, Block}
use Rattle.descent.specs.declared.Ahead.{Ahead}
use Rattle.descent.specs.declared.Ahead.TheVariants.{Here, Inner}
use Rattle.pktree.specs.Elements.{size, ◌⧺◌, pixel}
use Rattle.pktree.proofs.Arranged.{Arranged}
use Rattle.measures.specs.Sizes.{sizes_of}
use Rattle.measures.specs.Layout.{layout_of, most_elements}
use Rattle.store.specs.Opening.{CannotOpen}
use Rattle.measures.specs.declared.sizes.Layout.{Layout}
use Rattle.store.specs.Placed.{Placed}
use Rattle.store.specs.Sound.{Sound}
use Rattle.store.specs.declared.Damaged.{Damaged}
use Rattle.descent.specs.declared.Located.{Located}
use Rattle.descent.specs.declared.Passed.{Passed}
use Rattle.descent.specs.Way.{Frame, plug}

-- the element before the code's place ends before the code: it is another pixel, or a block that does not hold the code
abbrev pub EndsBefore : Element → ℕ → Type 0
EndsBefore (Pixel c) code = c ≡ code → ⊥
EndsBefore (Block block) code = block.code / 4 ^ block.level ≡ code / 4 ^ block.level → ⊥

-- a pixel of the code's own stands at this place
pub record OwnPixel (part : List ℕ) (count code place : ℕ) : Type 0 where
  pub within : place < count
  pub pixel : element_at part place ≡ Pixel code
  pub above : PlaceOf part count code (suc place)

-- no element at this place or before it reaches the code
pub record BetweenElements (part : List ℕ) (count code place : ℕ) : Type 0 where
  pub place_of : PlaceOf part count code place
  pub ends : (i : ℕ) → suc i ≡ place → EndsBefore (element_at part i) code

abbrev pub LookedHere : List ℕ → ℕ → ℕ → ℕ → Bool → Type 0
LookedHere part count code place true = OwnPixel part count code place
LookedHere part count code place false = BetweenElements part count code place

-- the element at this place is a block that holds the code
pub record InnerBlock (part : List ℕ) (count code place slot level inner : ℕ) : Type 0 where
  pub within : place < count
  pub block : element_at part place ≡ named slot level inner
  pub holds : inner / 4 ^ level ≡ code / 4 ^ level
  pub above : PlaceOf part count code (suc place)

abbrev pub Looked : List ℕ → ℕ → ℕ → Ahead → Type 0
Looked part count code (Here place marked) = LookedHere part count code place marked
Looked part count code (Inner place e) = InnerBlock part count code place e.slot e.level e.code

abbrev pub nowhere : Passed
nowhere = record { slot = 0; place = 0 }

-- block i of those that were passed, the root being the first
abbrev pub passed_at : List Passed → ℕ → Passed
passed_at passed i = get_or passed i nowhere

-- a path names, root first, the slot of each block that was passed and the place of the element that was entered
abbrev pub PathNames : List Passed → List Frame → Type 0
PathNames passed [] = Unit {0}
PathNames passed (f ∷ way) = (passed_at passed (length way) ≡ record { slot = f.slot; place = size f.before }) × PathNames passed way

-- where the code stands: at a pixel of its own, or between two elements
pub record PlaceIn (k level from code to place : ℕ) (marked : Bool) (es : Placed) : Type 0 where
  pub before : Placed
  pub after : Placed
  pub place_is : size before ≡ place
  pub below : Arranged k level from code before
  pub above : Arranged k level (suc code) to after
  pub is : (marked ≡ true → es ≡ before ⧺ pixel code after) × (marked ≡ false → es ≡ before ⧺ after)

-- on a sound store: the block at the end of the way
pub record LocatedIn (words : List ℕ) (placed : Placed) (code : ℕ) (path : List Passed) (r : Located) : Type 0 where
  pub way : List Frame
  pub es : Placed
  pub whole : placed ≡ plug way r.block.slot r.block.level r.block.code es
  pub depth : r.depth ≡ length way
  pub names : PathNames path way
  pub holds : (r.block.code ≤ code) × (code < r.block.code + 4 ^ r.block.level)
  pub place : PlaceIn (sizes_of words).k r.block.level r.block.code code (r.block.code + 4 ^ r.block.level) r.place r.marked es

-- whether an inner block's level is lower and its slot is one of the store's
abbrev pub CanEnter : Layout → ℕ → ℕ → ℕ → Bool → Type 0
CanEnter layout level slot inner true = (inner < level) × (slot < layout.slots)
CanEnter layout level slot inner false = (level ≤ inner) ⊎ (layout.slots ≤ slot)

-- on every store the numbers stay in bounds
pub record LocatedBounds (layout : Layout) (order : ℕ) (path : List Passed) (r : Located) : Type 0 where
  pub slot_below : r.block.slot < layout.slots
  pub level_from : 1 ≤ r.block.level
  pub deep : r.depth + r.block.level ≤ order
  pub path_below : (i : ℕ) → i < r.depth → (passed_at path i).slot < layout.slots
  pub place_below : r.place ≤ most_elements

-- what `locate` is told of a sound store
pub record SoundArguments (words : List ℕ) (placed : Placed) (layout : Layout) (order code : ℕ) : Type 0 where
  pub sound : Sound words placed
  pub layout_is : layout ≡ layout_of (sizes_of words)
  pub order_is : order ≡ (sizes_of words).order
  pub on_panel : code < 4 ^ order

-- what holds of no sound store
abbrev pub NoSound : List ℕ → Layout → ℕ → ℕ → Type 0
NoSound words layout order code = (placed : Placed) → SoundArguments words placed layout order code → ⊥

-- the smallest block is found, and the root was opened
pub record LocatedRight (words : List ℕ) (layout : Layout) (order code : ℕ) (path : List Passed) (r : Located) : Type 0 where
  pub bounds : LocatedBounds layout order path r
  pub sound : (placed : Placed) → SoundArguments words placed layout order code → LocatedIn words placed code path r
  pub opened : CannotOpen layout.width words 0 order 0 → ⊥

-- never damaged on a sound store
abbrev pub LocateMeets : List ℕ → Layout → ℕ → ℕ → List Passed → Result Located Damaged → Type 0
LocateMeets words layout order code path (Ok r) = LocatedRight words layout order code path r
LocateMeets words layout order code path (Err _) = NoSound words layout order code
