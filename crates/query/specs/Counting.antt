-- What a window walk over a part of the tree answers.
use Rattle.std.specs.Prelude.{◌≡◌, ℕ, ◌+◌, ◌^◌, ◌<◌, ◌≤◌, true, false, List, length, Result, Ok, Err}
use Rattle.pktree.specs.Elements.{Forest, empty, pixel, block, unlabelled, size}
use Rattle.pktree.specs.Tree.{block_of, pixels}
use Rattle.pktree.specs.Window as tree
use Rattle.pktree.specs.Window.{found, Ordered, shares_pixel, wholly_inside, crossed_by_window, tested_by_window}
use Rattle.measures.specs.Sizes.{largest_most, sizes_of, slot_width}
use Rattle.measures.specs.Layout.{level_above_root}
use Rattle.measures.specs.Slot.{slot_part, number_word}
use Rattle.store.specs.Opening.{CannotOpen, RootCannotOpen}
use Rattle.store.specs.Placed.{Placed}
use Rattle.store.proofs.BlockView.{BlockView}
use Rattle.store.specs.declared.Damaged.{Damaged}
use Rattle.query.specs.WindowRange.{Range}
use Rattle.query.specs.declared.walk.Sum.{Sum}
use Rattle.answers.specs.declared.Refusal.{Refusal}
use Rattle.answers.specs.declared.Refusal.TheVariants.{StoreDamaged}
use Rattle.answers.specs.declared.Found.{Found}
use Rattle.windows.specs.declared.Corners.{Corners}
use Rattle.windows.specs.Corners.{window_between}

-- what a walk makes of some elements: the codes that it finds, the blocks that it opens, the elements that it tests singly
pub record Findings : Type 0 where
  pub codes : Forest → List ℕ
  pub blocks : Forest → ℕ
  pub tests : Forest → ℕ

-- 01 and 02, P4: of blocks, where a walk opens so many of them
abbrev pub of_blocks : (tree.Window → Forest → ℕ) → tree.Window → Findings
of_blocks opens window = record { codes = λ f. found window (pixels f); blocks = opens window; tests = tested_by_window window }

-- of the elements of a block over the window's edge: each of them is tested too
abbrev pub of_elements : (tree.Window → Forest → ℕ) → tree.Window → Findings
of_elements opens window = record { codes = λ f. found window (pixels f); blocks = opens window; tests = λ f. size f + tested_by_window window f }

-- the numbers found, opened and tested so far leave room for what these elements add, as on a sound store
pub record Room (findings : Findings) (most slots : ℕ) (s : ℕ × ℕ × ℕ) (f : Forest) : Type 0 where
  pub few_found : s.0 + length (findings.codes f) ≤ most
  pub few_opened : s.1 + findings.blocks f ≤ slots
  pub few_tested : s.2 + findings.tests f < 2 ^ 32

pub record Added (findings : Findings) (s : ℕ × ℕ × ℕ) (f : Forest) (t : ℕ × ℕ × ℕ) : Type 0 where
  pub found_is : t.0 ≡ s.0 + length (findings.codes f)
  pub opened_is : t.1 ≡ s.1 + findings.blocks f
  pub tested_is : t.2 ≡ s.2 + findings.tests f

-- from the numbers s, a walk over these elements comes to the numbers t
pub record Counts (findings : Findings) (most slots : ℕ) (s : ℕ × ℕ × ℕ) (f : Forest) (t : ℕ × ℕ × ℕ) : Type 0 where
  pub says : Room findings most slots s f → Added findings s f t

-- a walk has come to its end, or the words are damaged
abbrev pub Ending : Type 0
Ending = Result (Unit {0}) Damaged

abbrev pub done : Ending
done = Ok tt

abbrev pub broken : Ending
broken = Err (record {})

-- and where there is room the walk ends
pub record CountsTo (r : Ending) (findings : Findings) (most slots : ℕ) (s : ℕ × ℕ × ℕ) (f : Forest) (t : ℕ × ℕ × ℕ) : Type 0 where
  pub counts : Counts findings most slots s f t
  pub ends : Room findings most slots s f → r ≡ done

-- a block that shares a pixel with the window was walked, and all inside it
pub record SharingWalked {S : Type 0} (W : S → Forest → S → Type 0) (range : Range) (words : List ℕ) (above slot level code : ℕ) (s t : S) : Type 0 where
  pub right : (k : ℕ) (es : Placed) → level < above → BlockView k range.layout.width range.layout.slots words slot level code es
      → shares_pixel (window_between range.corners) (block_of level code (unlabelled es)) ≡ true → W s (block level code (unlabelled es) empty) t

-- where it opens so many blocks
pub record BlockCounted (opens : tree.Window → Forest → ℕ) (range : Range) (words : List ℕ) (above slot level code : ℕ) (s t : ℕ × ℕ × ℕ) (r : Ending) : Type 0 where
  pub walked : SharingWalked (CountsTo r (of_blocks opens (window_between range.corners)) range.most range.layout.slots) range words above slot level code s t
  pub closed : CannotOpen range.layout.width words slot level code → r ≡ broken

-- 02, P6: a count opens only blocks over the window's edge
pub record EdgeCounted (range : Range) (words : List ℕ) (above slot level code : ℕ) (s t : ℕ × ℕ × ℕ) (r : Ending) : Type 0 where
  pub walked : (k : ℕ) (es : Placed) → level < above → BlockView k range.layout.width range.layout.slots words slot level code es
      → shares_pixel (window_between range.corners) (block_of level code (unlabelled es)) ≡ true
      → wholly_inside (window_between range.corners) (block_of level code (unlabelled es)) ≡ false
      → CountsTo r (of_blocks crossed_by_window (window_between range.corners)) range.most range.layout.slots s (block level code (unlabelled es) empty) t
  pub closed : CannotOpen range.layout.width words slot level code → r ≡ broken

-- from the root on
abbrev pub numbers_of : Sum → ℕ × ℕ × ℕ
numbers_of sum = (sum.found, sum.opened, sum.tested)

abbrev pub RootCase : (ℕ × ℕ × ℕ → Ending → Type 0) → Result Sum Damaged → Type 0
RootCase To (Ok sum) = To (numbers_of sum) done
RootCase To (Err _) = (t : ℕ × ℕ × ℕ) × To t broken

pub record RootCounted (opens : tree.Window → Forest → ℕ) (range : Range) (words : List ℕ) (order : ℕ) (r : Result Sum Damaged) : Type 0 where
  pub case : RootCase (BlockCounted opens range words level_above_root 0 order 0 (0, 0, 0)) r

-- 02, P6: the number that the slot of a block says is added; or this is damage: there is no such block, or N is passed
abbrev pub NumberCase : Range → List ℕ → ℕ → ℕ → ℕ → ℕ → ℕ → ℕ → Ending → Type 0
NumberCase range words above slot level code found after (Ok _) =
    (after ≡ found + number_word (slot_part range.layout.width words slot)) × (after ≤ range.most) × (CannotOpen range.layout.width words slot level code → ⊥)
NumberCase range words above slot level code found after (Err _) =
    slot < range.layout.slots → level < above → (CannotOpen range.layout.width words slot level code → ⊥) → range.most < found + number_word (slot_part range.layout.width words slot)

pub record NumberTaken (range : Range) (words : List ℕ) (above slot level code found after : ℕ) (r : Ending) : Type 0 where
  pub case : NumberCase range words above slot level code found after r

-- the same of the root, and so of the whole panel
abbrev pub root_part : List ℕ → List ℕ
root_part words = slot_part (slot_width (sizes_of words).k) words 0

abbrev pub WholeCase : List ℕ → Result Found Refusal → Type 0
WholeCase words (Ok sum) = (sum.found ≡ number_word (root_part words)) × (sum.opened ≡ 0) × (sum.found ≤ (sizes_of words).most) × (RootCannotOpen words → ⊥)
WholeCase words (Err refusal) = (refusal ≡ StoreDamaged) × ((RootCannotOpen words → ⊥) → (sizes_of words).most < number_word (root_part words))

pub record WholeCounted (words : List ℕ) (r : Result Found Refusal) : Type 0 where
  pub case : WholeCase words r

-- what is found of a pixel
abbrev pub found_of : Corners → ℕ → List ℕ
found_of corners code = found (window_between corners) (pixels {A = Unit {0}} (pixel code empty))

-- a pixel is added to those found exactly if the window has it
pub record PixelCounted (corners : Corners) (code found r : ℕ) : Type 0 where
  pub says : Ordered (window_between corners) → found + length (found_of corners code) ≤ largest_most → r ≡ found + length (found_of corners code)

-- these numbers, unless they are more than may be
abbrev pub SumCase : Range → Sum → Result Found Refusal → Type 0
SumCase range sum (Ok told) = (told.found ≡ sum.found) × (told.opened ≡ sum.opened) × (told.found ≤ range.most) × (told.opened ≤ range.layout.slots)
SumCase range sum (Err refusal) = (refusal ≡ StoreDamaged) × (sum.found ≤ range.most → range.layout.slots < sum.opened)

pub record SumWithin (range : Range) (sum : Sum) (r : Result Found Refusal) : Type 0 where
  pub case : SumCase range sum r
