-- What the walks that write the found codes leave in the output.
use Rattle.std.specs.Prelude.{◌≡◌, ℕ, ◌+◌, ◌<◌, ◌≤◌, List, [], ◌∷◌, ◌++◌, length, take, drop, Result}
use Rattle.store.specs.declared.Damaged.{Damaged}
use Rattle.pktree.specs.Elements.{Forest}
use Rattle.pktree.specs.Tree.{pixels}
use Rattle.pktree.specs.Window.{Ordered, opened_by_window}
use Rattle.pktree.proofs.Forests.{block_count}
use Rattle.measures.specs.Layout.{level_above_root}
use Rattle.measures.specs.Sizes.{largest_most}
use Rattle.measures.specs.declared.sizes.Layout.{Layout}
use Rattle.store.specs.Opening.{CannotOpen}
use Rattle.walks.proofs.Walks.{BlockWalked}
use Rattle.query.specs.WindowRange.{Range}
use Rattle.query.specs.declared.walk.Sum.{Sum}
use Rattle.windows.specs.declared.Corners.{Corners}
use Rattle.windows.specs.Corners.{window_between}
use Rattle.query.specs.Counting.{Findings, of_blocks, Room, Counts, Ending, broken, done, SharingWalked, RootCase, found_of, PixelCounted}

-- these codes written from index `at` on, the rest unchanged
abbrev pub written_at : List ℕ → ℕ → List ℕ → List ℕ
written_at output at codes = take at output ++ (codes ++ drop (at + length codes) output)

-- they stand in the output, where there is room for them
abbrev pub Wrote : List ℕ → ℕ → List ℕ → List ℕ → Type 0
Wrote codes at before after = at + length codes ≤ length before → after ≡ written_at before at codes

-- of what lies wholly inside the window: all, and no test
abbrev pub of_all : Findings
of_all = record { codes = pixels; blocks = block_count; tests = λ f. 0 }

-- from the output and the numbers s, a walk over these elements comes to t: the numbers are count's, and what is found is written
pub record Lists (findings : Findings) (most slots : ℕ) (s : List ℕ × ℕ × ℕ × ℕ) (f : Forest) (t : List ℕ × ℕ × ℕ × ℕ) : Type 0 where
  pub counts : Counts findings most slots (s.1, s.2, s.3) f (t.1, t.2, t.3)
  pub wrote : Room findings most slots (s.1, s.2, s.3) f → Wrote (findings.codes f) s.1 s.0 t.0

-- and where there is room the walk ends
pub record ListsTo (r : Ending) (findings : Findings) (most slots : ℕ) (s : List ℕ × ℕ × ℕ × ℕ) (f : Forest) (t : List ℕ × ℕ × ℕ × ℕ) : Type 0 where
  pub lists : Lists findings most slots s f t
  pub ends : Room findings most slots (s.1, s.2, s.3) f → r ≡ done

pub record BlockListed (range : Range) (words : List ℕ) (above slot level code : ℕ) (before after : List ℕ) (s t : ℕ × ℕ × ℕ) (r : Ending) : Type 0 where
  pub walked : SharingWalked (ListsTo r (of_blocks opened_by_window (window_between range.corners)) range.most range.layout.slots) range words above slot level code (before, s.0, s.1, s.2) (after, t.0, t.1, t.2)
  pub long : length after ≡ length before
  pub closed : CannotOpen range.layout.width words slot level code → r ≡ broken

-- a block wholly inside the window: all its codes are written, and no element of it is tested
pub record InsideListed (layout : Layout) (words : List ℕ) (above slot level code : ℕ) (before after : List ℕ) (s t : ℕ × ℕ × ℕ) (r : Ending) : Type 0 where
  pub walked : BlockWalked (ListsTo r of_all largest_most layout.slots) layout words above slot level code (before, s.0, s.1, s.2) (after, t.0, t.1, t.2)
  pub long : length after ≡ length before
  pub closed : CannotOpen layout.width words slot level code → r ≡ broken

-- the walk from the root into the first n words of the output: the rest is as it was
pub record RootListed (range : Range) (words : List ℕ) (order n : ℕ) (before after : List ℕ) (r : Result Sum Damaged) : Type 0 where
  pub part : List ℕ
  pub case : RootCase (BlockListed range words level_above_root 0 order 0 (take n before) part (0, 0, 0)) r
  pub is : after ≡ part ++ drop n before

-- a code is added to those found, and written where there is room
pub record CodeWritten (code at : ℕ) (before after : List ℕ) (r : ℕ) : Type 0 where
  pub counted : at + 1 ≤ largest_most → r ≡ at + 1
  pub long : length after ≡ length before
  pub wrote : Wrote (code ∷ []) at before after

-- a pixel is added and written so exactly if the window has it
pub record PixelListed (corners : Corners) (code at : ℕ) (before after : List ℕ) (r : ℕ) : Type 0 where
  pub counted : PixelCounted corners code at r
  pub long : length after ≡ length before
  pub wrote : Ordered (window_between corners) → Wrote (found_of corners code) at before after
