-- 01 "Sample panels": the starred lines, of the definitions, in one theorem; and 02, P4 and P8 on one of them.
use Rattle.std.specs.Prelude.{ℕ, ◌≡◌, List, [], ◌∷◌}
use Rattle.morton.specs.Code.{code_of}
use Rattle.pktree.specs.Panel.{Panel}
use Rattle.pktree.specs.PixelSet.{member, added, removed}
use Rattle.pktree.specs.Elements.{size, gather}
use Rattle.pktree.specs.Tree.{tree}
use Rattle.pktree.specs.SmallestBlock.{Smallest, pixel_elements}
use Rattle.pktree.specs.Window.{Window, tested_by_window}
use Rattle.pktree.specs.Entries.{Entry, entry, entries}

-- m = 3, k = 3 unless said
abbrev panel : Panel
panel = record { order = 3; k = 3 }

abbrev small : Panel
small = record { order = 1; k = 2 }

abbrev entries_of : Panel → List ℕ → List Entry
entries_of p set = entries (tree p (member set))

-- the panels of three lines, from which the lines after them go on
abbrev pub first_panel : List ℕ
first_panel = 0 ∷ 1 ∷ 2 ∷ 60 ∷ []

abbrev second_panel : List ℕ
second_panel = 0 ∷ 1 ∷ 4 ∷ []

abbrev third_panel : List ℕ
third_panel = 0 ∷ 1 ∷ 16 ∷ 17 ∷ 32 ∷ 33 ∷ 48 ∷ 49 ∷ []

-- a window by its corners
abbrev between : ℕ → ℕ → ℕ → ℕ → Window
between x0 y0 x1 y1 = record { x0 = x0; y0 = y0; x1 = x1; y1 = y1 }

-- the number of elements of the block of this level and code
abbrev elements_of : List ℕ → ℕ → ℕ → ℕ
elements_of set level code = size (gather (member set) 3 level code)

pub record StarredLines : Type 0 where
  pub first : entries_of panel first_panel ≡ entry 3 0 ∷ entry 1 0 ∷ entry 0 0 ∷ entry 0 1 ∷ entry 0 2 ∷ entry 0 60 ∷ []
  pub then_clear_1 : entries_of panel (removed 1 first_panel) ≡ entry 3 0 ∷ entry 0 0 ∷ entry 0 2 ∷ entry 0 60 ∷ []
  pub second : entries_of panel second_panel ≡ entry 3 0 ∷ entry 2 0 ∷ entry 0 0 ∷ entry 0 1 ∷ entry 0 4 ∷ []
  pub then_mark_2 : entries_of panel (added 2 second_panel) ≡ entry 3 0 ∷ entry 1 0 ∷ entry 0 0 ∷ entry 0 1 ∷ entry 0 2 ∷ entry 0 4 ∷ []
  -- "Mistakes close at hand": the level 2 block then has 4 pixels and 2 elements
  pub two_elements : elements_of (added 2 second_panel) 2 0 ≡ 2
  pub root_alone :
      entries_of panel third_panel
      ≡ entry 3 0 ∷ entry 0 0 ∷ entry 0 1 ∷ entry 0 16 ∷ entry 0 17 ∷ entry 0 32 ∷ entry 0 33 ∷ entry 0 48 ∷ entry 0 49 ∷ []
  pub eight_elements : elements_of third_panel 3 0 ≡ 8
  pub then_mark_4 :
      entries_of panel (added 4 third_panel)
      ≡ entry 3 0 ∷ entry 2 0 ∷ entry 0 0 ∷ entry 0 1 ∷ entry 0 4 ∷ entry 0 16 ∷ entry 0 17 ∷ entry 0 32 ∷ entry 0 33 ∷ entry 0 48 ∷ entry 0 49 ∷ []
  pub seven_elements : elements_of (added 4 third_panel) 3 0 ≡ 7
  pub small_empty : entries_of small [] ≡ entry 1 0 ∷ []
  pub small_full : entries_of small (0 ∷ 1 ∷ 2 ∷ 3 ∷ []) ≡ entry 1 0 ∷ entry 0 0 ∷ entry 0 1 ∷ entry 0 2 ∷ entry 0 3 ∷ []
  pub code_27 : code_of 5 3 ≡ 27
  pub code_last : code_of 65535 65535 ≡ 4294967295

-- 02, P4, of the first panel: its root has two elements, of which one is the block of level 1 at code 0, with three
pub record TestedSingly : Type 0 where
  pub whole_panel : tested_by_window (between 0 0 7 7) (tree panel (member first_panel)) ≡ 0
  pub without_last_column : tested_by_window (between 0 0 6 7) (tree panel (member first_panel)) ≡ 2
  pub one_pixel : tested_by_window (between 0 0 0 0) (tree panel (member first_panel)) ≡ 5

-- 02, P8, of the first panel: the smallest block around (0, 0), which is marked, and around (1, 1), code 3, which is not, is that of level 1; around
-- (3, 3), code 15, it is the root
pub record FirstLocated : Type 0 where
  pub at_0 : Smallest panel (member first_panel) 0 1 0
  pub at_3 : Smallest panel (member first_panel) 3 1 0
  pub at_15 : Smallest panel (member first_panel) 15 3 0
  -- the pixels 0 to 2 are no elements of the root
  pub elements_of_root : pixel_elements (gather (member first_panel) 3 3 0) ≡ 60 ∷ []
  pub elements_of_block : pixel_elements (gather (member first_panel) 3 1 0) ≡ 0 ∷ 1 ∷ 2 ∷ []
