-- The window of a call as 01's, its part on the panel between two corners given by their codes, and the tests that a walk makes of it.
use Rattle.std.specs.Prelude.{ℕ, ◌+◌, ◌^◌, ◌≤◌, ◌≡◌, Bool, true, false, Option, Some, None}
use Rattle.morton.specs.Code.{x_of, y_of}
use Rattle.pktree.specs.Panel.{Panel, Aligned}
use Rattle.pktree.specs.Elements.{Forest}
use Rattle.pktree.specs.Tree.{block_of}
use Rattle.pktree.specs.Window as tree
use Rattle.pktree.specs.Window.{in_window, Ordered, part_on, shares_pixel, wholly_inside}
use Rattle.windows.specs.declared.Window.{Window}
use Rattle.windows.specs.declared.Corners.{Corners}
use Rattle.windows.specs.declared.Lying.{Lying}
use Rattle.windows.specs.declared.Lying.TheVariants.{Apart, OverEdge, Inside}
use Rattle.measures.specs.declared.sizes.Sizes.{Sizes}

abbrev pub window_of : Window → tree.Window
window_of w = record { x0 = w.x0; y0 = w.y0; x1 = w.x1; y1 = w.y1 }

-- both corners included
abbrev pub window_between : Corners → tree.Window
window_between c = record { x0 = x_of c.first; y0 = y_of c.first; x1 = x_of c.last; y1 = y_of c.last }

-- 02, P3: the part of a window on the panel lies between these corners
pub record PartBetween (panel : Panel) (window : tree.Window) (corners : Corners) : Type 0 where
  pub is : window_between corners ≡ part_on panel window
  pub ordered : Ordered (part_on panel window)

-- or is empty
abbrev pub PartOf : Panel → tree.Window → Option Corners → Type 0
PartOf panel window (Some corners) = PartBetween panel window corners
PartOf panel window None = Ordered (part_on panel window) → ⊥

-- the corners of some part of the panel
abbrev pub PartCorners : Panel → Corners → Type 0
PartCorners panel corners = PartBetween panel (window_between corners) corners

-- a block that a panel can have: its level, its code and its end
pub record OnGrid (level code : ℕ) : Type 0 where
  pub level_from : 1 ≤ level
  pub level_to : level ≤ 16
  pub aligned : Aligned level code
  pub ends : code + 4 ^ level ≤ 4 ^ 16

pub record PixelTested (corners : Corners) (code : ℕ) (r : Bool) : Type 0 where
  pub says : Ordered (window_between corners) → r ≡ in_window (window_between corners) code

pub record SharingTested (corners : Corners) (level code : ℕ) (r : Bool) : Type 0 where
  pub says : OnGrid level code → Ordered (window_between corners) → (es : Forest) → r ≡ shares_pixel (window_between corners) (block_of level code es)

pub record InsideTested (corners : Corners) (level code : ℕ) (r : Bool) : Type 0 where
  pub says : OnGrid level code → (es : Forest) → r ≡ wholly_inside (window_between corners) (block_of level code es)

-- both tests of a block in one answer
abbrev pub LyingCase : tree.Window → ℕ → ℕ → Forest → Lying → Type 0
LyingCase window level code es Apart = shares_pixel window (block_of level code es) ≡ false
LyingCase window level code es OverEdge = (shares_pixel window (block_of level code es) ≡ true) × (wholly_inside window (block_of level code es) ≡ false)
LyingCase window level code es Inside = (shares_pixel window (block_of level code es) ≡ true) × (wholly_inside window (block_of level code es) ≡ true)

pub record LyingTested (corners : Corners) (level code : ℕ) (r : Lying) : Type 0 where
  pub says : OnGrid level code → Ordered (window_between corners) → (es : Forest) → LyingCase (window_between corners) level code es r

-- 02, P6: the window has the whole panel
pub record HasPanel (order : ℕ) (window : Window) : Type 0 where
  pub first_column : window.x0 ≡ 0
  pub first_row : window.y0 ≡ 0
  pub last_column : 2 ^ order ≤ window.x1 + 1
  pub last_row : 2 ^ order ≤ window.y1 + 1

pub record PanelTested (sizes : Sizes) (window : Window) (r : Bool) : Type 0 where
  pub holds : r ≡ true → HasPanel sizes.order window
  pub lacks : r ≡ false → HasPanel sizes.order window → ⊥
