-- 01 "Calls": which pixels a window has, and which blocks a call opens; 02, P3: the part of a window on the panel; 02, P4: which
-- blocks lie wholly inside a window, and how many elements a walk tests singly; 02, P6: which blocks a count opens.
use Rattle.std.specs.Prelude.{ℕ, zero, suc, ◌+◌, ◌-◌, ◌^◌, ◌≤◌, min, Bool, true, false, not, ◌&&◌, ◌||◌, List, ltb, leb, length}
use Rattle.morton.specs.Code.{x_of, y_of}
use Rattle.pktree.specs.Lists.{select, total}
use Rattle.pktree.specs.Panel.{Panel}
use Rattle.pktree.specs.Elements.{Forest, size}
use Rattle.pktree.specs.Tree.{BlockOf, blocks}

pub record Window : Type 0 where
  pub x0 : ℕ
  pub y0 : ℕ
  pub x1 : ℕ
  pub y1 : ℕ

-- both corners included
abbrev pub in_window : Window → ℕ → Bool
in_window window code =
    (leb window.x0 (x_of code) && leb (x_of code) window.x1) && (leb window.y0 (y_of code) && leb (y_of code) window.y1)

-- the corners are in order, so that pixels lie between them
pub record Ordered (window : Window) : Type 0 where
  pub x_ordered : window.x0 ≤ window.x1
  pub y_ordered : window.y0 ≤ window.y1

-- 02, P3: the part of a window on the panel: its far corner lowered to the panel's last column and row. A part that is not ordered is empty.
abbrev pub part_on : Panel → Window → Window
part_on panel window = record { x0 = window.x0; y0 = window.y0; x1 = min window.x1 (2 ^ panel.order - 1); y1 = min window.y1 (2 ^ panel.order - 1) }

-- the pixels of a set that a window has
abbrev pub found : Window → List ℕ → List ℕ
found window set = select (in_window window) set

-- some code of the n codes from `from` on passes the test
unfoldable pub some_from : (ℕ → Bool) → ℕ → ℕ → Bool
some_from test zero from = false
some_from test (suc n) from = test from || some_from test n (suc from)

-- some pixel lies in the block and in the window
abbrev pub shares_pixel : Window → BlockOf → Bool
shares_pixel window b = some_from (in_window window) (4 ^ b.level) b.code

-- every code of the n codes from `from` on passes the test
unfoldable pub every_from : (ℕ → Bool) → ℕ → ℕ → Bool
every_from test zero from = true
every_from test (suc n) from = test from && every_from test n (suc from)

-- 02, P4: every pixel of the block lies in the window
abbrev pub wholly_inside : Window → BlockOf → Bool
wholly_inside window b = every_from (in_window window) (4 ^ b.level) b.code

-- some pixel of it does, and not every one
abbrev pub over_edge : Window → BlockOf → Bool
over_edge window b = shares_pixel window b && not (wholly_inside window b)

abbrev pub holds_pixel : ℕ → BlockOf → Bool
holds_pixel code b = leb b.code code && ltb code (b.code + 4 ^ b.level)

-- 01: the number of blocks that list opens, and that ask opens
abbrev pub opened_by_window : Window → Forest → ℕ
opened_by_window window t = length (select (shares_pixel window) (blocks t))

abbrev pub opened_by_pixel : ℕ → Forest → ℕ
opened_by_pixel code t = length (select (holds_pixel code) (blocks t))

-- 02, P6: and that count opens: a block wholly inside is taken by its number
abbrev pub crossed_by_window : Window → Forest → ℕ
crossed_by_window window t = length (select (over_edge window) (blocks t))

-- 02, P4: the number of elements that count and list test singly: those of the opened blocks that are not wholly inside
abbrev pub tested_by_window : Window → Forest → ℕ
tested_by_window window t = total (λ b. size b.elements) (select (over_edge window) (blocks t))
