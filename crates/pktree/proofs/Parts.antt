-- 02, P3: the part of a window on the panel has the panel's pixels that the window has, and is empty where there are none.
use Prim.Native.Nat.{ℕ, ◌≤◌}
use native.Mathlib.Omega.{arith}
use mathlib.Core.Path.{◌≡◌, refl, ap}
use mathlib.Core.Logic.{◌↔◌}
use mathlib.Core.Bool.{Bool, true, false, not, ◌&&◌}
use mathlib.Core.List.{List, [], ◌∷◌}
use lib.ListN.{length}
use lib.Pow.{pow_pos}
use Rattle.morton.specs.Code.{x_of, y_of}
use Rattle.pktree.specs.Lists.{select}
use Rattle.pktree.specs.Panel.{Panel, HasPixel}
use Rattle.pktree.specs.Elements.{Forest}
use Rattle.pktree.specs.Tree.{BlockOf, blocks}
use Rattle.pktree.specs.Window.{Window, in_window, Ordered, part_on, found, shares_pixel, wholly_inside, over_edge, opened_by_window, crossed_by_window}
use Rattle.pktree.proofs.Absurd.{false_unless}
use Rattle.pktree.proofs.Windows.{in_window_exactly, shares_pixel_exactly}

-- the position lies between the window's corners
abbrev pub Covers : Window → ℕ → ℕ → Type 0
Covers window x y = ((window.x0 ≤ x) × (x ≤ window.x1)) × ((window.y0 ≤ y) × (y ≤ window.y1))

-- 02: a window wholly off the panel has none of its pixels
abbrev pub WhollyOff : Panel → Window → Type 0
WhollyOff panel window = (x y : ℕ) → HasPixel panel x y → Covers window x y → ⊥

module _ (panel : Panel) (window : Window) where
  -- the part begins on the panel, and in the window
  pub record Begins : Type 0 where
    pub on_panel : HasPixel panel window.x0 window.y0
    pub ordered : Ordered window

  pub part_begins : Ordered (part_on panel window) → Begins
  part_begins o = let side = pow_pos panel.order in
      record { on_panel = (omega (arith, side, o.x_ordered), omega (arith, side, o.y_ordered)); ordered = record { x_ordered = omega (arith, o.x_ordered); y_ordered = omega (arith, o.y_ordered) } }

  -- what the definition means: its pixels are the window's pixels on the panel
  pub part_has : (code : ℕ) → (in_window (part_on panel window) code ≡ true) ↔ ((in_window window code ≡ true) × HasPixel panel (x_of code) (y_of code))
  part_has code =
      let side = pow_pos panel.order in
      let part = in_window_exactly (part_on panel window) code in
      let whole = in_window_exactly window code in (
        (λ t. let h = part.0 t in (whole.1 (omega (arith, h)), (omega (arith, h, side), omega (arith, h, side)))),
        (λ t. let h = whole.0 t.0 in part.1 (omega (arith, h, t.1))),
      )

  -- and it is empty exactly where the window is wholly off
  pub empty_exactly : (Ordered (part_on panel window) → ⊥) ↔ WhollyOff panel window
  empty_exactly = (
    (λ none x y on covered. none (record { x_ordered = omega (arith, on, covered); y_ordered = omega (arith, on, covered) })),
    (λ off o. let b = part_begins o in off window.x0 window.y0 b.on_panel ((omega arith, b.ordered.x_ordered), (omega arith, b.ordered.y_ordered))),
  )

-- a window whose corners are not in order has no pixel, so nothing is found in it and no block opened
select_none : {A : Type 0} (test : A → Bool) → ((a : A) → test a ≡ false) → (l : List A) → select test l ≡ []
select_none test none [] = refl
select_none test none (a ∷ l) = rw (none a) (select_none test none l)

module _ {window : Window} (none : Ordered window → ⊥) where
  none_in : (code : ℕ) → in_window window code ≡ true → ⊥
  none_in code t = let h = (in_window_exactly window code).0 t in none (record { x_ordered = omega (arith, h); y_ordered = omega (arith, h) })

  pub none_found : (set : List ℕ) → found window set ≡ []
  none_found set = select_none (in_window window) (λ code. false_unless _ (none_in code)) set

  shares_none : (b : BlockOf) → shares_pixel window b ≡ false
  shares_none b = false_unless _ (λ t. let s = (shares_pixel_exactly window b).0 t in none_in s.0 s.3)

  pub none_opened : (f : Forest) → opened_by_window window f ≡ 0
  none_opened f = ap length (select_none (shares_pixel window) shares_none (blocks f))

  pub none_crossed : (f : Forest) → crossed_by_window window f ≡ 0
  none_crossed f = ap length (select_none (over_edge window) (λ b. ap (λ (t : Bool). t && not (wholly_inside window b)) (shares_none b)) (blocks f))
