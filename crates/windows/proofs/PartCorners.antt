-- The corners of a window's part on the panel, as the code makes them: the last column and row from a shift, each coordinate lowered to it.
use Prim.Native.Nat.{ℕ, ◌-◌, ◌*◌, ◌%◌, ◌^◌, ◌≤◌, ◌<◌, min}
use native.Mathlib.Omega.{arith}
use mathlib.Core.Path.{◌≡◌}
use Rattle.morton.specs.Coordinate.{largest_side}
use Rattle.morton.specs.Code.{code_of}
use Rattle.morton.proofs.Codes.{x_of_code, y_of_code}
use Rattle.measures.specs.declared.sizes.Sizes.{Sizes}
use Rattle.measures.specs.Sizes.{ValidSizes, panel_of}
use Rattle.morton.proofs.Side.{side_shifted}
use Rattle.windows.specs.declared.Window.{Window}
use Rattle.windows.specs.Corners.{window_of, PartBetween}

-- a coordinate lowered to the last has at most 16 bits, and so has one that is not beyond it
far_below : {sizes : Sizes} (given : ℕ) {far : ℕ} → ValidSizes sizes → far ≡ min given (1 * 2 ^ sizes.order % 4294967296 - 1) → far < largest_side
far_below given valid e = omega (arith, e, side_shifted valid.panel.order_to)

near_below : {sizes : Sizes} (given : ℕ) {near far : ℕ} → ValidSizes sizes → far ≡ min given (1 * 2 ^ sizes.order % 4294967296 - 1) → near ≤ far → near < largest_side
near_below given valid e h = omega (arith, h, far_below given valid e)

module _ {sizes : Sizes} (window : Window) (valid : ValidSizes sizes) {x1 : ℕ} (x : x1 ≡ min window.x1 (1 * 2 ^ sizes.order % 4294967296 - 1))
    {y1 : ℕ} (y : y1 ≡ min window.y1 (1 * 2 ^ sizes.order % 4294967296 - 1)) where
  pub part_made : {first last : ℕ} → window.x0 ≤ x1 → window.y0 ≤ y1 → first ≡ code_of window.x0 window.y0 → last ≡ code_of x1 y1
      → PartBetween (panel_of sizes) (window_of window) (record { first = first; last = last })
  part_made columns rows e f =
      let s = side_shifted valid.panel.order_to in
      let same_x : x1 ≡ min window.x1 (2 ^ sizes.order - 1) = omega (arith, x, s) in
      let same_y : y1 ≡ min window.y1 (2 ^ sizes.order - 1) = omega (arith, y, s) in
      record {
        is = rw (
          e,
          f,
          x_of_code window.x0 window.y0 (near_below _ valid x columns),
          y_of_code window.x0 window.y0 (near_below _ valid y rows),
          x_of_code x1 y1 (far_below _ valid x),
          y_of_code x1 y1 (far_below _ valid y),
          same_x,
          same_y,
        );
        ordered = record { x_ordered = omega arith; y_ordered = omega arith };
      }
