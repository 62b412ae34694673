-- Distances in words: squares of 16-bit numbers, the side of a block, and the coordinates of a place.
use Prim.Native.Nat.{ℕ, ◌+◌, ◌*◌, ◌^◌, ◌%◌, ◌≤◌, ◌<◌}
use native.Mathlib.Omega.{arith}
use native.Mathlib.Nat.{mul-le-mul, pow-le-pow_right, one-le-pow, mod-eq_of_lt, one-mul}
use mathlib.Core.Path.{◌≡◌, ap, ap₂, ◌∙◌}
use Rattle.morton.specs.Code.{x_of, y_of, code_of}
use Rattle.morton.specs.Coordinate.{Coordinate, largest_side}
use Rattle.morton.proofs.Codes.{x_of_code, y_of_code, code_of_coordinates}
use Rattle.searching.specs.Distance.{apart, clamped, square, squared_distance, block_distance}
use Rattle.meeting.specs.declared.place.Place.{Place}
use Rattle.meeting.specs.Place.{place_code, PlaceOf, Squared, ToPixel, ToBlock}

-- the place of a code has that code
pub at_code : {code : ℕ} {place : Place} → code < 4294967296 → Coordinate (x_of code) place.x → Coordinate (y_of code) place.y → PlaceOf code place
at_code {code} fits xs ys = record { code_is = ap₂ code_of xs.is ys.is ∙ code_of_coordinates code fits }

pub square_below : (a : ℕ) → a < largest_side → a * a ≤ 4294836225
square_below a h = let h' : a ≤ 65535 = omega arith in mul-le-mul h' h'

-- the side of a block, as a 32-bit number
abbrev pub side_word : ℕ → ℕ
side_word level = 1 * 2 ^ level % 4294967296

pub record SideOf (level side : ℕ) : Type 0 where
  pub is : side ≡ 2 ^ level
  pub from : 1 ≤ side
  pub to : side ≤ largest_side

pub side_of : (level : ℕ) → level ≤ 16 → SideOf level (side_word level)
side_of level h =
    let to : 2 ^ level ≤ largest_side = pow-le-pow_right {n = 2} (omega arith) h in
    let from : 1 ≤ 2 ^ level = one-le-pow level 2 (omega arith) in
    let e : side_word level ≡ 2 ^ level = ap (λ (n : ℕ). n % 4294967296) (one-mul (2 ^ level)) ∙ mod-eq_of_lt (omega arith) in
    record { is = e; from = omega (arith, e); to = omega (arith, e) }

module _ (place : Place) where
  x_is : x_of (place_code place) ≡ place.x
  x_is = x_of_code place.x place.y place.x_below

  y_is : y_of (place_code place) ≡ place.y
  y_is = y_of_code place.x place.y place.y_below

module _ {place : Place} where
  pub to_pixel : {code x y dx dy r : ℕ} → Coordinate (x_of code) x → Coordinate (y_of code) y → dx ≡ apart place.x x → dy ≡ apart place.y y → Squared dx dy r → ToPixel place code r
  unfolding squared_distance
  to_pixel {code} {x} {y} {dx} {dy} cx cy ax ay s =
      let fx : dx ≡ apart (x_of (place_code place)) (x_of code) = rw (x_is place, ← cx.is) ax in
      let fy : dy ≡ apart (y_of (place_code place)) (y_of code) = rw (y_is place, ← cy.is) ay in
      record { is = s.is ∙ ap₂ (λ (a b : ℕ). square a + square b) fx fy; below = s.below }

  pub to_block : {code level side x y dx dy r : ℕ} → SideOf level side → Coordinate (x_of code) x → Coordinate (y_of code) y
      → Coordinate (apart place.x (clamped x side place.x)) dx → Coordinate (apart place.y (clamped y side place.y)) dy → Squared dx dy r → ToBlock place level code r
  unfolding block_distance
  to_block {code} {level} {side} {x} {y} {dx} {dy} w cx cy ax ay s =
      let fx : dx ≡ apart (x_of (place_code place)) (clamped (x_of code) (2 ^ level) (x_of (place_code place))) = rw (x_is place, ← cx.is, ← w.is) ax.is in
      let fy : dy ≡ apart (y_of (place_code place)) (clamped (y_of code) (2 ^ level) (y_of (place_code place))) = rw (y_is place, ← cy.is, ← w.is) ay.is in
      record { is = s.is ∙ ap₂ (λ (a b : ℕ). square a + square b) fx fy; below = s.below }
