-- The squared distance to a block is the least of the squared distances to its positions.
use Prim.Native.Nat.{ℕ, ◌+◌, ◌^◌, ◌≤◌, ◌<◌}
use native.Mathlib.Omega.{arith}
use native.Mathlib.Nat.{mul-le-mul, pow-le-pow_right, lt_of_lt_of_le}
use native.Mathlib.Decide.{dec_lt}
use mathlib.Core.Path.{◌≡◌, refl}
use lib.Pow.{pow_pos as side-pos}
use Rattle.morton.specs.Code.{x_of, y_of, code_of}
use Rattle.morton.proofs.Codes.{x_of_code, y_of_code, interleave_below}
use Rattle.pktree.specs.Panel.{Panel, Valid, Block}
use Rattle.pktree.proofs.Alignment.{aligned_multiple, blocks_nest}
use Rattle.pktree.proofs.Windows.{block_is_square, corner_of_aligned}
use Rattle.searching.specs.Distance.{apart, square, clamped, squared_distance, block_distance}
use Rattle.searching.specs.NearestPosition.{Position, NearestPosition}

square_grows : {a b : ℕ} → a ≤ b → square a ≤ square b
square_grows h = mul-le-mul h h

-- what stands between two coordinates is nearer to each
between_below : (a c z : ℕ) → a ≤ c → c ≤ z → apart a c ≤ apart a z
between_below a c z p q = omega arith

between_above : (a c z : ℕ) → z ≤ c → c ≤ a → apart a c ≤ apart a z
between_above a c z p q = omega arith

-- no coordinate of the side is nearer than the clamped one, and that is on the side
clamped_nearest : (from side a z : ℕ) → from ≤ z → z < from + side → apart a (clamped from side a) ≤ apart a z
clamped_nearest from side a z p q = go (dec_lt z a)
  where
    low : a ≤ z → (a ≤ clamped from side a) × (clamped from side a ≤ z)
    low h = omega arith

    high : z < a → (z ≤ clamped from side a) × (clamped from side a ≤ a)
    high h = omega arith

    go : Dec (z < a) → apart a (clamped from side a) ≤ apart a z
    go (yes h) = between_above a (clamped from side a) z (high h).0 (high h).1
    go (no h) = between_below a (clamped from side a) z (low (omega arith)).0 (low (omega arith)).1

clamped_inside : (from side a : ℕ) → 0 < side → (from ≤ clamped from side a) × (clamped from side a < from + side)
clamped_inside from side a h = omega arith

module _ (panel : Panel) (place level code : ℕ) (valid : Valid panel) (is : Block panel level code) where
  end : code + 4 ^ level ≤ 4 ^ 16
  end =
      let fits : code < 4 ^ 16 = lt_of_lt_of_le is.corner (pow-le-pow_right (omega arith) valid.order_to) in
      blocks_nest level 16 code (4 ^ 16) (omega (arith, valid.order_to, is.low)) is.aligned (aligned_multiple 16 (4 ^ 16) 1 refl) fits

  -- no position of the block is nearer
  block_distance_least : (p : ℕ) → Position level code p → block_distance place level code ≤ squared_distance place p
  unfolding block_distance squared_distance
  block_distance_least p h =
      let inside = (block_is_square panel level code p valid is (omega (arith, end))).0 (h.starts, h.ends) in
      let x = square_grows (clamped_nearest (x_of code) (2 ^ level) (x_of place) (x_of p) inside.0 inside.1) in
      let y = square_grows (clamped_nearest (y_of code) (2 ^ level) (y_of place) (y_of p) inside.2 inside.3) in
      omega arith

  -- and one is as near
  pub nearest_position : NearestPosition place level code
  unfolding block_distance squared_distance
  nearest_position =
      let corner = corner_of_aligned level code (omega (arith, valid.order_to, is.low)) is.aligned in
      let x : ℕ = clamped (x_of code) (2 ^ level) (x_of place) in
      let y : ℕ = clamped (y_of code) (2 ^ level) (y_of place) in
      let inX = clamped_inside (x_of code) (2 ^ level) (x_of place) (side-pos level) in
      let inY = clamped_inside (y_of code) (2 ^ level) (y_of place) (side-pos level) in
      let hx : x < 65536 = omega (arith, corner.room_x) in
      let hy : y < 65536 = omega (arith, corner.room_y) in
      let px : x_of (code_of x y) ≡ x = x_of_code x y hx in
      let py : y_of (code_of x y) ≡ y = y_of_code x y hy in
      let inside = (block_is_square panel level code (code_of x y) valid is (interleave_below 16 16 x y hx hy)).1 (rw (px, py) (inX.0, inX.1, inY.0, inY.1)) in
      record {
        least = block_distance_least;
        position = code_of x y;
        is_position = record { starts = inside.0; ends = inside.1 };
        reached = rw (px, py);
      }
