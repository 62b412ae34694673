-- Windows and blocks as squares: which codes a window has, which a block has, and when the two have a pixel in common.
use Prim.Native.Nat.{ℕ, zero, suc, ◌+◌, ◌-◌, ◌*◌, ◌/◌, ◌^◌, ◌≤◌, ◌<◌, max}
use native.Mathlib.Omega.{arith}
use native.Mathlib.Nat.{
  pow-succ',
  pow-le-pow_right,
  sub-zero,
  suc-sub-suc,
  sub-add_cancel,
  lt_of_lt_of_le,
  div-div-eq-div-mul,
  mul_comm,
  zero-sub,
  mul-one,
  div-mul-le_self,
  lt-div-mul-add,
  div-eq_of_lt-le,
  mul-div_cancel,
  mul-le-mul_right,
  eq-or-lt_of_le,
}
use mathlib.Core.Path.{◌≡◌, refl, ap}
use mathlib.Core.Logic.{◌↔◌, ◌⊎◌, inl, inr}
use mathlib.Core.Bool.{Bool, true, false, ◌&&◌, ◌||◌, false≢true, or-true, and-eq-true_iff}
use lib.Dec.{leb}
use lib.Pow.{pow-add, pow_pos as side-pos}
use borrow.Author.Tests.{le-leb, leb-true}
use Rattle.morton.specs.Coordinate.{largest_side}
use Rattle.morton.specs.Code.{gather_bits, interleave, code_of, x_of, y_of}
use Rattle.morton.proofs.Codes.{x_of_code, y_of_code, code_of_coordinates, interleave_below, gather_below}
use Rattle.morton.proofs.Blocks.{block_of_code, gather_of_block}
use Rattle.pktree.specs.Panel.{Panel, Valid, Aligned, Block}
use Rattle.pktree.specs.Elements.{Forest}
use Rattle.pktree.specs.Tree.{BlockOf, block_of}
use Rattle.pktree.specs.Window.{Window, in_window, some_from, shares_pixel}
use Rattle.pktree.proofs.Alignment.{pow_pos, aligned_multiple, blocks_nest}

-- a code of the n codes from `from` on that passes the test
abbrev Passing : (ℕ → Bool) → ℕ → ℕ → Type 0
Passing test n from = (code : ℕ) × (from ≤ code) × (code < from + n) × (test code ≡ true)

some_from_exactly
    : (test : ℕ → Bool) (n from : ℕ)
    → (some_from test n from ≡ true) ↔ ((code : ℕ) × (from ≤ code) × (code < from + n) × (test code ≡ true))
unfolding some_from
some_from_exactly test zero from = ((λ e. absurd (false≢true e)), (λ s. absurd (omega (arith, s.1, s.2))))
some_from_exactly test (suc n) from = (find (some_from_exactly test n (suc from)).0 (test from) refl, met (some_from_exactly test n (suc from)).1)
  where
    find : (some_from test n (suc from) ≡ true → Passing test n (suc from))
        → (t : Bool) → test from ≡ t → (t || some_from test n (suc from)) ≡ true → Passing test (suc n) from
    find later true e h = (from, omega arith, omega arith, e)
    find later false e h = let s = later h in (s.0, omega (arith, s.1), omega (arith, s.2), s.3)

    met : (Passing test n (suc from) → some_from test n (suc from) ≡ true)
        → Passing test (suc n) from → (test from || some_from test n (suc from)) ≡ true
    met later s = go (eq-or-lt_of_le s.1)
      where
        go : (from ≡ s.0) ⊎ (from < s.0) → (test from || some_from test n (suc from)) ≡ true
        go (inl e) = let t : test from ≡ true = rw e s.3 in rw t
        go (inr p) = rw (later (s.0, p, omega (arith, s.2), s.3)) (or-true (test from))

-- the test of a block says that some pixel of it is in the window
pub shares_pixel_exactly
    : (window : Window) (b : BlockOf)
    → (shares_pixel window b ≡ true) ↔ ((code : ℕ) × (b.code ≤ code) × (code < b.code + 4 ^ b.level) × (in_window window code ≡ true))
shares_pixel_exactly window b = some_from_exactly (in_window window) (4 ^ b.level) b.code

between_exactly : (a b c : ℕ) → ((leb a b && leb b c) ≡ true) ↔ ((a ≤ b) × (b ≤ c))
between_exactly a b c = (
  (λ t. let h = (and-eq-true_iff (leb a b) (leb b c)).0 t in (leb-true a b h.0, leb-true b c h.1)),
  (λ h. (and-eq-true_iff (leb a b) (leb b c)).1 (le-leb a b h.0, le-leb b c h.1)),
)

both_between_exactly
    : (a b c d e f : ℕ)
    → (((leb a b && leb b c) && (leb d e && leb e f)) ≡ true) ↔ ((a ≤ b) × (b ≤ c) × (d ≤ e) × (e ≤ f))
both_between_exactly a b c d e f =
    let both = and-eq-true_iff (leb a b && leb b c) (leb d e && leb e f) in
    let low = between_exactly a b c in
    let high = between_exactly d e f in (
      (λ t. ((low.0 (both.0 t).0).0, (low.0 (both.0 t).0).1, (high.0 (both.0 t).1).0, (high.0 (both.0 t).1).1)),
      (λ h. both.1 (low.1 (h.0, h.1), high.1 (h.2, h.3))),
    )

pub in_window_exactly
    : (window : Window) (code : ℕ)
    → (in_window window code ≡ true) ↔ ((window.x0 ≤ x_of code) × (x_of code ≤ window.x1) × (window.y0 ≤ y_of code) × (y_of code ≤ window.y1))
in_window_exactly window code = both_between_exactly window.x0 (x_of code) window.x1 window.y0 (y_of code) window.y1

-- what lies within w of a multiple of w has its quotient
pub within_multiple : (w c p : ℕ) → 0 < w → c / w * w ≡ c → ((c ≤ p) × (p < c + w)) ↔ (p / w ≡ c / w)
within_multiple w c p h a = (
  (λ b. div-eq_of_lt-le w (omega arith) (omega arith)),
  (λ e. let e' : p / w * w ≡ c / w * w = rw e in (omega (arith, div-mul-le_self p w), omega (arith, lt-div-mul-add {a = p} h))),
)

-- the coordinates of a multiple of 4 ^ i are multiples of 2 ^ i
coordinates_of_multiple
    : (n i q : ℕ)
    → (gather_bits n (q * 4 ^ i) ≡ gather_bits (n - i) q * 2 ^ i) × (gather_bits n (q * 4 ^ i / 2) ≡ gather_bits (n - i) (q / 2) * 2 ^ i)
unfolding gather_bits
coordinates_of_multiple n zero q = simp (sub-zero, mul-one) (refl, refl)
coordinates_of_multiple zero (suc i) q = rw zero-sub (omega arith)
coordinates_of_multiple (suc n) (suc i) q =
    let m : ℕ = q * 4 ^ i in
    let e : q * 4 ^ suc i ≡ 4 * m = omega (arith, ap (λ (p : ℕ). q * p) (pow-succ' 4 i)) in
    let ex : 4 * m / 4 ≡ m = omega arith in
    let ey : 4 * m / 2 / 4 ≡ m / 2 = omega arith in
    let h = coordinates_of_multiple n i q in (
      rw (e, ex, suc-sub-suc n i) (omega (arith, h.0, ap (λ (p : ℕ). gather_bits (n - i) q * p) (pow-succ' 2 i))),
      rw (e, ey, suc-sub-suc n i) (omega (arith, h.1, ap (λ (p : ℕ). gather_bits (n - i) (q / 2) * p) (pow-succ' 2 i))),
    )

-- a multiple of 2 ^ i by a number of n - i bits: on the grid of side 2 ^ i, with room for that side below 2 ^ n
on_grid : (n i g z : ℕ) → i ≤ n → z ≡ gather_bits (n - i) g * 2 ^ i → (z / 2 ^ i * 2 ^ i ≡ z) × (z + 2 ^ i ≤ 2 ^ n)
on_grid n i g z h e =
    let whole : 2 ^ n ≡ 2 ^ (n - i) * 2 ^ i = rw (← pow-add 2 (n - i) i, sub-add_cancel h) in (
      rw (e, mul-div_cancel (gather_bits (n - i) g) (side-pos i)),
      omega (arith, mul-le-mul_right (2 ^ i) (gather_below (n - i) g)),
    )

-- the lowest corner of an aligned block is on the grid of the block's side, and the block ends at 2 ^ 16 or before
pub record Corner (level code : ℕ) : Type 0 where
  pub grid_x : x_of code / 2 ^ level * 2 ^ level ≡ x_of code
  pub grid_y : y_of code / 2 ^ level * 2 ^ level ≡ y_of code
  pub room_x : x_of code + 2 ^ level ≤ largest_side
  pub room_y : y_of code + 2 ^ level ≤ largest_side

pub corner_of_aligned : (level code : ℕ) → level ≤ 16 → Aligned level code → Corner level code
corner_of_aligned level code h a =
    let q : ℕ = code / 4 ^ level in
    let e = coordinates_of_multiple 16 level q in
    let x = on_grid 16 level q (x_of code) h (rw a at e).0 in
    let y = on_grid 16 level (q / 2) (y_of code) h (rw a at e).1 in
    record { grid_x = x.0; grid_y = y.0; room_x = x.1; room_y = y.1 }

half_of_block : (i c : ℕ) → c / 2 / 4 ^ i ≡ c / 4 ^ i / 2
half_of_block i c = rw (div-div-eq-div-mul c 2, div-div-eq-div-mul c (4 ^ i), mul_comm 2)

block_by_coordinates : (i c : ℕ) → i ≤ 16 → c < 4 ^ 16 → c / 4 ^ i ≡ interleave (16 - i) (x_of c / 2 ^ i) (y_of c / 2 ^ i)
block_by_coordinates i c h b = rw (← block_of_code 16 i (x_of c) (y_of c) h, code_of_coordinates c b)

-- codes have one block exactly when their pixels have one square
same_block_exactly
    : (i c p : ℕ) → i ≤ 16 → c < 4 ^ 16 → p < 4 ^ 16
    → (p / 4 ^ i ≡ c / 4 ^ i) ↔ ((x_of p / 2 ^ i ≡ x_of c / 2 ^ i) × (y_of p / 2 ^ i ≡ y_of c / 2 ^ i))
same_block_exactly i c p h bc bp = (
  (λ e. (
    rw (gather_of_block 16 i p h, gather_of_block 16 i c h, e),
    rw (gather_of_block 16 i (p / 2) h, gather_of_block 16 i (c / 2) h, half_of_block i p, half_of_block i c, e),
  )),
  (λ e. rw (block_by_coordinates i p h bp, block_by_coordinates i c h bc, e.0, e.1)),
)

code_fits : (panel : Panel) (level code : ℕ) → Valid panel → Block panel level code → code < 4 ^ 16
code_fits panel level code valid block = lt_of_lt_of_le block.corner (pow-le-pow_right (omega arith) valid.order_to)

-- a code is in a block exactly when its pixel is in the square of side 2 ^ level at the block's lowest corner
pub block_is_square
    : (panel : Panel) (level code p : ℕ) → Valid panel → Block panel level code → p < 4 ^ 16
    → ((code ≤ p) × (p < code + 4 ^ level))
    ↔ ((x_of code ≤ x_of p) × (x_of p < x_of code + 2 ^ level) × (y_of code ≤ y_of p) × (y_of p < y_of code + 2 ^ level))
block_is_square panel level code p valid block b =
    let h : level ≤ 16 = omega (arith, valid.order_to, block.low) in
    let bc : code < 4 ^ 16 = code_fits panel level code valid block in
    let corner = corner_of_aligned level code h block.aligned in
    let same = same_block_exactly level code p h bc b in
    let in_block = within_multiple (4 ^ level) code p (pow_pos level) block.aligned in
    let inX = within_multiple (2 ^ level) (x_of code) (x_of p) (side-pos level) corner.grid_x in
    let inY = within_multiple (2 ^ level) (y_of code) (y_of p) (side-pos level) corner.grid_y in (
      (λ t. let e = same.0 (in_block.0 t) in
          let x = inX.1 e.0 in
          let y = inY.1 e.1 in
          (x.0, x.1, y.0, y.1)),
      (λ t. in_block.1 (same.1 (inX.0 (t.0, t.1), inY.0 (t.2, t.3)))),
    )

-- a block's corners meet a window's exactly when the two have a pixel in common
pub corners_meet_exactly
    : (panel : Panel) (window : Window) (level code : ℕ) (es : Forest)
    → Valid panel → Block panel level code → window.x0 ≤ window.x1 → window.y0 ≤ window.y1
    → (shares_pixel window (block_of level code es) ≡ true)
    ↔ ((window.x0 < x_of code + 2 ^ level) × (x_of code ≤ window.x1) × (window.y0 < y_of code + 2 ^ level) × (y_of code ≤ window.y1))
corners_meet_exactly panel window level code es valid block wx wy =
    let h : level ≤ 16 = omega (arith, valid.order_to, block.low) in
    let bc : code < 4 ^ 16 = code_fits panel level code valid block in
    let corner = corner_of_aligned level code h block.aligned in
    let end : code + 4 ^ level ≤ 4 ^ 16 = blocks_nest level 16 code (4 ^ 16) h block.aligned (aligned_multiple 16 (4 ^ 16) 1 refl) bc in
    let side : 0 < 2 ^ level = side-pos level in
    let shares = shares_pixel_exactly window (block_of level code es) in (
      (λ t. let s = shares.0 t in
          let square = (block_is_square panel level code s.0 valid block (omega (arith, s.2))).0 (s.1, s.2) in
          omega (arith, square, (in_window_exactly window s.0).0 s.3)),
      (λ t. let x : ℕ = max window.x0 (x_of code) in
          let y : ℕ = max window.y0 (y_of code) in
          let p : ℕ = code_of x y in
          let hx : x < largest_side = omega arith in
          let hy : y < largest_side = omega arith in
          let px : x_of p ≡ x = x_of_code x y hx in
          let py : y_of p ≡ y = y_of_code x y hy in
          let square = (block_is_square panel level code p valid block (interleave_below 16 16 x y hx hy)).1 (omega arith) in
          shares.1 (p, square.0, square.1, (in_window_exactly window p).1 (omega arith))),
    )
