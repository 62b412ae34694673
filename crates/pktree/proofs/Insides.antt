-- 02, P4: the blocks wholly inside a window: their two corners decide, and all in them is found, opened by a list and not by a count, and nothing tested singly.
use Prim.Native.Nat.{ℕ, zero, suc, ◌+◌, ◌-◌, ◌*◌, ◌/◌, ◌%◌, ◌^◌, ◌≤◌, ◌<◌}
use native.Mathlib.Omega.{arith}
use native.Mathlib.Nat.{pow-succ', eq-or-lt_of_le}
use mathlib.Core.Path.{◌≡◌, refl, ap, sym}
use mathlib.Core.Logic.{◌↔◌, ◌⊎◌, inl, inr}
use mathlib.Core.Bool.{Bool, true, and-eq-true_iff}
use mathlib.Core.List.{◌∷◌, append-nil}
use lib.Pow.{pow_pos as side-pos}
use Rattle.morton.specs.Code.{gather_bits, x_of, y_of}
use Rattle.pktree.specs.Panel.{Panel, Valid, Aligned, Block}
use Rattle.pktree.specs.Elements.{Forest, empty, pixel, block, block_at, ◌⧺◌}
use Rattle.pktree.specs.Tree.{BlockOf, block_of, pixels}
use Rattle.pktree.specs.Window.{Window, in_window, found, every_from, wholly_inside, opened_by_window, crossed_by_window, tested_by_window}
use Rattle.pktree.proofs.Alignment.{pow_pos}
use Rattle.pktree.proofs.Forests.{block_count, block_count_join, pixels_join}
use Rattle.pktree.proofs.Arranged.{Arranged, LocallyRight, arranged_le}
use Rattle.pktree.proofs.Windows.{shares_pixel_exactly, in_window_exactly, block_is_square}
use Rattle.pktree.proofs.WindowParts.{found_join, opened_join, crossed_join, crossed_block, tested_join, tested_block, block_opened}

-- the test of a run says that every code of it passes
pub every_from_exactly
    : (test : ℕ → Bool) (n from : ℕ)
    → (every_from test n from ≡ true) ↔ ((code : ℕ) → from ≤ code → code < from + n → test code ≡ true)
unfolding every_from
every_from_exactly test zero from = ((λ e code low high. absurd (omega arith)), (λ all. refl))
every_from_exactly test (suc n) from =
    let both = and-eq-true_iff (test from) (every_from test n (suc from)) in
    let later = every_from_exactly test n (suc from) in (
      (λ e code low high. go code (both.0 e).0 (λ p. later.0 (both.0 e).1 code p (omega arith)) (eq-or-lt_of_le low)),
      (λ all. both.1 (all from (omega arith) (omega arith), later.1 (λ code low high. all code (omega arith) (omega arith)))),
    )
  where
    go : (code : ℕ) → test from ≡ true → (from < code → test code ≡ true) → (from ≡ code) ⊎ (from < code) → test code ≡ true
    go code first later (inl e) = rw (sym e) first
    go code first later (inr p) = later p

-- the test of a block says that every pixel of it is in the window
pub wholly_inside_exactly
    : (window : Window) (b : BlockOf)
    → (wholly_inside window b ≡ true) ↔ ((code : ℕ) → b.code ≤ code → code < b.code + 4 ^ b.level → in_window window code ≡ true)
wholly_inside_exactly window b = every_from_exactly (in_window window) (4 ^ b.level) b.code

-- a block's first code ends in zeros where its last code ends in ones
last_bits
    : (n i q c last : ℕ) → i ≤ n → c ≡ q * 4 ^ i → suc last ≡ c + 4 ^ i
    → (suc (gather_bits n last) ≡ gather_bits n c + 2 ^ i) × (suc (gather_bits n (last / 2)) ≡ gather_bits n (c / 2) + 2 ^ i)
unfolding gather_bits
last_bits n zero q c last h e k = let same : last ≡ c = omega arith in rw same (omega arith, omega arith)
last_bits zero (suc i) q c last h e k = absurd (omega arith)
last_bits (suc n) (suc i) q c last h e k =
    let e' : c ≡ 4 * (q * 4 ^ i) = omega (arith, ap (λ (p : ℕ). q * p) (pow-succ' 4 i)) in
    let k' : last ≡ 4 * (last / 4) + 3 = omega arith in
    let rest = last_bits n i q (c / 4) (last / 4) (omega arith) (omega arith) (omega arith) in
    let swap_c : c / 2 / 4 ≡ c / 4 / 2 = omega arith in
    let swap_last : last / 2 / 4 ≡ last / 4 / 2 = omega arith in
    let zero_bit : c / 2 % 2 ≡ 0 = omega arith in
    let one_bit : last / 2 % 2 ≡ 1 = omega arith in
    (omega (arith, rest.0), rw (swap_c, swap_last, zero_bit, one_bit) (omega (arith, rest.1)))

-- the last code of a block is that of its far corner
pub record FarCorner (level code : ℕ) : Type 0 where
  pub far_x : x_of (code + (4 ^ level - 1)) ≡ x_of code + (2 ^ level - 1)
  pub far_y : y_of (code + (4 ^ level - 1)) ≡ y_of code + (2 ^ level - 1)

pub far_corner : (level code : ℕ) → level ≤ 16 → Aligned level code → FarCorner level code
far_corner level code low aligned =
    let bits = last_bits 16 level (code / 4 ^ level) code (code + (4 ^ level - 1)) low (sym aligned) (omega (arith, pow_pos level)) in
    record { far_x = omega (arith, side-pos level, bits.0); far_y = omega (arith, side-pos level, bits.1) }

-- the largest panel, which has every block
abbrev pub largest : Panel
largest = record { order = 16; k = 2 }

pub largest_valid : Valid largest
largest_valid = record { order_from = omega arith; order_to = omega arith; k_from = omega arith; k_to = omega arith }

-- the corners decide: a block is wholly inside exactly when both are in the window
pub corners_inside_exactly
    : (window : Window) (level code : ℕ) (es : Forest) → level ≤ 16 → Aligned level code → code + 4 ^ level ≤ 4 ^ 16
    → (wholly_inside window (block_of level code es) ≡ true)
    ↔ ((window.x0 ≤ x_of code) × (x_of code + (2 ^ level - 1) ≤ window.x1) × (window.y0 ≤ y_of code) × (y_of code + (2 ^ level - 1) ≤ window.y1))
corners_inside_exactly window level code es low aligned ends =
    let some = pow_pos level in
    let last : ℕ = code + (4 ^ level - 1) in
    let block : Block largest level code = record { low = low; aligned = aligned; corner = omega arith } in
    let inside = wholly_inside_exactly window (block_of level code es) in (
      (λ t. let first = (in_window_exactly window code).0 (inside.0 t code (omega arith) (omega arith)) in
          let far = (in_window_exactly window last).0 (inside.0 t last (omega arith) (omega arith)) in
          let corner = far_corner level code low aligned in
          omega (arith, first, far, corner.far_x, corner.far_y)),
      (λ t. inside.1 (λ p from to.
          let square = (block_is_square largest level code p largest_valid block (omega arith)).0 (from, to) in
          (in_window_exactly window p).1 (omega (arith, square, t, side-pos level)))),
    )

-- elements that all lie in the window are all found, a list opens each of their blocks, a count none, and none is tested singly
pub record AllSeen (window : Window) (f : Forest) : Type 0 where
  pub all_found : found window (pixels f) ≡ pixels f
  pub all_opened : opened_by_window window f ≡ block_count f
  pub none_crossed : crossed_by_window window f ≡ 0
  pub none_tested : tested_by_window window f ≡ 0

-- this holds of two together, if of each
all_join : {window : Window} {f g : Forest} → AllSeen window f → AllSeen window g → AllSeen window (f ⧺ g)
all_join {window} {f} {g} a b =
    record {
      all_found = rw (found_join window f g, a.all_found, b.all_found, pixels_join f g);
      all_opened = rw (opened_join window f g, a.all_opened, b.all_opened, block_count_join f g);
      none_crossed = omega (arith, crossed_join window f g, a.none_crossed, b.none_crossed);
      none_tested = omega (arith, tested_join window f g, a.none_tested, b.none_tested);
    }

-- of a block wholly inside, if of its elements
all_block : {window : Window} {es : Forest} (i c : ℕ) → wholly_inside window (block_of i c es) ≡ true → AllSeen window es → AllSeen window (block i c es empty)
all_block {window} {es} i c e a =
    let all = (wholly_inside_exactly window (block_of i c es)).0 e in
    let some = pow_pos i in
    let shares = (shares_pixel_exactly window (block_of i c es)).1 (c, omega arith, omega arith, all c (omega arith) (omega arith)) in
    let opened = block_opened window i c es shares in
    record {
      all_found = rw (append-nil (pixels es)) a.all_found;
      all_opened = omega (arith, opened.one_opened, a.all_opened);
      none_crossed = rw (crossed_block window i c es, shares, e) (omega (arith, a.none_crossed));
      none_tested = rw (tested_block window i c es, shares, e) (omega (arith, a.none_tested));
    }

-- every code of this run is in the window
abbrev Inside : Window → ℕ → ℕ → Type 0
Inside window from to = (code : ℕ) → from ≤ code → code < to → in_window window code ≡ true

-- and of all elements in such a run
all_inside : (window : Window) (k n from to : ℕ) (f : Forest) → Arranged k n from to f → Inside window from to → AllSeen window f
all_inside window k n from to empty h all = record { all_found = refl; all_opened = refl; none_crossed = refl; none_tested = refl }
all_inside window k n from to (pixel c f) h all =
    let rest = all_inside window k n (suc c) to f h.1 (λ code p q. all code (omega arith) q) in
    let one : in_window window c ≡ true = all c h.0 (omega (arith, arranged_le k n (suc c) to f h.1)) in
    record { all_found = rw one (ap (λ l. c ∷ l) rest.all_found); all_opened = rest.all_opened; none_crossed = rest.none_crossed; none_tested = rest.none_tested }
all_inside window k n from to (block_at v i c es f) h all =
    let end = arranged_le k n (c + 4 ^ i) to f h.7 in
    let run : Inside window c (c + 4 ^ i) = λ code p q. all code (omega arith) (omega arith) in
    let inside = all_block i c ((wholly_inside_exactly window (block_of i c es)).1 run) (all_inside window k i c (c + 4 ^ i) es h.6 run) in
    all_join inside (all_inside window k n (c + 4 ^ i) to f h.7 (λ code p q. all code (omega arith) q))

-- so it holds of every block wholly inside
pub block_inside
    : (window : Window) (k i c : ℕ) (es : Forest) → LocallyRight k i c es → wholly_inside window (block_of i c es) ≡ true → AllSeen window (block i c es empty)
block_inside window k i c es right e =
    all_block i c e (all_inside window k i c (c + 4 ^ i) es right.arranged ((wholly_inside_exactly window (block_of i c es)).0 e))
