-- The tests that the code makes of a block and a window, against what they decide: the corners of both, on each axis.
use Prim.Native.Nat.{ℕ, ◌+◌, ◌-◌, ◌^◌, ◌≤◌}
use native.Mathlib.Omega.{arith}
use mathlib.Core.Path.{◌≡◌, refl, ap, sym, ◌∙◌}
use mathlib.Core.Logic.{◌↔◌}
use mathlib.Core.Bool.{Bool, true, false, ◌&&◌, and-eq-true_iff}
use lib.Dec.{leb}
use lib.Pow.{pow_pos as side-pos}
use borrow.Author.Tests.{le-leb, leb-true}
use Rattle.morton.specs.Code.{x_of, y_of}
use Rattle.pktree.specs.Panel.{Block}
use Rattle.pktree.specs.Elements.{Forest}
use Rattle.pktree.specs.Tree.{block_of}
use Rattle.pktree.specs.Window.{Window, Ordered, shares_pixel, wholly_inside}
use Rattle.pktree.proofs.Alignment.{pow_pos}
use Rattle.pktree.proofs.Windows.{corners_meet_exactly}
use Rattle.pktree.proofs.Insides.{far_corner, largest, largest_valid, corners_inside_exactly}
use Rattle.windows.specs.Corners.{OnGrid}

-- two tests of one statement are the same test
same_test : {P : Type 0} (a b : Bool) → (a ≡ true) ↔ P → (b ≡ true) ↔ P → a ≡ b
same_test true true p q = refl
same_test true false p q = sym (q.1 (p.0 refl))
same_test false true p q = p.1 (q.0 refl)
same_test false false p q = refl

-- four comparisons, the second pair after the first
four_exactly : (a b c d e f g h : ℕ) → (((leb a b && leb c d) && (leb e f && leb g h)) ≡ true) ↔ ((a ≤ b) × (c ≤ d) × (e ≤ f) × (g ≤ h))
four_exactly a b c d e f g h =
    let both = and-eq-true_iff (leb a b && leb c d) (leb e f && leb g h) in
    let first = and-eq-true_iff (leb a b) (leb c d) in
    let second = and-eq-true_iff (leb e f) (leb g h) in (
      (λ t. let u = both.0 t in
          let v = first.0 u.0 in
          let w = second.0 u.1 in
          (leb-true a b v.0, leb-true c d v.1, leb-true e f w.0, leb-true g h w.1)),
      (λ t. both.1 (first.1 (le-leb a b t.0, le-leb c d t.1), second.1 (le-leb e f t.2, le-leb g h t.3))),
    )

-- two pairs of comparisons decide a test
pub record Decide (first second t : Bool) : Type 0 where
  pub all : (first && second) ≡ t

-- one test after another: the second is made where the first holds
pub record Chained (first second t : Bool) : Type 0 where
  pub is : t ≡ (first && second)

pub second_made : {first second a b t : Bool} → a ≡ first → a ≡ true → b ≡ second → t ≡ b → Chained first second t
second_made {first} {second} e f g h = record { is = h ∙ g ∙ ap (λ x. x && second) (sym f ∙ e) }

pub second_left : {first a t : Bool} (second : Bool) → a ≡ first → a ≡ false → t ≡ a → Chained first second t
second_left second e f g = record { is = g ∙ f ∙ ap (λ x. x && second) (sym f ∙ e) }

three_in_a_row : (a b c : Bool) → ((a && b) && c) ≡ (a && (b && c))
three_in_a_row true b c = refl
three_in_a_row false b c = refl

-- four tests, one after another, decide what the two pairs do
pub four_decide : {a b c d pair t v w r : Bool} → Decide (a && b) pair t → (c && d) ≡ pair → Chained a b v → Chained v c w → Chained w d r → r ≡ t
four_decide {a} {b} {c} {d} both same first second third =
    third.is ∙ ap (λ x. x && d) (second.is ∙ ap (λ x. x && c) first.is) ∙ three_in_a_row (a && b) c d ∙ ap (λ x. (a && b) && x) same ∙ both.all

-- the code of a block's far corner
abbrev pub far_code : ℕ → ℕ → ℕ
far_code level code = code + (4 ^ level - 1)

-- the four comparisons of a block with a window
module _ (window : Window) {level code : ℕ} (on : OnGrid level code) (es : Forest) where
  -- each begins before the other ends
  pub shares_by_corners : Ordered window
      → Decide (leb (x_of code) window.x1 && leb (y_of code) window.y1) (leb window.x0 (x_of (far_code level code)) && leb window.y0 (y_of (far_code level code)))
      (shares_pixel window (block_of level code es))
  shares_by_corners ordered =
      let block : Block largest level code = record { low = on.level_to; aligned = on.aligned; corner = omega (arith, on.ends, pow_pos level) } in
      let meet = corners_meet_exactly largest window level code es largest_valid block ordered.x_ordered ordered.y_ordered in
      let four = four_exactly (x_of code) window.x1 (y_of code) window.y1 window.x0 (x_of (far_code level code)) window.y0 (y_of (far_code level code)) in
      let far = far_corner level code on.level_to on.aligned in
      record {
        all = same_test _ _ four (
          (λ t. let m = meet.0 t in omega (arith, m, far.far_x, far.far_y, side-pos level)),
          (λ t. meet.1 (omega (arith, t, far.far_x, far.far_y, side-pos level))),
        );
      }

  -- the block begins and ends in the window
  pub inside_by_corners
      : Decide (leb window.x0 (x_of code) && leb window.y0 (y_of code)) (leb (x_of (far_code level code)) window.x1 && leb (y_of (far_code level code)) window.y1)
      (wholly_inside window (block_of level code es))
  inside_by_corners =
      let inside = corners_inside_exactly window level code es on.level_to on.aligned on.ends in
      let four = four_exactly window.x0 (x_of code) window.y0 (y_of code) (x_of (far_code level code)) window.x1 (y_of (far_code level code)) window.y1 in
      let far = far_corner level code on.level_to on.aligned in
      record {
        all = same_test _ _ four
            ((λ t. let m = inside.0 t in omega (arith, m, far.far_x, far.far_y)), (λ t. inside.1 (omega (arith, t, far.far_x, far.far_y))));
      }
