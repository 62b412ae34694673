-- 02, P6: a window with the whole panel finds every marked pixel, and a count of it opens no block.
use Prim.Native.Nat.{ℕ, ◌+◌, ◌^◌, ◌≤◌}
use native.Mathlib.Omega.{arith}
use native.Mathlib.Nat.{pow-le-pow_right, le_trans}
use mathlib.Core.Path.{◌≡◌, refl, ap, ap₂, subst, sym, ◌∙◌}
use mathlib.Core.Bool.{true}
use mathlib.Core.List.{List}
use lib.ListN.{length}
use lib.Pow.{pow_pos}
use Rattle.morton.specs.Code.{gather_bits, x_of, y_of}
use Rattle.pktree.specs.PixelSet.{member}
use Rattle.pktree.specs.Elements.{block, empty, unlabelled}
use Rattle.pktree.specs.Tree.{block_of, tree}
use Rattle.pktree.specs.Window.{Window, wholly_inside, found}
use Rattle.pktree.proofs.Unlabelled.{local_unlabelled}
use Rattle.pktree.proofs.Alignment.{aligned_root}
use Rattle.pktree.proofs.Insides.{AllSeen, block_inside, corners_inside_exactly}
use Rattle.measures.specs.Sizes.{UsableStore, panel_of, sizes_of}
use Rattle.store.specs.Sound.{Holds}
use Rattle.store.proofs.SoundView.{sound_view}
use Rattle.store.proofs.Held.{tree_of_held, pixels_of_held}
use Rattle.promises.specs.Answer.{Answer, accepted}
use Rattle.promises.specs.Effect.{part_in}
use Rattle.promises.specs.Calls.{window_given, found_and_crossed, CountMeets}
use Rattle.promises.proofs.OnSound.{count_answers}

-- the root's lowest corner is the panel's
first_corner : (x_of 0 ≡ 0) × (y_of 0 ≡ 0)
unfolding gather_bits
first_corner = (refl, refl)

module _ {words set : List ℕ} (holds : Holds words set) where
  -- where the root lies wholly inside the window, all is seen
  whole_seen : (window : Window) → wholly_inside window (block_of (sizes_of words).order 0 empty) ≡ true → AllSeen window (tree (panel_of (sizes_of words)) (member set))
  whole_seen window inside =
      let order : ℕ = (sizes_of words).order in
      let (es, v) = sound_view words holds.placed holds.sound in
      let is : block order 0 (unlabelled es) empty ≡ tree (panel_of (sizes_of words)) (member set) = sym (ap unlabelled v.is) ∙ tree_of_held holds in
      subst (AllSeen window) is (block_inside window (sizes_of words).k order 0 (unlabelled es) (local_unlabelled v.right) inside)

  pub whole_answer : (window : Window) → wholly_inside window (block_of (sizes_of words).order 0 empty) ≡ true → found_and_crossed words window set ≡ accepted (length set) 0
  whole_answer window inside =
      let all = whole_seen window inside in
      ap₂ accepted (ap (λ (l : List ℕ). length (found window l)) (sym (pixels_of_held holds)) ∙ ap length (all.all_found ∙ pixels_of_held holds)) all.none_crossed

-- so it does where the window begins at the panel's first corner and does not end before its last
pub root_inside : {words : List ℕ} (x1 y1 : ℕ) → UsableStore words → 2 ^ (sizes_of words).order ≤ x1 + 1 → 2 ^ (sizes_of words).order ≤ y1 + 1
    → wholly_inside (part_in words (window_given 0 0 x1 y1)) (block_of (sizes_of words).order 0 empty) ≡ true
root_inside {words} x1 y1 usable columns rows =
    let order : ℕ = (sizes_of words).order in
    let low = usable.valid.panel.order_to in
    let ends : 0 + 4 ^ order ≤ 4 ^ 16 = le_trans (omega arith) (pow-le-pow_right {n = 4} (omega arith) low) in
    (corners_inside_exactly (part_in words (window_given 0 0 x1 y1)) order 0 empty low (aligned_root order) ends).1 (omega (arith, first_corner, columns, rows, pow_pos order))

pub count_whole : {words set : List ℕ} → Holds words set → (x1 y1 : ℕ) → 2 ^ (sizes_of words).order ≤ x1 + 1 → 2 ^ (sizes_of words).order ≤ y1 + 1
    → {a : Answer} → CountMeets words 0 0 x1 y1 a → a ≡ accepted (length set) 0
count_whole {words} holds x1 y1 columns rows m =
    count_answers holds (record { x_ordered = omega arith; y_ordered = omega arith }) m
    ∙ whole_answer holds (part_in words (window_given 0 0 x1 y1)) (root_inside {words = words} x1 y1 holds.sound.usable columns rows)
