-- The run of a block that is to be formed stands for the set's pixels in that block, since the numbers are those of the set to come.
use Prim.Native.Nat.{ℕ, ◌+◌, ◌^◌, ◌<◌}
use native.Mathlib.Omega.{arith}
use mathlib.Core.Path.{◌≡◌, refl, ap, subst, sym, ◌∙◌}
use mathlib.Core.List.{List, [], ◌∷◌, ◌++◌, append-nil}
use lib.ListN.{length}
use Rattle.pktree.specs.Lists.{Every}
use Rattle.pktree.specs.Elements.{◌⧺◌, block_at}
use Rattle.pktree.specs.Tree.{pixels}
use Rattle.pktree.proofs.Forests.{pixels_join}
use Rattle.pktree.proofs.Alignment.{block_code}
use Rattle.pktree.proofs.Arranged.{Arranged, arranged_le}
use Rattle.store.specs.Placed.{Placed, slots_of}
use Rattle.store.specs.Numbers.{number_between, number_in}
use Rattle.sums.specs.Sum.{number_of_elements}
use Rattle.store.proofs.Standing.{element_words, Stands, every_left, every_right}
use Rattle.store.proofs.PlacedJoin.{stands_parts}
use Rattle.store.proofs.NumbersBetween.{number_join, number_few, none_below, none_above}
use Rattle.store.proofs.BlockNumbers.{OwnPixels, number_is_own, tree_numbered}
use Rattle.sums.proofs.ElementNumbers.{elements_number}
use Rattle.descent.specs.Way.{Frame, plug}
use Rattle.ascent.proofs.Frames.{FramesRight, way_slots}
use Rattle.ascent.proofs.FramesOfSound.{around_block}
use Rattle.ascent.proofs.FormedAt.{FormedAt, pixels_in_parts, slots_in_parts}
use Rattle.ascent.proofs.Pending.{Setting, width_in, slots_in, Around}

-- elements between others have the set's pixels between these
own_between : (k n : ℕ) {lo hi d e : ℕ} {set : List ℕ} {t : Placed} (a r b : Placed) → OwnPixels set lo hi t → pixels t ≡ pixels a ++ (pixels r ++ pixels b)
    → Arranged k n lo d a → Arranged k n e hi b → OwnPixels set d e r
own_between k n {lo} {hi} {d} {e} a r b h is low high =
    record {
      own = λ from to p q z. h.own from to (omega (arith, arranged_le k n lo d a low)) q (omega (arith, arranged_le k n e hi b high)) ∙ ap (number_between from to) is
          ∙ omega (
            arith,
            number_join from to (pixels a) (pixels r ++ pixels b),
            number_join from to (pixels r) (pixels b),
            none_below k from to n lo d a low p,
            none_above k from to n e hi b high (omega arith) z,
          );
    }

-- so has the block at the end of a way
plug_own : (k m : ℕ) (way : List Frame) (s i d : ℕ) (es : Placed) → FramesRight k m way i d → OwnPixels (pixels (plug way s i d es)) d (d + 4 ^ i) es
plug_own k m [] s i d es h = record { own = λ from to p q r. ap (number_between from to) (append-nil (pixels es)) }
plug_own k m (f ∷ way) s i d es h =
    own_between k f.level f.before es f.after (plug_own k m way f.slot f.level f.code (f.before ⧺ block_at s i d es f.after) h.1)
    (pixels_join f.before (block_at s i d es f.after)) h.0.low h.0.high

module _ {σ : Setting} {words : List ℕ} {way : List Frame} {s level code : ℕ} {es : Placed} {free : List ℕ} (h : Around σ words way s level code es free) {j first n : ℕ}
    (g : FormedAt σ.k level code σ.x j first n es) where
  abbrev d : ℕ
  d = block_code j σ.x

  run_own : OwnPixels σ.target d (d + 4 ^ j) g.run
  run_own =
      let beside = around_block 0 σ.k level code (code + 4 ^ level) j d g.before g.run g.after (g.right 0).arranged in
      own_between σ.k level g.before g.run g.after
      (subst (λ (l : List ℕ). OwnPixels l code (code + 4 ^ level) es) h.pixels_are (plug_own σ.k σ.m way s level code es h.frames_right)) (pixels_in_parts g) beside.0 beside.1

  inside : Every (λ t. t < slots_in σ) (slots_of g.run)
  inside =
      let all = (every_right _ (way_slots way) (s ∷ slots_of es) (every_left _ (way_slots way ++ (s ∷ slots_of es)) free h.shared.inside)).1 in
      every_left _ (slots_of g.run) (slots_of g.after) (every_right _ (slots_of g.before) (slots_of g.run ++ slots_of g.after) (subst (Every (λ t. t < slots_in σ)) (slots_in_parts g) all))

  pub run_numbered : number_of_elements σ.layout words n (element_words g.run) ≡ number_in σ.target j d
  run_numbered =
      let there = (stands_parts (width_in σ) words g.before (g.run ⧺ g.after) (subst (Stands (width_in σ) words) g.is h.stands)).1 in
      let st = (stands_parts (width_in σ) words g.run g.after there).0 in
      let arranged = g.inner.arranged in
      let own : number_in σ.target j d ≡ length (pixels g.run) = number_is_own σ.k j run_own refl arranged in
      ap (λ (i : ℕ). number_of_elements σ.layout words i (element_words g.run)) (sym g.size_is)
      ∙ elements_number σ.layout words g.run st inside (tree_numbered σ.k (width_in σ) words j g.run h.numbered run_own arranged st inside)
      (omega (arith, number_few d (d + 4 ^ j) σ.target, σ.few, σ.most_to)) ∙ sym own
