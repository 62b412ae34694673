-- The pixels of a tree around the place of a change, and what differs where at most one gives way to at most one.
use Prim.Native.Nat.{ℕ, zero, suc, ◌+◌, ◌*◌, ◌≤◌, ◌<◌}
use native.Mathlib.Omega.{arith}
use native.Mathlib.Decide.{dec_lt}
use mathlib.Core.Path.{◌≡◌, refl, ap, sym, ◌∙◌}
use mathlib.Core.Logic.{◌⊎◌, inl, inr}
use mathlib.Core.List.{List, [], ◌∷◌, ◌++◌, append_assoc}
use lib.ListN.{length, take}
use Rattle.pktree.specs.Elements.{pixel, ◌⧺◌, size, block_at, empty}
use Rattle.pktree.specs.Tree.{pixels}
use Rattle.pktree.proofs.Forests.{pixels_join}
use Rattle.store.specs.Placed.{Placed, slots_of}
use Rattle.store.specs.Numbers.{number_between}
use Rattle.store.proofs.Standing.{element_words, Stands}
use Rattle.store.proofs.PlacedJoin.{slots_join}
use Rattle.store.proofs.NumbersBetween.{number_inside, number_below, number_above, number_join}
use Rattle.descent.specs.Way.{Frame, plug}
use Rattle.update.specs.Changed.{OnePixel, comes, goes}
use Rattle.update.proofs.PathNumbers.{PixelChange}

-- the pixels of a plugged tree: those inside stand between those before the way's end and those after it
plug_around : (way : List Frame) → (l : List ℕ) × (r : List ℕ) × ((s i d : ℕ) (es : Placed) → pixels (plug way s i d es) ≡ l ++ (pixels es ++ r))
plug_around [] = ([], [], (λ s i d es. refl))
plug_around (f ∷ way) =
    let (l, r, e) = plug_around way in
    let p : List ℕ = pixels f.before in
    let q : List ℕ = pixels f.after in (
      l ++ p,
      q ++ r,
      (λ s i d es.
          e f.slot f.level f.code (f.before ⧺ block_at s i d es f.after)
          ∙ ap (λ (t : List ℕ). l ++ (t ++ r)) (pixels_join f.before (block_at s i d es f.after))
          ∙ simp append_assoc),
    )

-- elements between those around the way's end
pub between_pixels : (way : List Frame) (a b : Placed)
    → (l : List ℕ) × (r : List ℕ) × ((s i d : ℕ) (t : Placed) → pixels (plug way s i d (a ⧺ (t ⧺ b))) ≡ l ++ (pixels t ++ r))
between_pixels way a b =
    let (l, r, e) = plug_around way in
    let p : List ℕ = pixels a in
    let q : List ℕ = pixels b in (
      l ++ p,
      q ++ r,
      (λ s i d t.
          e s i d (a ⧺ (t ⧺ b))
          ∙ ap (λ (u : List ℕ). l ++ (u ++ r)) (pixels_join a (t ⧺ b) ∙ ap (λ (u : List ℕ). p ++ u) (pixels_join t b))
          ∙ simp append_assoc),
    )

-- the elements that give way or come: none, or the pixel of the code
abbrev pub pixels_at : ℕ → ℕ → Placed
pixels_at zero code = empty
pixels_at (suc n) code = pixel code empty

pub record AtMostPixel (code n : ℕ) : Type 0 where
  pub one : n ≤ 1
  pub size_is : size (pixels_at n code) ≡ n
  pub count_is : length (pixels (pixels_at n code)) ≡ n
  pub slots : slots_of (pixels_at n code) ≡ []
  pub stands : (width : ℕ) (words : List ℕ) → Stands width words (pixels_at n code)
  pub named : take (2 * n) (code ∷ 0 ∷ []) ≡ element_words (pixels_at n code)
  pub inside : (from to : ℕ) → from ≤ code → code < to → number_between from to (pixels (pixels_at n code)) ≡ n
  pub outside : (from to : ℕ) → (code < from) ⊎ (to ≤ code) → number_between from to (pixels (pixels_at n code)) ≡ 0

no_pixel : (code : ℕ) → AtMostPixel code 0
no_pixel code = record {
  one = omega arith;
  size_is = refl;
  count_is = refl;
  slots = refl;
  stands = λ width words. tt;
  named = refl;
  inside = λ from to p q. refl;
  outside = λ from to p. refl;
}

one_pixel : (code : ℕ) → AtMostPixel code 1
one_pixel code =
    record {
      one = omega arith;
      size_is = refl;
      count_is = refl;
      slots = refl;
      stands = λ width words. tt;
      named = refl;
      inside = λ from to p q. number_inside from to code [] p q;
      outside = λ from to p. beside from to (dec_lt code from) p;
    }
  where
    beside : (from to : ℕ) → Dec (code < from) → (code < from) ⊎ (to ≤ code) → number_between from to (code ∷ []) ≡ 0
    beside from to (yes q) p = number_below from to code [] q
    beside from to (no q) (inl p) = absurd (q p)
    beside from to (no q) (inr p) = number_above from to code [] (omega arith) p

-- so the numbers of a set in which so many give way to so many differ by these
pub pixel_changed : (code : ℕ) (l r : List ℕ) (out coming : ℕ) → AtMostPixel code out → AtMostPixel code coming
    → PixelChange code (l ++ (pixels (pixels_at out code) ++ r)) (l ++ (pixels (pixels_at coming code) ++ r)) out coming
pixel_changed code l r out coming o n =
    record {
      inside = λ from to p q. (
        omega (arith, parts (pixels_at out code) from to, o.inside from to p q),
        omega (arith, parts (pixels_at out code) from to, parts (pixels_at coming code) from to, o.inside from to p q, n.inside from to p q),
      );
      outside = λ from to p. omega (arith, parts (pixels_at out code) from to, parts (pixels_at coming code) from to, o.outside from to p, n.outside from to p);
    }
  where
    parts : (t : Placed) (from to : ℕ) → number_between from to (l ++ (pixels t ++ r)) ≡ number_between from to l + (number_between from to (pixels t) + number_between from to r)
    parts t from to = number_join from to l (pixels t ++ r) ∙ ap (λ (i : ℕ). number_between from to l + i) (number_join from to (pixels t) r)

pub at_most_pixel : {out coming : ℕ} (code : ℕ) → OnePixel out coming → AtMostPixel code out × AtMostPixel code coming
at_most_pixel code comes = (no_pixel code, one_pixel code)
at_most_pixel code goes = (one_pixel code, no_pixel code)

-- pixels have no slots
pub same_slots : (code : ℕ) (a b : Placed) (out coming : ℕ) → AtMostPixel code out → AtMostPixel code coming
    → slots_of (a ⧺ (pixels_at coming code ⧺ b)) ≡ slots_of (a ⧺ (pixels_at out code ⧺ b))
same_slots code a b out coming o n =
    let old : Placed = pixels_at out code in
    let new : Placed = pixels_at coming code in
    slots_join a (new ⧺ b) ∙ ap (λ (l : List ℕ). slots_of a ++ l) (slots_join new b ∙ ap (λ (l : List ℕ). l ++ slots_of b) (n.slots ∙ sym o.slots) ∙ sym (slots_join old b))
    ∙ sym (slots_join a (old ⧺ b))
