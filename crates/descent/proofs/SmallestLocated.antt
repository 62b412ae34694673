-- 02, P8: on a sound store the descent ends at the smallest instantiated block that contains the code, and says that it is marked exactly when it is marked:
-- by the law of the smallest block, since the descent says whether the code is an element of it.
use Prim.Native.Nat.{ℕ, suc, ◌^◌, ◌+◌, ◌≤◌, ◌<◌}
use native.Mathlib.Omega.{arith}
use mathlib.Core.Path.{◌≡◌, refl, ap, subst, sym, ◌∙◌}
use mathlib.Core.Bool.{Bool, true, false, ◌||◌, or_assoc, or-false}
use mathlib.Core.List.Memᴰ
use mathlib.Core.List.{List, [], ◌∷◌, Memᴰ}
use lib.Dec.{eqb}
use borrow.Author.Tests.{eq-eqb, ne_eqb}
use Rattle.pktree.specs.Panel.{Panel}
use Rattle.pktree.specs.PixelSet.{member}
use Rattle.pktree.specs.Elements.{Forest, empty, pixel, block, ◌⧺◌, block_at, unlabelled, gather}
use Rattle.pktree.specs.Tree.{Instantiated, block_of, blocks, pixels}
use Rattle.pktree.specs.SmallestBlock.{Smallest, pixel_elements}
use Rattle.pktree.proofs.Forests.{blocks_join}
use Rattle.pktree.proofs.Arranged.{Arranged, arranged_le}
use Rattle.pktree.proofs.Unlabelled.{unlabelled_join, arranged_unlabelled}
use Rattle.pktree.proofs.InTree.{in_tree_exactly_instantiated}
use Rattle.pktree.proofs.SmallestBlocks.{NoneContains, inner_blocks, none_before, none_after, none_join, same_truth, smallest_if_none_inside, element_exactly}
use Rattle.measures.specs.Sizes.{panel_of, sizes_of}
use Rattle.store.specs.Placed.{Placed}
use Rattle.store.specs.Sound.{Sound}
use Rattle.descent.specs.Way.{Frame, plug}
use Rattle.descent.specs.declared.Located.{Located}
use Rattle.descent.specs.declared.Passed.{Passed}
use Rattle.descent.specs.Located.{PlaceIn, LocatedIn}
use Rattle.descent.proofs.Ways.{around}

-- the block at the end of a way is one of the tree's
block_on_way : (way : List Frame) (slot level c : ℕ) (es : Placed) → Memᴰ (block_of level c (unlabelled es)) (blocks (unlabelled (plug way slot level c es)))
block_on_way [] slot level c es = Memᴰ.head refl
block_on_way (f ∷ way) slot level c es =
    let joined = unlabelled_join f.before (block_at slot level c es f.after) in
    inner_blocks (unlabelled (plug way f.slot f.level f.code (around f slot level c es))) (block_on_way way f.slot f.level f.code (around f slot level c es))
    (rw (joined, blocks_join (unlabelled f.before) (block level c (unlabelled es) (unlabelled f.after))) (Memᴰ.append_right (blocks (unlabelled f.before)) (Memᴰ.head refl)))

-- elements before a code, and elements after it, are not its pixel
member_elements_join : (f g : Forest) (x : ℕ) → member (pixel_elements (f ⧺ g)) x ≡ (member (pixel_elements f) x || member (pixel_elements g) x)
member_elements_join empty g x = refl
member_elements_join (pixel c f) g x = rw (member_elements_join f g x) (sym (or_assoc (eqb c x) (member (pixel_elements f) x) (member (pixel_elements g) x)))
member_elements_join (block_at u i c es f) g x = member_elements_join f g x

no_element_before : (x k n from to : ℕ) (f : Forest) → Arranged k n from to f → to ≤ x → member (pixel_elements f) x ≡ false
no_element_before x k n from to empty h p = refl
no_element_before x k n from to (pixel c f) h p = rw (ne_eqb c x (omega (arith, arranged_le k n (suc c) to f h.1))) (no_element_before x k n (suc c) to f h.1 p)
no_element_before x k n from to (block_at u i c es f) h p = no_element_before x k n (c + 4 ^ i) to f h.7 p

no_element_after : (x k n from to : ℕ) (f : Forest) → Arranged k n from to f → x < from → member (pixel_elements f) x ≡ false
no_element_after x k n from to empty h p = refl
no_element_after x k n from to (pixel c f) h p = rw (ne_eqb c x (omega arith)) (no_element_after x k n (suc c) to f h.1 (omega arith))
no_element_after x k n from to (block_at u i c es f) h p = no_element_after x k n (c + 4 ^ i) to f h.7 (omega arith)

-- where no block of the elements contains the code, and whether the code is one of them
record AtPlace (code : ℕ) (marked : Bool) (es : Forest) : Type 0 where
  none : NoneContains code es
  element : member (pixel_elements es) code ≡ marked

-- elements below the code and elements above it change nothing
place_between : (k n from code to : ℕ) {marked : Bool} (a t b : Forest) → Arranged k n from code a → Arranged k n (suc code) to b → AtPlace code marked t → AtPlace code marked (a ⧺ (t ⧺ b))
place_between k n from code to a t b low high at =
    record {
      none = none_join a (t ⧺ b) (none_before k n from code a low (omega arith)) (none_join t b at.none (none_after k n (suc code) to b high (omega arith)));
      element = member_elements_join a (t ⧺ b) code
          ∙ rw (no_element_before code k n from code a low (omega arith), member_elements_join t b code, no_element_after code k n (suc code) to b high (omega arith), or-false (member (pixel_elements t) code))
          at.element;
    }

at_place : (k n from to code place : ℕ) (marked : Bool) (es : Placed) → PlaceIn k n from code to place marked es → AtPlace code marked (unlabelled es)
at_place k n from to code place true es h =
    rw (h.is.0 refl, unlabelled_join h.before (pixel code h.after))
    (place_between k n from code to (unlabelled h.before) (pixel code empty) (unlabelled h.after) (arranged_unlabelled k n from code h.before h.below) (arranged_unlabelled k n (suc code) to h.after h.above)
    (record { none = λ i c fs m. absurd (Memᴰ.not-nil m); element = rw (eq-eqb code code refl) }))
at_place k n from to code place false es h =
    rw (h.is.1 refl, unlabelled_join h.before h.after)
    (place_between k n from code to (unlabelled h.before) empty (unlabelled h.after) (arranged_unlabelled k n from code h.before h.below) (arranged_unlabelled k n (suc code) to h.after h.above)
    (record { none = λ i c fs m. absurd (Memᴰ.not-nil m); element = refl }))

module _ {words : List ℕ} {placed : Placed} {code : ℕ} {path : List Passed} {r : Located} (sound : Sound words placed) (h : LocatedIn words placed code path r) where
  abbrev panel : Panel
  panel = panel_of (sizes_of words)

  here : AtPlace code r.marked (unlabelled h.es)
  here = at_place (sizes_of words).k r.block.level r.block.code (r.block.code + 4 ^ r.block.level) code r.place r.marked h.es h.place

  -- no block inside the one at the end contains the code
  pub none_inside : NoneContains code (unlabelled h.es)
  none_inside = here.none

  -- a block of a sound store's tree is instantiated, and has the elements that 01 gathers
  instantiated : Instantiated panel (member (pixels placed)) r.block.level r.block.code × (unlabelled h.es ≡ gather (member (pixels placed)) panel.k r.block.level r.block.code)
  instantiated =
      (in_tree_exactly_instantiated panel (member (pixels placed)) r.block.level r.block.code (unlabelled h.es)).0
      (subst (λ (f : Forest). Memᴰ (block_of r.block.level r.block.code (unlabelled h.es)) (blocks f)) (ap unlabelled (sym h.whole) ∙ sound.is_tree)
      (block_on_way h.way r.block.slot r.block.level r.block.code h.es))

  pub located_smallest : Smallest panel (member (pixels placed)) code r.block.level r.block.code
  located_smallest =
      smallest_if_none_inside panel (member (pixels placed)) code instantiated.0 h.holds
      (subst (NoneContains code) instantiated.1 none_inside)

  -- THE LAW at work: marked, as an element of the smallest block
  pub marked_exactly : member (pixels placed) code ≡ r.marked
  marked_exactly =
      same_truth _ _ (element_exactly panel (member (pixels placed)) code sound.usable.valid.panel located_smallest)
      ∙ ap (λ (f : Forest). member (pixel_elements f) code) (sym instantiated.1) ∙ here.element
