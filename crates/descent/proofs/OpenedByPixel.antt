-- THE LAW OF THE OPENED NUMBER: of all blocks of a sound store just those that the descent opens hold the code.
use Prim.Native.Nat.{ℕ, suc, ◌+◌, ◌^◌, ◌≤◌, ◌<◌}
use native.Mathlib.Omega.{arith}
use mathlib.Core.Path.{◌≡◌, ap, subst, ◌∙◌}
use mathlib.Core.List.{List, [], ◌∷◌, append-nil}
use lib.ListN.{length, length-append}
use borrow.Author.Tests.{lt-ltb, le-leb}
use Rattle.pktree.specs.Lists.{select}
use Rattle.pktree.specs.Elements.{Forest, empty, block, ◌⧺◌, block_at, unlabelled}
use Rattle.pktree.specs.Tree.{BlockOf, blocks}
use Rattle.pktree.specs.Window.{holds_pixel, opened_by_pixel}
use Rattle.pktree.proofs.Forests.{blocks_join}
use Rattle.pktree.proofs.WindowParts.{select_join}
use Rattle.pktree.proofs.SmallestBlocks.{none_opened, none_before, none_after}
use Rattle.pktree.proofs.Arranged.{Arranged}
use Rattle.store.specs.Placed.{Placed}
use Rattle.store.specs.Sound.{Sound}
use Rattle.pktree.proofs.Unlabelled.{unlabelled_join, local_unlabelled}
use Rattle.descent.specs.Way.{Frame, plug}
use Rattle.descent.specs.declared.Located.{Located}
use Rattle.descent.specs.declared.Passed.{Passed}
use Rattle.descent.specs.Located.{LocatedIn}
use Rattle.descent.proofs.Cutting.{arranged_parts}
use Rattle.descent.proofs.SmallestLocated.{none_inside}
use Rattle.descent.proofs.Ways.{around, seen_inside, seen_on_way}

module _ (code : ℕ) where
  opened_join : (f g : Forest) → opened_by_pixel code (f ⧺ g) ≡ opened_by_pixel code f + opened_by_pixel code g
  opened_join f g =
      ap (λ (l : List BlockOf). length (select (holds_pixel code) l)) (blocks_join f g) ∙ ap length (select_join (holds_pixel code) (blocks f) (blocks g))
      ∙ length-append (select (holds_pixel code) (blocks f)) (select (holds_pixel code) (blocks g))

  -- elements below the code and elements above it change nothing
  opened_beside : (k n from low high to : ℕ) (a f b : Forest) (opened : ℕ) → Arranged k n from low a → low ≤ code → Arranged k n high to b → code < high
      → opened_by_pixel code f ≡ opened → opened_by_pixel code (a ⧺ (f ⧺ b)) ≡ opened
  opened_beside k n from low high to a f b opened la p lb q s =
      omega (
        arith,
        opened_join a (f ⧺ b),
        opened_join f b,
        none_opened code a (none_before k n from low a la p),
        none_opened code b (none_after k n high to b lb q),
      )

  opened_block : (i c : ℕ) (es : Forest) (opened : ℕ) → c ≤ code → code < c + 4 ^ i → opened_by_pixel code es ≡ opened → opened_by_pixel code (block i c es empty) ≡ suc opened
  opened_block i c es opened p q s = rw (le-leb c code p, lt-ltb code (c + 4 ^ i) q) (ap suc (rw (append-nil (blocks es)) s))

  -- each block on the way is one more that holds the code
  opened_on_way : {words : List ℕ} {placed : Placed} → Sound words placed
      → (way : List Frame) (slot level c : ℕ) (es : Placed) → placed ≡ plug way slot level c es → c ≤ code → code < c + 4 ^ level
      → (opened : ℕ) → opened_by_pixel code (unlabelled es) ≡ opened → opened_by_pixel code (unlabelled (plug way slot level c es)) ≡ suc (length way + opened)
  opened_on_way sound [] slot level c es whole p q opened s =
      let n : 0 + opened ≡ opened = omega arith in
      rw n (opened_block level c (unlabelled es) opened p q s)
  opened_on_way {words} sound (f ∷ way) slot level c es whole p q opened s =
      let v = seen_on_way sound way f.slot f.level f.code (around f slot level c es) whole in
      let child = seen_inside words f slot level c es v in
      let joined : unlabelled (around f slot level c es) ≡ unlabelled f.before ⧺ block level c (unlabelled es) (unlabelled f.after) = unlabelled_join f.before (block_at slot level c es f.after) in
      let (mid, low, high) = arranged_parts _ f.level f.code (f.code + 4 ^ f.level) (unlabelled f.before) (block level c (unlabelled es) (unlabelled f.after))
      (subst (Arranged _ f.level f.code (f.code + 4 ^ f.level)) joined (local_unlabelled v.right).arranged) in
      let n : suc (length way) + opened ≡ length way + suc opened = omega arith in
      rw n (opened_on_way sound way f.slot f.level f.code (around f slot level c es) whole (omega (arith, child.starts)) (omega (arith, child.ends)) (suc opened)
      (rw joined (opened_beside _ f.level f.code mid (c + 4 ^ level) (f.code + 4 ^ f.level) (unlabelled f.before) (block level c (unlabelled es) empty) (unlabelled f.after) (suc opened)
      low (omega (arith, high.0)) high.7 q (opened_block level c (unlabelled es) opened p q s))))

module _ {words : List ℕ} {placed : Placed} {code : ℕ} {path : List Passed} {r : Located} (sound : Sound words placed) (h : LocatedIn words placed code path r) where
  pub opened_by_pixel_lem : opened_by_pixel code (unlabelled placed) ≡ suc r.depth
  opened_by_pixel_lem =
      let n = opened_on_way code sound h.way r.block.slot r.block.level r.block.code h.es h.whole h.holds.0 h.holds.1 0
      (none_opened code (unlabelled h.es) (none_inside sound h)) in
      ap (λ (t : Placed). opened_by_pixel code (unlabelled t)) h.whole ∙ omega (arith, n, h.depth)
