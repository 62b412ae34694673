-- A store whose root and free slots are written holds the codes of the root's elements.
use Prim.Native.Nat.{ℕ, suc, ◌+◌, ◌-◌, ◌^◌, ◌≤◌}
use native.Mathlib.Omega.{arith}
use mathlib.Core.Path.{◌≡◌, refl, subst, sym, ◌∙◌}
use mathlib.Core.List.{List, [], append-nil}
use lib.ListN.{length, get_or}
use Rattle.pktree.specs.Elements.{block_at, empty}
use Rattle.pktree.specs.Tree.{pixels}
use Rattle.pktree.proofs.Forests.{block_count}
use Rattle.pktree.proofs.Arranged.{LocallyRight}
use Rattle.pktree.proofs.Unlabelled.{labelled_tree}
use Rattle.measures.specs.Words.{blocks_word}
use Rattle.measures.specs.declared.sizes.Sizes.{Sizes}
use Rattle.measures.specs.declared.sizes.Layout.{Layout}
use Rattle.measures.specs.Sizes.{panel_of, slot_count, slot_width, sizes_of, UsableStore}
use Rattle.measures.specs.Layout.{layout_of}
use Rattle.measures.specs.Slot.{slot_part, number_word}
use Rattle.store.specs.Placed.{Placed, slots_of}
use Rattle.freeslots.specs.FreeSlots.{FreeSlots, occurrences, numbers_from}
use Rattle.store.specs.Sound.{Holds}
use Rattle.store.proofs.Standing.{SlotSays, Stands, complete_slot, depth_below_level, every_join}
use Rattle.store.proofs.PlacedJoin.{slots_are_blocks}
use Rattle.store.proofs.BlockNumbers.{TreeNumbers, OwnPixels, own_whole, block_right, tree_right, numbered_by_used}
use Rattle.packing.proofs.SlotNumbers.{shared_out}

-- the root has elements that are right, their blocks are in slots 1, 2 and so on, all say how many pixels they have, and the other slots are in
-- the chain
pub record RootLaid (sizes : Sizes) (layout : Layout) (words codes : List ℕ) : Type 0 where
  pub es : Placed
  pub says : SlotSays (slot_part layout.width words 0) sizes.order 0 es
  pub stands : Stands layout.width words es
  pub number : number_word (slot_part layout.width words 0) ≡ length (pixels es)
  pub numbers : TreeNumbers layout.width words es
  pub right : LocallyRight sizes.k sizes.order 0 es
  pub numbered : (s : ℕ) → occurrences s (slots_of es) ≡ occurrences s (numbers_from 1 (block_count es))
  pub fewer : suc (block_count es) ≤ layout.slots
  pub chain : FreeSlots layout.width words (numbers_from (suc (block_count es)) (layout.slots - suc (block_count es)))
  pub room : length codes ≤ sizes.most
  pub codes_are : pixels es ≡ codes
  pub counted : blocks_word words ≡ suc (block_count es)

pub holds_root : (words codes : List ℕ) → UsableStore words → RootLaid (sizes_of words) (layout_of (sizes_of words)) words codes → Holds words codes
holds_root words codes usable r =
    let order : ℕ = get_or words 1 0 in
    let k : ℕ = get_or words 2 0 in
    let es : Placed = r.es in
    let root : Placed = block_at 0 order 0 es empty in
    let d : suc (order - 1) ≡ order = omega (arith, usable.valid.panel) in
    let deep = depth_below_level k order 0 (0 + 4 ^ order) es usable.valid.panel.order_from r.right.arranged in
    let read = complete_slot (slot_width k) words (order - 1) 0 order 0 es r.says r.stands (omega (arith, deep)) in
    let e : pixels root ≡ codes = append-nil (pixels es) ∙ r.codes_are in
    let own : OwnPixels (pixels root) 0 (0 + 4 ^ order) es = subst (λ (l : List ℕ). OwnPixels l 0 (0 + 4 ^ order) es) (sym (append-nil (pixels es))) (own_whole 0 (0 + 4 ^ order) es) in
    let slots : ℕ = slot_count k (get_or words 3 0) in
    let shared = shared_out slots (block_count es) (slots_of es) r.fewer r.numbered in
    record {
      placed = root;
      sound = record {
        usable = usable;
        reads = rw d at read;
        is_tree = labelled_tree (panel_of (sizes_of words)) 0 es usable.valid.panel.k_from r.right;
        fits = rw e r.room;
        free = numbers_from (suc (block_count es)) (slots - suc (block_count es));
        chain = r.chain;
        shared = shared;
        counted = omega (arith, r.counted, slots_are_blocks root);
        numbered = numbered_by_used (slot_width k) slots words (pixels root) (slots_of root) _ shared r.chain (
          block_right k r.says own refl r.right.arranged r.number,
          every_join _ (slots_of es) [] (tree_right k (slot_width k) words order es own r.right.arranged r.stands r.numbers) tt,
        );
      };
      set_is = e;
    }
