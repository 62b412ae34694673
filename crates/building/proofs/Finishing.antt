-- The root laid with the number of all codes, and the rest of the slots put into the chain: the store holds the codes.
use Prim.Native.Nat.{ℕ, suc, ◌+◌, ◌-◌, ◌*◌, ◌^◌, ◌≤◌, ◌<◌}
use native.Mathlib.Omega.{arith}
use mathlib.Core.Path.{◌≡◌, ap, subst, sym, ◌∙◌}
use mathlib.Core.List.{List}
use lib.ListN.{length, take, drop}
use lib.Seq.{length-take-le}
use Rattle.pktree.specs.Lists.{Every}
use Rattle.pktree.specs.Tree.{pixels}
use Rattle.pktree.proofs.Forests.{block_count}
use Rattle.pktree.proofs.Alignment.{aligned_root, block_inside}
use Rattle.pktree.proofs.Arranged.{LocallyRight}
use Rattle.measures.specs.Words.{head_words, blocks_index}
use Rattle.measures.specs.declared.sizes.Sizes.{Sizes}
use Rattle.measures.specs.declared.sizes.Layout.{Layout}
use Rattle.measures.specs.Sizes.{sizes_of}
use Rattle.measures.specs.Layout.{layout_of, store_end, LayoutFits}
use Rattle.measures.specs.Slot.{slot_part, number_word, slot_head}
use Rattle.measures.proofs.SlotWrites.{take_less}
use Rattle.measures.proofs.Usable.{sizes_kept, usable_kept}
use Rattle.store.specs.Placed.{Placed, slots_of}
use Rattle.freeslots.specs.FreeSlots.{FreeSlots, numbers_from, FreeFrom}
use Rattle.store.proofs.Standing.{SlotSays, Stands, frame}
use Rattle.freeslots.proofs.FreeChains.{every_map, absent}
use Rattle.freeslots.proofs.FreedSlots.{numbers_before}
use Rattle.store.proofs.BlockNumbers.{TreeNumbers, tree_numbers_kept}
use Rattle.store.proofs.SoundView.{slots_suffice}
use Rattle.rewrite.proofs.SlotNows.{now_says}
use Rattle.packing.specs.declared.Build.{Build}
use Rattle.packing.specs.declared.plan.Plan.{Plan}
use Rattle.laying.specs.Blocks.{LayDue, BlockLaid}
use Rattle.packing.specs.Growing.{stack_words}
use Rattle.packing.specs.Build.{PackCompleteAt, PackCompleteDue, CompletePacked, PackCompleteDone}
use Rattle.building.specs.Finish.{Replaced, FinishAt, FinishDue, Finished}
use Rattle.packing.proofs.Growth.{root_right, right_is_small}
use Rattle.packing.proofs.StackWords.{grown_lies}
use Rattle.packing.proofs.SlotNumbers.{numbered_below}
use Rattle.packing.proofs.Appending.{grown_more}
use Rattle.building.proofs.RootLaid.{RootLaid, holds_root}

module _ {plan : Plan} {words stack : List ℕ} {build : Build} {number : ℕ} {codes : List ℕ} (due : FinishAt plan words stack build number codes) where
  abbrev m : ℕ
  m = plan.sizes.order

  room : length codes ≤ plan.sizes.most
  room = omega (arith, due.building.room)

  -- no code is to come: every block below the root is complete
  pack_at : (limit : ℕ) → limit ≤ plan.sizes.order → PackCompleteAt plan words stack build limit (4 ^ plan.sizes.order) codes
  pack_at limit to = record {
    ground = due.building.ground;
    grown = grown_more (4 ^ m) due.building.to_inside due.building.grown;
    room = room;
    limit_to = to;
    complete = λ j l. omega (arith, (block_inside j m build.last 0 (omega arith) (aligned_root m) (omega arith) (omega (arith, due.building.last_inside))).1);
  }

  module _ {words₁ stack₁ : List ℕ} {r : Build} (packed : PackCompleteDone plan build plan.sizes.order words words₁ stack stack₁ r) where
    after : CompletePacked plan words₁ stack₁ r plan.sizes.order (4 ^ plan.sizes.order) codes
    after = packed.right (4 ^ m) codes (pack_at m (omega arith))

    abbrev es : Placed
    es = after.grown.placed

    right : LocallyRight plan.sizes.k plan.sizes.order 0 es
    right = root_right plan.sizes.k m r.last (4 ^ m) es plan.valid.panel.order_from (omega arith) after.grown.opened after.few

    layout_is : plan.layout ≡ layout_of plan.sizes
    layout_is = plan.laid.is

    fewer : suc (block_count es) ≤ plan.layout.slots
    fewer = subst (λ (l : Layout). suc (block_count es) ≤ l.slots) (sym layout_is)
        (slots_suffice plan.sizes.k m plan.sizes.most es plan.valid.panel.k_from plan.valid.most_from right (omega (arith, room, ap length after.grown.codes_are)))

    fits : LayoutFits plan.layout words₁
    fits = record { within = due.building.ground.fits.within; lies = rw packed.beside.long due.building.ground.fits.lies }

    fresh_to : r.fresh ≤ plan.layout.slots
    fresh_to = omega (arith, fewer, after.grown.fresh_is)

    -- the words of the root's elements
    lies : 2 * r.count ≤ length stack₁
    lies = grown_lies after.grown

    words_long : length (take (2 * r.count) stack₁) ≡ 2 * r.count
    words_long = length-take-le (2 * r.count) stack₁ lies

    lay_root : LayDue plan.layout words₁ 0 (take (2 * r.count) stack₁)
    lay_root = record {
      fits = fits;
      slot_below = omega (arith, fewer);
      room = subst (λ (l : Layout). slot_head + length (take (2 * r.count) stack₁) ≤ l.width) (sym layout_is)
          (omega (arith, words_long, right_is_small plan.sizes.k m 0 es plan.valid.panel.k_from (aligned_root m) right, after.grown.many));
      pairs = omega (arith, words_long);
    }

    module _ {words₂ words₃ : List ℕ} (laid : BlockLaid plan.layout.width 0 plan.sizes.order 0 number (take (2 * r.count) stack₁) words₁ words₂)
        (free : FreeFrom plan.layout r.fresh words₂ words₃) where
      long : length words₃ ≡ length words
      long = free.long ∙ laid.only.long ∙ packed.beside.long

      head : take 4 words₃ ≡ take 4 words
      head =
          take_less 4 blocks_index words₂ words₃ (omega arith) free.head ∙ take_less 4 head_words words₁ words₂ (omega arith) laid.only.head
          ∙ take_less 4 head_words words words₁ (omega arith) packed.beside.head

      root_kept : slot_part plan.layout.width words₃ 0 ≡ slot_part plan.layout.width words₂ 0
      root_kept = free.kept 0 (omega (arith, after.grown.fresh_is))

      says : SlotSays (slot_part plan.layout.width words₃ 0) plan.sizes.order 0 es
      says = rw root_kept (now_says (rw after.grown.on_stack at laid.says))

      -- the slots of the blocks are as they were when they were packed
      kept_laid : Every (λ s. slot_part plan.layout.width words₁ s ≡ slot_part plan.layout.width words₂ s) (slots_of es)
      kept_laid =
          let not_root : Every (λ s. s ≡ 0 → ⊥) (slots_of es) = absent 0 (slots_of es) (after.grown.numbered 0 ∙ numbers_before 0 1 (block_count es) (omega arith)) in
          every_map _ _ (slots_of es) (λ s ne. sym (laid.only.others s ne)) not_root

      kept_freed : Every (λ s. slot_part plan.layout.width words₂ s ≡ slot_part plan.layout.width words₃ s) (slots_of es)
      kept_freed =
          let below : Every (λ s. s < r.fresh) (slots_of es) = numbered_below (block_count es) r.fresh (slots_of es) (omega (arith, after.grown.fresh_is)) after.grown.numbered in
          every_map _ _ (slots_of es) (λ s b. sym (free.kept s b)) below

      stands : Stands plan.layout.width words₃ es
      stands = frame plan.layout.width words₂ words₃ es kept_freed (frame plan.layout.width words₁ words₂ es kept_laid after.grown.stands)

      numbers : TreeNumbers plan.layout.width words₃ es
      numbers = tree_numbers_kept plan.layout.width words₂ words₃ es kept_freed (tree_numbers_kept plan.layout.width words₁ words₂ es kept_laid after.grown.numbers)

      root_number : number_word (slot_part plan.layout.width words₃ 0) ≡ length (pixels es)
      root_number = ap number_word root_kept ∙ laid.number_is ∙ due.number_is ∙ ap length (sym after.grown.codes_are)

      chain : FreeSlots plan.layout.width words₃ (numbers_from (suc (block_count es)) (plan.layout.slots - suc (block_count es)))
      chain = subst (λ (n : ℕ). FreeSlots plan.layout.width words₃ (numbers_from n (plan.layout.slots - n))) after.grown.fresh_is free.chain

      laid_root : RootLaid plan.sizes plan.layout words₃ codes
      laid_root = record {
        es = es;
        says = says;
        stands = stands;
        number = root_number;
        numbers = numbers;
        right = right;
        numbered = after.grown.numbered;
        fewer = fewer;
        chain = chain;
        room = room;
        codes_are = after.grown.codes_are;
        counted = free.counted ∙ after.grown.fresh_is;
      }

      sizes_are : plan.sizes ≡ sizes_of words₃
      sizes_are = due.sizes_are ∙ sym (sizes_kept words words₃ head)

      replaced : Replaced words words₃ codes
      replaced =
          let l : plan.layout ≡ layout_of (sizes_of words₃) = layout_is ∙ ap layout_of sizes_are in
          let l₀ : plan.layout ≡ layout_of (sizes_of words) = layout_is ∙ ap layout_of due.sizes_are in
          record {
            holds = holds_root words₃ codes (usable_kept words words₃ head long due.usable)
                (subst (λ (z : Layout). RootLaid (sizes_of words₃) z words₃ codes) l (subst (λ (z : Sizes). RootLaid z plan.layout words₃ codes) sizes_are laid_root));
            sizes_same = sizes_kept words words₃ head;
            head = head;
            past = subst (λ (z : Layout). drop (store_end z) words₃ ≡ drop (store_end z) words) l₀
                (free.past ∙ laid.only.past plan.layout.slots (omega (arith, fewer)) ∙ packed.beside.past);
            long = long;
          }

-- the same of what code is due
module _ {plan : Plan} {words stack : List ℕ} {build : Build} {number : ℕ} (due : FinishDue plan words stack build number) where
  pub pack_below_due : (limit : ℕ) → limit ≤ plan.sizes.order → PackCompleteDue plan words stack build limit
  pack_below_due limit to = record { to = 4 ^ plan.sizes.order; codes = due.codes; due = pack_at due.due limit to }

  module _ {words₁ stack₁ : List ℕ} {r : Build} (packed : PackCompleteDone plan build plan.sizes.order words words₁ stack stack₁ r) where
    pub fresh_below : r.fresh ≤ plan.layout.slots
    fresh_below = fresh_to due.due packed

    pub root_lies : 2 * r.count ≤ length stack₁
    root_lies = lies due.due packed

    pub stack_stays : length stack₁ ≡ stack_words
    stack_stays = packed.stack_long ∙ due.due.building.ground.stack_long

    pub lay_root_due : LayDue plan.layout words₁ 0 (take (2 * r.count) stack₁)
    lay_root_due = lay_root due.due packed

  -- whatever is packed, and with whatever number a block is laid
  pub still_fits : {limit slot level code sum : ℕ} {words₁ words₂ stack₁ elements : List ℕ} {r : Build} → PackCompleteDone plan build limit words words₁ stack stack₁ r
      → BlockLaid plan.layout.width slot level code sum elements words₁ words₂ → LayoutFits plan.layout words₂
  still_fits packed laid =
      let before = due.due.building.ground.fits in
      record { within = before.within; lies = rw (laid.only.long, packed.beside.long) before.lies }

pub finished : {plan : Plan} {words words₁ words₂ words₃ stack stack₁ : List ℕ} {build r : Build} {number : ℕ}
    → PackCompleteDone plan build plan.sizes.order words words₁ stack stack₁ r
    → BlockLaid plan.layout.width 0 plan.sizes.order 0 number (take (2 * r.count) stack₁) words₁ words₂ → FreeFrom plan.layout r.fresh words₂ words₃
    → Finished plan build number words words₃ stack
finished packed laid free = record { right = λ codes due. replaced due packed laid free }
