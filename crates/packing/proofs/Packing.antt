-- One block packed: what the stack and the store hold before and after.
use Prim.Native.Nat.{ℕ, suc, ◌+◌, ◌-◌, ◌*◌, ◌/◌, ◌^◌, ◌≤◌, ◌<◌}
use native.Mathlib.Omega.{arith}
use native.Mathlib.Decide.{dec_lt}
use mathlib.Core.Path.{◌≡◌, ap, subst, sym, ◌∙◌}
use mathlib.Core.List.{List, [], ◌∷◌, ◌++◌, append-nil}
use lib.ListN.{length, get_or, take, drop, length-set, length-append}
use lib.Seq.{take-take, take_at, drop_at}
use Rattle.pktree.specs.Lists.{Every}
use Rattle.pktree.specs.Elements.{empty, block_at, ◌⧺◌, size}
use Rattle.pktree.specs.Tree.{pixels}
use Rattle.pktree.proofs.Forests.{block_count, block_count_join, size_join, pixels_join}
use Rattle.pktree.proofs.Counting.{count_in_le}
use Rattle.pktree.proofs.Alignment.{block_code}
use Rattle.pktree.proofs.Regroup.{count_around}
use Rattle.morton.specs.CommonLevel.{CommonLevel}
use Rattle.measures.specs.declared.sizes.Layout.{Layout}
use Rattle.measures.specs.Sizes.{slot_count, largest_most}
use Rattle.measures.specs.Layout.{layout_of}
use Rattle.measures.specs.Slot.{slot_part, number_word, element_index}
use Rattle.measures.proofs.SlotWrites.{drop_take}
use Rattle.elements.specs.Element.{block_tag}
use Rattle.elements.specs.RunStart.{RunStart}
use Rattle.store.specs.Placed.{Placed, slots_of}
use Rattle.freeslots.specs.FreeSlots.{occurrences, numbers_from}
use Rattle.sums.specs.Sum.{number_of_elements}
use Rattle.store.proofs.Standing.{element_words, SlotSays, Stands, frame, every_right}
use Rattle.store.proofs.PlacedJoin.{slots_join, words_join, length_element_words, stands_join, stands_parts}
use Rattle.store.proofs.BlockNumbers.{TreeNumbers, tree_numbers_parts, tree_numbers_kept, tree_numbers_join}
use Rattle.sums.proofs.ElementNumbers.{elements_number}
use Rattle.freeslots.proofs.FreeChains.{every_map, occurrences_join, absent}
use Rattle.rewrite.proofs.SlotNows.{now_says}
use Rattle.packing.specs.declared.Build.{Build}
use Rattle.packing.specs.declared.plan.Plan.{Plan}
use Rattle.packing.specs.Growing.{code_of_element}
use Rattle.packing.specs.Build.{NothingToPack, PackDue, PackedRun, Beside, PackCompleteAt, CompletePacked}
use Rattle.packing.proofs.Growth.{Packed, packing, many_around, few_around, none_to_pack}
use Rattle.packing.proofs.OpenElements.{slot_left}
use Rattle.packing.proofs.StackWords.{two_set, grown_lies, code_on_stack}
use Rattle.packing.proofs.SlotNumbers.{next_number, numbers_past, numbered_below}

module _ {plan : Plan} {words stack : List ℕ} {build : Build} {limit to : ℕ} {codes : List ℕ} (due : PackCompleteAt plan words stack build limit to codes) where
  abbrev placed : Placed
  placed = due.grown.placed

  two : 2 ≤ plan.sizes.k
  two = plan.valid.panel.k_from

  -- nothing is left to pack below the limit
  pub all_packed : NothingToPack plan.sizes.k stack build limit → CompletePacked plan words stack build limit to codes
  all_packed nothing = record {
    grown = due.grown;
    few = λ i l. none_to_pack plan.sizes.k plan.sizes.order build.last to i placed two due.grown.opened
        (λ f e. nothing.none (omega (arith, due.grown.many)) i l
        (rw (code_on_stack due.grown (build.count - plan.sizes.k) (omega (arith, due.grown.many, two))) (rw due.grown.many at e)));
  }

  -- a run that was found
  module _ {level first : ℕ} (full : plan.sizes.k ≤ build.count) (common : CommonLevel (get_or stack (2 * (build.count - plan.sizes.k)) 0) build.last level) (low : level < limit)
      (start : RunStart stack (build.count - plan.sizes.k) build.last level first) where
    -- the element that k are counted from
    kth : code_of_element placed (build.count - plan.sizes.k) ≡ get_or stack (2 * (build.count - plan.sizes.k)) 0
    kth = sym (code_on_stack due.grown (build.count - plan.sizes.k) (omega (arith, two)))

    at_start : code_of_element placed first / 4 ^ level ≡ build.last / 4 ^ level
    at_start = go (dec_lt first (build.count - plan.sizes.k))
      where
        go : Dec (first < build.count - plan.sizes.k) → code_of_element placed first / 4 ^ level ≡ build.last / 4 ^ level
        go (yes l) = rw (← code_on_stack due.grown first (omega arith)) (start.near first (omega arith) l)
        go (no l) =
            let e : first ≡ build.count - plan.sizes.k = omega (arith, start.within) in
            rw (e, kth) common.common

    -- the run is all that lies in the block
    many_in : build.count ≤ first + count_around level build.last placed
    many_in =
        omega (
          arith,
          due.grown.many,
          many_around plan.sizes.k plan.sizes.order 0 to level build.last placed first due.grown.opened.arranged due.grown.opened.reach
              (omega (arith, due.grown.many, start.within, two)) at_start,
        )

    few_in : count_around level build.last placed + first ≤ build.count
    few_in = go (dec_lt 0 first)
      where
        go : Dec (0 < first) → count_around level build.last placed + first ≤ build.count
        go (yes l) =
            let ne : code_of_element placed (first - 1) / 4 ^ level ≡ build.last / 4 ^ level → ⊥ =
            λ z. start.ends (first - 1) (omega arith) (rw (code_on_stack due.grown (first - 1) (omega (arith, start.within))) z) in
            omega (
              arith,
              due.grown.many,
              few_around plan.sizes.k plan.sizes.order 0 to level build.last placed (first - 1) due.grown.opened.arranged due.grown.opened.reach
                  (omega (arith, due.grown.many, start.within)) ne,
            )
        go (no l) = omega (arith, due.grown.many, count_in_le level (build.last / 4 ^ level) placed)

    packed : Packed plan.sizes.k plan.sizes.order build.last to level placed
    packed =
        packing plan.sizes.k plan.sizes.order build.last to level placed two due.grown.opened (omega (arith, due.limit_to)) (due.complete level low)
        (omega (arith, many_in, start.within))
        (λ i l. none_to_pack plan.sizes.k plan.sizes.order build.last to i placed two due.grown.opened
        (λ f z. omega (arith, common.least i (rw (due.grown.many, kth) at z))))

    abbrev left : Placed
    left = packed.before

    abbrev right : Placed
    right = packed.run

    size_right : size right ≡ build.count - first
    size_right = omega (arith, packed.count, many_in, few_in)

    size_left : size left ≡ first
    size_left = omega (arith, size_right, start.within, due.grown.many, ap size packed.is, size_join left right)

    abbrev one : Placed
    one = block_at build.fresh level (block_code level build.last) right empty

    blocks_after : block_count (left ⧺ one) ≡ suc (block_count placed)
    blocks_after = omega (arith, block_count_join left one, ap block_count packed.is, block_count_join left right)

    pixels_after : pixels (left ⧺ one) ≡ codes
    pixels_after = packed.same build.fresh ∙ due.grown.codes_are

    -- a slot is left for it
    fresh_below : build.fresh < slot_count plan.sizes.k plan.sizes.most
    fresh_below =
        omega (
          arith,
          slot_left plan.sizes.k plan.sizes.order plan.sizes.most to (left ⧺ one) two (packed.opened build.fresh).arranged (omega (arith, size_join left one))
              (omega (arith, due.room, ap length pixels_after)),
          blocks_after,
          due.grown.fresh_is,
        )

    layout_is : plan.layout ≡ layout_of plan.sizes
    layout_is = plan.laid.is

    fresh_in : build.fresh < plan.layout.slots
    fresh_in = subst (λ (l : Layout). build.fresh < l.slots) (sym layout_is) fresh_below

    pub pack_due : PackDue plan.layout words stack build first level
    pack_due = record {
      fits = due.ground.fits;
      slot_left = fresh_in;
      some = omega (arith, start.within, two);
      there = grown_lies due.grown;
      few = omega (arith, grown_lies due.grown, due.ground.stack_long);
      room = subst (λ (l : Layout). element_index (build.count - first) ≤ l.width) (sym layout_is) (omega (arith, size_right, packed.most));
      level_to = omega (arith, due.limit_to, plan.valid.panel.order_to);
    }

    -- the words of both parts
    stack_parts : take (2 * build.count) stack ≡ element_words left ++ element_words right
    stack_parts = due.grown.on_stack ∙ ap element_words packed.is ∙ words_join left right

    left_long : length (element_words left) ≡ 2 * first
    left_long = length_element_words left ∙ ap (λ (n : ℕ). 2 * n) size_left

    left_words : take (2 * first) stack ≡ element_words left
    left_words =
        sym (take-take (2 * first) (2 * build.count) stack (omega (arith, start.within))) ∙ ap (take (2 * first)) stack_parts
        ∙ take_at (element_words left) (element_words right) (2 * first) left_long

    right_words : take (2 * (build.count - first)) (drop (2 * first) stack) ≡ element_words right
    right_words =
        let n : 2 * first + 2 * (build.count - first) ≡ 2 * build.count = omega (arith, start.within) in
        sym (drop_take (2 * first) (2 * (build.count - first)) stack) ∙ ap (λ (m : ℕ). drop (2 * first) (take m stack)) n ∙ ap (drop (2 * first)) stack_parts
        ∙ drop_at (element_words left) (element_words right) (2 * first) left_long

    -- what the run stands for: its own pixels
    run_number : number_of_elements plan.layout words (build.count - first) (element_words right) ≡ length (pixels right)
    run_number =
        let inside : Every (λ s. s < plan.layout.slots) (slots_of placed) =
        numbered_below (block_count placed) plan.layout.slots (slots_of placed) (omega (arith, fresh_in, due.grown.fresh_is)) due.grown.numbered in
        let few : length (pixels right) ≤ largest_most = omega (
          arith,
          ap length (sym due.grown.codes_are ∙ ap pixels packed.is ∙ pixels_join left right),
          length-append (pixels left) (pixels right),
          due.room,
          plan.valid.most_to,
        ) in
        rw (← size_right) (elements_number plan.layout words right (stands_parts plan.layout.width words left right (subst (Stands plan.layout.width words) packed.is due.grown.stands)).1
        (every_right _ (slots_of left) (slots_of right) (subst (Every (λ s. s < plan.layout.slots)) (ap slots_of packed.is ∙ slots_join left right) inside))
        (tree_numbers_parts plan.layout.width words left right (subst (TreeNumbers plan.layout.width words) packed.is due.grown.numbers)).1 few)

    -- what packing leaves
    module _ {words' stack' : List ℕ} {r : Build} (done : PackedRun plan.layout build first level words words' stack stack' r) where
      -- no block has the slot yet
      unused : occurrences build.fresh (slots_of placed) ≡ 0
      unused = due.grown.numbered build.fresh ∙ numbers_past build.fresh 1 (block_count placed) (omega (arith, due.grown.fresh_is))

      slots_kept : Every (λ s. slot_part plan.layout.width words s ≡ slot_part plan.layout.width words' s) (slots_of placed)
      slots_kept = every_map _ _ (slots_of placed) (λ s ne. sym (done.laid.only.others s ne)) (absent build.fresh (slots_of placed) unused)

      stands_still : Stands plan.layout.width words' placed
      stands_still = frame plan.layout.width words words' placed slots_kept due.grown.stands

      numbers_still : TreeNumbers plan.layout.width words' placed
      numbers_still = tree_numbers_kept plan.layout.width words words' placed slots_kept due.grown.numbers

      own_number : number_word (slot_part plan.layout.width words' build.fresh) ≡ length (pixels right)
      own_number = done.laid.number_is ∙ ap (number_of_elements plan.layout words (build.count - first)) right_words ∙ run_number

      numbers_after : TreeNumbers plan.layout.width words' (left ⧺ one)
      numbers_after =
          let both = tree_numbers_parts plan.layout.width words' left right (subst (TreeNumbers plan.layout.width words') packed.is numbers_still) in
          tree_numbers_join plan.layout.width words' left one both.0 (own_number, both.1, tt)

      stands_after : Stands plan.layout.width words' (left ⧺ one)
      stands_after =
          let both = stands_parts plan.layout.width words' left right (subst (Stands plan.layout.width words') packed.is stands_still) in
          let says : SlotSays (slot_part plan.layout.width words' build.fresh) level (block_code level build.last) right = now_says (rw right_words at done.laid.says) in
          stands_join plan.layout.width words' left one both.0 (omega (arith, fresh_in, due.ground.fits.within.slots_to), says, both.1, tt)

      stack_after : take (2 * (first + 1)) stack' ≡ element_words (left ⧺ one)
      stack_after =
          rw done.stack_is
          (two_set stack first (block_code level build.last) (block_tag build.fresh level) (omega (arith, start.within, two, grown_lies due.grown))
          ∙ ap (λ (l : List ℕ). l ++ element_words one) left_words ∙ sym (words_join left one))

      numbered_after : (s : ℕ) → occurrences s (slots_of (left ⧺ one)) ≡ occurrences s (numbers_from 1 (block_count (left ⧺ one)))
      numbered_after s =
          let n : ℕ = block_count placed in
          rw blocks_after (omega (
            arith,
            ap (occurrences s) (slots_join left one) ∙ occurrences_join s (slots_of left) (slots_of one),
            occurrences_join s (build.fresh ∷ []) (slots_of right ++ []),
            ap (occurrences s) (append-nil (slots_of right)),
            ap (λ (t : Placed). occurrences s (slots_of t)) packed.is ∙ ap (occurrences s) (slots_join left right) ∙ occurrences_join s (slots_of left) (slots_of right),
            ap (occurrences s) (next_number n build.fresh due.grown.fresh_is) ∙ occurrences_join s (numbers_from 1 n) (build.fresh ∷ []),
            due.grown.numbered s,
          ))

      pub beside_after : Beside plan.layout words words'
      beside_after = record { long = done.laid.only.long; head = done.laid.only.head; past = done.laid.only.past plan.layout.slots fresh_in }

      pub still_due : PackCompleteAt plan words' stack' r limit to codes
      still_due = record {
        ground = record {
          fits = record { within = due.ground.fits.within; lies = rw done.laid.only.long due.ground.fits.lies };
          stack_long = rw done.stack_is (simp length-set due.ground.stack_long);
        };
        grown = record {
          placed = left ⧺ one;
          many = omega (arith, done.count_is, size_join left one, size_left);
          on_stack = rw done.count_is stack_after;
          stands = stands_after;
          numbers = numbers_after;
          fresh_is = omega (arith, done.fresh_is, due.grown.fresh_is, blocks_after);
          numbered = numbered_after;
          opened = rw done.last_is (packed.opened build.fresh);
          codes_are = pixels_after;
        };
        room = due.room;
        limit_to = due.limit_to;
        complete = rw done.last_is due.complete;
      }

      pub fewer_left : r.count < build.count
      fewer_left = omega (arith, done.count_is, start.within, two)
