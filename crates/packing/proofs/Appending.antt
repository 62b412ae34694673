-- One code more: the blocks that it lies beyond are packed, and it is pushed.
use Prim.Native.Nat.{ℕ, suc, ◌+◌, ◌*◌, ◌/◌, ◌^◌, ◌≤◌, ◌<◌}
use native.Mathlib.Omega.{arith}
use native.Mathlib.Nat.{mul-le-mul_right, div-eq_of_lt}
use mathlib.Core.Path.{◌≡◌, ap, sym, ◌∙◌}
use mathlib.Core.List.{List, [], ◌∷◌, ◌++◌, append-nil}
use lib.ListN.{length, length-set, length-append}
use Rattle.pktree.specs.Elements.{empty, pixel, ◌⧺◌}
use Rattle.pktree.proofs.Forests.{block_count, block_count_join, size_join, pixels_join}
use Rattle.pktree.proofs.Alignment.{block_code, block_code_le, block_of_block_code}
use Rattle.pktree.proofs.Arranged.{arranged_upper}
use Rattle.morton.specs.CommonLevel.{CommonLevel}
use Rattle.store.specs.Placed.{Placed, slots_of}
use Rattle.freeslots.specs.FreeSlots.{occurrences}
use Rattle.store.proofs.Standing.{element_words}
use Rattle.store.proofs.PlacedJoin.{slots_join, words_join, stands_join}
use Rattle.packing.specs.declared.Build.{Build}
use Rattle.packing.specs.declared.plan.Plan.{Plan}
use Rattle.packing.specs.Growing.{OnlyAround, most_open, stack_words}
use Rattle.packing.specs.Build.{PushDue, PushedCode, Grown, PackCompleteAt, PackCompleteDue, CompletePacked, PackCompleteDone, Building, AppendDue, AppendDone}
use Rattle.packing.proofs.Growth.{div_mono, open_around_next, pushed}
use Rattle.packing.proofs.OpenElements.{few_open}
use Rattle.packing.proofs.StackWords.{two_set, grown_lies}
use Rattle.store.proofs.BlockNumbers.{tree_numbers_join}

-- codes in one block are in one block of every higher level
common_above : (x d i j : ℕ) → i ≤ j → x / 4 ^ i ≡ d / 4 ^ i → x / 4 ^ j ≡ d / 4 ^ j
common_above x d i j l e = sym (block_of_block_code i j x l) ∙ ap (λ (n : ℕ). n * 4 ^ i / 4 ^ j) e ∙ block_of_block_code i j d l

-- a block that holds x and not the later d ends before d
ends_before : (x d j : ℕ) → x ≤ d → (x / 4 ^ j ≡ d / 4 ^ j → ⊥) → block_code j x + 4 ^ j ≤ d
ends_before x d j l ne =
    let q : x / 4 ^ j < d / 4 ^ j = omega (arith, div_mono j x d l) in
    omega (arith, mul-le-mul_right (4 ^ j) q, block_code_le j d)

-- elements below a code are below a later one
pub grown_more : {plan : Plan} {words stack : List ℕ} {build : Build} {to : ℕ} (d : ℕ) {codes : List ℕ} → to ≤ d
    → Grown plan words stack build to codes → Grown plan words stack build d codes
grown_more {plan} {to = to} d l g = record {
  placed = g.placed;
  many = g.many;
  on_stack = g.on_stack;
  stands = g.stands;
  numbers = g.numbers;
  fresh_is = g.fresh_is;
  numbered = g.numbered;
  opened = record { arranged = arranged_upper plan.sizes.k plan.sizes.order 0 to d g.placed l g.opened.arranged; reach = g.opened.reach; others = g.opened.others };
  codes_are = g.codes_are;
}

module _ {plan : Plan} {words stack : List ℕ} {build : Build} {code level : ℕ} {done later : List ℕ} (b : Building plan words stack build done (code ∷ later))
    (common : CommonLevel build.last code level) where
  last_below : build.last ≤ code
  last_below = omega (arith, b.ascending.0, b.last_below)

  -- the blocks around the last code below the common level do not hold this one
  pack_at : PackCompleteAt plan words stack build level code done
  pack_at = record {
    ground = b.ground;
    grown = grown_more code b.ascending.0 b.grown;
    room = omega (arith, b.room);
    limit_to = common.least plan.sizes.order (div-eq_of_lt b.last_inside ∙ sym (div-eq_of_lt b.on_panel.0));
    complete = λ j l. ends_before build.last code j last_below (λ e. omega (arith, common.least j e));
  }

  module _ {words' stack' : List ℕ} {r : Build} (packed : PackCompleteDone plan build level words words' stack stack' r) where
    after : CompletePacked plan words' stack' r level code done
    after = packed.right code done pack_at

    abbrev placed : Placed
    placed = after.grown.placed

    around : OnlyAround plan.sizes.k plan.sizes.order code placed
    around = open_around_next plan.sizes.k plan.sizes.order r.last code code level placed after.grown.opened after.few
        (λ j l. rw packed.last_is (common_above build.last code level j l common.common))

    stack_same : length stack' ≡ stack_words
    stack_same = packed.stack_long ∙ b.ground.stack_long

    few : r.count ≤ most_open
    few =
        omega (
          arith,
          after.grown.many,
          few_open plan.sizes.k plan.sizes.order code placed plan.valid.panel.k_to plan.valid.panel.order_to b.on_panel.0 after.grown.opened.arranged around,
        )

    room_to_push : PushDue stack' r
    room_to_push = record { there = omega (arith, few, stack_same); few = few }

    module _ {stack'' : List ℕ} {r' : Build} (put : PushedCode r code stack' stack'' r') where
      abbrev one : Placed
      one = pixel code empty

      blocks_same : block_count (placed ⧺ one) ≡ block_count placed
      blocks_same = omega (arith, block_count_join placed one)

      appended : Grown plan words' stack'' r' (suc code) (done ++ (code ∷ []))
      appended = record {
        placed = placed ⧺ one;
        many = omega (arith, put.count_is, size_join placed one, after.grown.many);
        on_stack = rw (put.stack_is, put.count_is)
            (two_set stack' r.count code 0 (omega (arith, room_to_push.there)) ∙ ap (λ (l : List ℕ). l ++ element_words one) after.grown.on_stack ∙ sym (words_join placed one));
        stands = stands_join plan.layout.width words' placed one after.grown.stands tt;
        numbers = tree_numbers_join plan.layout.width words' placed one after.grown.numbers tt;
        fresh_is = omega (arith, put.fresh_is, after.grown.fresh_is, blocks_same);
        numbered = λ s. rw blocks_same (ap (occurrences s) (slots_join placed one ∙ append-nil (slots_of placed)) ∙ after.grown.numbered s);
        opened = rw put.last_is
            (pushed plan.sizes.k plan.sizes.order r.last code placed (rw packed.last_is last_below) after.grown.opened.arranged after.grown.opened.reach around);
        codes_are = pixels_join placed one ∙ ap (λ (l : List ℕ). l ++ (code ∷ [])) after.grown.codes_are;
      }

      built_on : Building plan words' stack'' r' (done ++ (code ∷ [])) later
      built_on = record {
        ground = record {
          fits = record { within = b.ground.fits.within; lies = rw packed.beside.long b.ground.fits.lies };
          stack_long = rw put.stack_is (simp length-set stack_same);
        };
        to = suc code;
        grown = appended;
        to_inside = b.on_panel.0;
        last_inside = rw put.last_is b.on_panel.0;
        last_below = omega (arith, put.last_is);
        ascending = b.ascending.1;
        on_panel = b.on_panel.1;
        room = omega (arith, b.room, length-append done (code ∷ []));
      }

-- the same of what code is due
pub stack_lies : {plan : Plan} {words stack : List ℕ} {build : Build} {code : ℕ} → AppendDue plan words stack build code → 2 * build.count ≤ length stack
stack_lies due = grown_lies due.building.grown

pub k_counts : {plan : Plan} {words stack : List ℕ} {build : Build} {code k : ℕ} → AppendDue plan words stack build code → k ≡ plan.sizes.k → 1 ≤ k
k_counts {plan} due e = omega (arith, plan.valid.panel.k_from)

module _ {plan : Plan} {words stack : List ℕ} {build : Build} {code level : ℕ} (due : AppendDue plan words stack build code)
    (common : CommonLevel build.last code level) where
  pub pack_complete_due : PackCompleteDue plan words stack build level
  pack_complete_due = record { to = code; codes = due.done; due = pack_at due.building common }

  module _ {words' stack' : List ℕ} {r : Build} (packed : PackCompleteDone plan build level words words' stack stack' r) where
    pub push_due : PushDue stack' r
    push_due = room_to_push due.building common packed

pub append_done : {plan : Plan} {words stack words' stack' stack'' : List ℕ} {build r r' : Build} {code level : ℕ} → CommonLevel build.last code level
    → PackCompleteDone plan build level words words' stack stack' r → PushedCode r code stack' stack'' r' → AppendDone plan build code words words' stack stack'' r'
append_done common packed put = record {
  beside = packed.beside;
  stack_long = rw put.stack_is (simp length-set packed.stack_long);
  right = λ done later b. built_on b common packed put;
}
