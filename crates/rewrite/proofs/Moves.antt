-- A run of elements that moves to a free slot: what taking the slot, the move, the splice and the header leave together.
use Prim.Native.Nat.{ℕ, ◌*◌, ◌≤◌, ◌<◌}
use native.Mathlib.Omega.{arith}
use native.Mathlib.Decide.{ℕ_discrete}
use mathlib.Core.Path.{◌≡◌, refl, ap, sym, ◌∙◌}
use mathlib.Core.List.{List, [], ◌∷◌}
use lib.ListN.{length}
use lib.Seq.{paste}
use Rattle.measures.specs.Words.{first_free_word}
use Rattle.measures.specs.declared.sizes.Layout.{Layout}
use Rattle.std.proofs.Common.{Option, Some}
use Rattle.elements.specs.Element.{block_tag}
use Rattle.measures.specs.Layout.{LayoutFits, most_elements, most_slots}
use Rattle.measures.specs.Slot.{slot_part, count_word, number_word, OnlySlot, element_index, slot_head}
use Rattle.elements.specs.Splice.{elements_in, CanSplice, with_header}
use Rattle.freeslots.specs.FreeSlots.{TookFree}
use Rattle.sums.specs.Sum.{number_of_elements}
use Rattle.freeslots.proofs.FreeChains.{head_taken_lem}
use Rattle.sums.proofs.ElementNumbers.{number_of_kept}
use Rattle.measures.proofs.SlotWrites.{SlotWritten}
use Rattle.measures.proofs.Usable.{slot_long}
use Rattle.rewrite.specs.Rewrite.{CanCut, RunWithin, SlotNow, SplicedSlot, RunMoved, BlockFormed, block_words, run_words}
use Rattle.rewrite.proofs.SlotNows.{header_kept, slot_wrote, spliced_now, spliced_number}
use Rattle.rewrite.proofs.Runs.{run_within, run_whole, run_long, run_fits}

-- a run of at least one element gives way to one
run_gives_way : {layout : Layout} {words : List ℕ} {slot level first size : ℕ} (source : List ℕ) → CanCut layout words slot level first size → 1 ≤ size
    → 2 ≤ length source → CanSplice (slot_part layout.width words slot) source first size 1
run_gives_way {layout} {words} {slot} source can some two =
    let long = slot_long layout words slot can.fits can.slot_below in
    record {
      short = omega (arith, can.fits.within);
      laid = omega (arith, can.laid);
      cut = can.within;
      room = omega (arith, can.laid, can.within);
      source_long = two;
    }

-- no slot has room for a longer run
pub run_few : {layout : Layout} {words : List ℕ} {slot level first size : ℕ} → CanCut layout words slot level first size → size ≤ most_elements
run_few can = omega (arith, can.laid, can.within, can.fits.within.width_to)

-- a free slot taken changes no slot, so a run that lay in one lies there still
cut_still : {layout : Layout} {slot level first size fresh : ℕ} {before taken : List ℕ} → CanCut layout before slot level first size
    → TookFree layout before taken (Some fresh) → CanCut layout taken slot level first size
cut_still {slot = slot} can took =
    let h = head_taken_lem took in
    record {
      fits = record { within = can.fits.within; lies = rw h.long can.fits.lies };
      slot_below = can.slot_below;
      level_to = can.level_to;
      laid = rw (h.slots slot) can.laid;
      within = rw (h.slots slot) can.within;
    }

-- so it does when it was moved, to whichever slot
cut_moved : {layout : Layout} {slot level first size other : ℕ} {before moved : List ℕ} → CanCut layout before slot level first size → other < layout.slots
    → RunMoved layout.width slot first size other before moved → CanCut layout moved slot level first size
cut_moved {layout} {slot} {first = first} {size = size} {other = other} {before = before} {moved = moved} can below wrote =
    record {
      fits = record { within = can.fits.within; lies = rw wrote.only.long can.fits.lies };
      slot_below = can.slot_below;
      level_to = can.level_to;
      laid = rw count can.laid;
      within = rw count can.within;
    }
  where
    same : Dec (slot ≡ other) → count_word (slot_part layout.width moved slot) ≡ count_word (slot_part layout.width before slot)
    same (yes e) = rw (e, wrote.self)
        (header_kept (slot_part layout.width before other) _ (2 * size) (omega (arith, slot_long layout before other can.fits below, can.fits.within.width_from)))
    same (no e) = ap count_word (wrote.only.others slot e)

    count : count_word (slot_part layout.width moved slot) ≡ count_word (slot_part layout.width before slot)
    count = same (ℕ_discrete slot other)

-- the run and a header make a block of the slot
pub moved_now : {layout : Layout} {slot level first size other : ℕ} {before part : List ℕ} (code number : ℕ) → CanCut layout before slot level first size → other < layout.slots
    → part ≡ paste (slot_part layout.width before other) slot_head (run_words (elements_in (slot_part layout.width before slot)) first size) (2 * size)
    → SlotNow (with_header part level code size number) level code (run_words (elements_in (slot_part layout.width before slot)) first size)
    × (number_word (with_header part level code size number) ≡ number)
moved_now {layout} {slot} {level} {first} {size} {other} {before} code number can below e =
    let run : List ℕ = run_words (elements_in (slot_part layout.width before slot)) first size in
    let within = run_within {level = level} can refl in
    let room : element_index size ≤ length (slot_part layout.width before other) =
    omega (arith, slot_long layout before other can.fits below, run_fits can.fits can.slot_below within) in
    let whole = run_whole (elements_in (slot_part layout.width before slot)) first size in
    let wrote = slot_wrote (slot_part layout.width before other) run level code size number room (omega (arith, run_long (slot_part layout.width before slot) first size within)) in
    rw (e, whole) (rw whole at wrote)

-- the same slot written twice
pub only_twice : {width slot : ℕ} {before mid after : List ℕ} → OnlySlot width slot before mid → OnlySlot width slot mid after → OnlySlot width slot before after
only_twice p q = record {
  long = q.long ∙ p.long;
  head = q.head ∙ p.head;
  others = λ other ne. q.others other ne ∙ p.others other ne;
  past = λ n below. q.past n below ∙ p.past n below;
}

-- the steps of forming a block, with the free slot as code has it: in an enum, and then its number as a size
module _ {layout : Layout} {slot level first size : ℕ} {before : List ℕ} (taken : List ℕ) (free : Option ℕ) (fresh : ℕ) (is : free ≡ Some fresh)
    (took' : TookFree layout before taken free) (can : CanCut layout before slot level first size) where
  took : TookFree layout before taken (Some fresh)
  took = rw is at took'

  still : CanCut layout taken slot level first size
  still = cut_still can took

  pub fresh_small : fresh ≤ most_slots
  fresh_small = omega (arith, took.1, can.fits.within.slots_to)

  pub taken_fits : LayoutFits layout taken
  taken_fits = still.fits

  pub run_still_within : RunWithin (slot_part layout.width taken slot) first size
  run_still_within = run_within still refl

  pub lent_within : (part : List ℕ) → part ≡ slot_part layout.width taken slot → RunWithin part first size
  lent_within part lent = run_within still lent

  module _ (other : ℕ) (wide : other ≡ fresh) where
    pub fresh_below : other < layout.slots
    fresh_below = rw wide took.1

    module _ (moved : List ℕ) (put : RunMoved layout.width slot first size other taken moved) where
      after_move : CanCut layout moved slot level first size
      after_move = cut_moved still fresh_below put

      pub moved_fits : LayoutFits layout moved
      moved_fits = after_move.fits

      pub moved_gives_way : (source : List ℕ) → 1 ≤ size → 2 ≤ length source → CanSplice (slot_part layout.width moved slot) source first size 1
      moved_gives_way source some two = run_gives_way source after_move some two

      module _ (source cut : List ℕ) (own : SplicedSlot layout.width slot first size 1 source moved cut) where
        pub cut_fits : LayoutFits layout cut
        cut_fits = record { within = can.fits.within; lies = rw own.only.long after_move.fits.lies }

        -- the free slot is taken, the run moved there, the run gives way to the block's element, and the free slot gets its header
        pub block_formed : (code tag again number : ℕ) (part after : List ℕ) → 1 ≤ size → again ≡ fresh → source ≡ code ∷ tag ∷ [] → tag ≡ block_tag fresh level
            → part ≡ slot_part layout.width taken slot → number ≡ number_of_elements layout taken size (run_words (elements_in part) first size)
            → SlotWritten layout.width again cut (with_header (slot_part layout.width cut again) level code size number) after
            → BlockFormed layout slot level code first size (first_free_word before) before after
        block_formed code tag again number part after some wide' two named lent summed headed' =
            let h = head_taken_lem took in
            let headed : SlotWritten layout.width fresh cut (with_header (slot_part layout.width cut fresh) level code size number) after = rw wide' at headed' in
            let put : RunMoved layout.width slot first size fresh taken moved = rw wide at put in
            let own : SplicedSlot layout.width slot first size 1 (block_words fresh level code) moved cut = rw (two, named) at own in
            let new : (fresh ≡ slot → ⊥)
            → SlotNow (with_header (slot_part layout.width cut fresh) level code size number) level code (run_words (elements_in (slot_part layout.width taken slot)) first size)
            × (number_word (with_header (slot_part layout.width cut fresh) level code size number) ≡ number) =
            λ apart. moved_now code number still took.1 (own.only.others fresh apart ∙ put.self) in
            rw (← took.0) (record {
              long = headed.only.long ∙ own.only.long ∙ put.only.long ∙ h.long;
              fresh_is = took.0;
              fresh_below = took.1;
              was_free = took.2;
              some_left = took.3;
              head = headed.only.head ∙ own.only.head ∙ put.only.head ∙ h.head_is;
              others = λ t ne nf. headed.only.others t nf ∙ own.only.others t ne ∙ put.only.others t nf ∙ h.slots t;
              past = λ n below fresh_below. headed.only.past n fresh_below ∙ own.only.past n below ∙ put.only.past n fresh_below ∙ h.past n;
              new_block = λ apart. rw (headed.self, ← h.slots slot) (new apart).0;
              around = λ apart. let ne : slot ≡ fresh → ⊥ = λ e. apart (sym e) in
                  rw (headed.only.others slot ne, ← h.slots slot, ← put.only.others slot ne)
                  (spliced_now (run_gives_way (block_words fresh level code) after_move some (omega arith)) own.spliced);
              new_number = λ apart. ap number_word headed.self ∙ (new apart).1 ∙ summed
                  ∙ ap (λ (p : List ℕ). number_of_elements layout taken size (run_words (elements_in p) first size)) (lent ∙ h.slots slot) ∙ number_of_kept layout taken before h.slots size _;
              number_kept = λ apart. let ne : slot ≡ fresh → ⊥ = λ e. apart (sym e) in
                  ap number_word (headed.only.others slot ne) ∙ spliced_number own.spliced ∙ ap number_word (put.only.others slot ne ∙ h.slots slot);
            })
