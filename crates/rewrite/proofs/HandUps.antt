-- What a block that has turned underfull hands up: all its elements, or those beside a run, with the run as a block that takes over the slot.
use Prim.Native.Nat.{ℕ, ◌+◌, ◌-◌, ◌*◌, ◌≤◌, ◌<◌}
use native.Mathlib.Omega.{arith}
use mathlib.Core.Path.{◌≡◌, ap, ◌∙◌}
use mathlib.Core.List.{List}
use lib.ListN.{length}
use lib.Seq.{paste}
use Rattle.measures.specs.declared.sizes.Layout.{Layout}
use Rattle.measures.specs.Words.{blocks_word}
use Rattle.measures.specs.Slot.{slot_part, count_word, number_word, count_index}
use Rattle.measures.proofs.SlotWrites.{SlotWritten}
use Rattle.measures.proofs.Usable.{part_length}
use Rattle.freeslots.specs.FreeSlots.{Released}
use Rattle.sums.specs.Sum.{number_of_elements}
use Rattle.elements.specs.Splice.{elements_in, with_header}
use Rattle.rewrite.specs.Rewrite.{CanHandUp, CanLayBeside, LaidBeside, HandedUpAll, HandedUpBlock, RunMoved, run_words}
use Rattle.rewrite.proofs.Runs.{run_within, whole_within, run_copied, whole_run}
use Rattle.rewrite.proofs.Moves.{moved_now, only_twice}

module _ {layout : Layout} {words scratch : List ℕ} {slot level first size : ℕ} (part : List ℕ) (can : CanHandUp layout words slot level first size scratch)
    (lent : part ≡ slot_part layout.width words slot) where
  pub count_there : count_index < length part
  count_there = omega (arith, (part_length can.cut.fits can.cut.slot_below lent).0)

  pub can_lay_beside : CanLayBeside part slot level first size scratch
  can_lay_beside =
      record {
        run = run_within can.cut lent;
        slot_to = omega (arith, can.cut.slot_below, can.cut.fits.within.slots_to);
        level_to = can.cut.level_to;
        few = rw lent can.few;
        room = can.room;
      }

  pub block_handed_up : (code number r : ℕ) (run laid moved after : List ℕ) → LaidBeside part slot level code first size scratch laid r
      → run ≡ slot_part layout.width words slot → number ≡ number_of_elements layout words size (run_words (elements_in run) first size)
      → RunMoved layout.width slot first size slot words moved
      → SlotWritten layout.width slot moved (with_header (slot_part layout.width moved slot) level code size number) after
      → HandedUpBlock layout slot level code first size words after scratch laid r
  block_handed_up code number r run laid moved after beside' lent' summed put headed =
      let beside : LaidBeside (slot_part layout.width words slot) slot level code first size scratch laid r = rw lent at beside' in
      let now = moved_now code number can.cut can.cut.slot_below put.self in
      record {
        rest_is = beside.rest_is;
        long = beside.long;
        handed = beside.handed;
        taken_over = rw headed.self now.0;
        number_is = ap number_word headed.self ∙ now.1 ∙ summed ∙ ap (λ (p : List ℕ). number_of_elements layout words size (run_words (elements_in p) first size)) lent';
        only = only_twice put.only headed.only;
      }

module _ {layout : Layout} {words scratch : List ℕ} {slot : ℕ} (part : List ℕ) (count : ℕ) (can : CanHandUp layout words slot 0 0 0 scratch)
    (lent : part ≡ slot_part layout.width words slot) (counted : count ≡ count_word part) where
  few : count_word (slot_part layout.width words slot) < 16
  few = omega (arith, can.few)

  pub room_for_all : 0 + 2 * count ≤ length scratch
  room_for_all = rw (counted, lent) (omega (arith, can.room, few))

  pub all_handed_up : (left : ℕ) (copied after : List ℕ) → copied ≡ paste scratch 0 (run_words (elements_in part) 0 count) (2 * count) → length copied ≡ length scratch
      → left ≡ blocks_word words - 1 → Released layout.width slot left words after → HandedUpAll layout slot words after scratch copied count
  all_handed_up left copied after put long less freed =
      let n : count ≡ count_word (slot_part layout.width words slot) = rw lent at counted in
      let run = rw lent at (run_copied part scratch 0 count (whole_within can.cut lent counted) put) in
      record { rest_is = n; long = long; handed = rw (run, n) (whole_run (slot_part layout.width words slot)); freed = rw (← less) freed }
