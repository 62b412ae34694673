-- A closed store that is sound, so that what asks for a sound store asks nothing absurd: 01's first sample panel, m = 3, k = 3, N = 9.
-- That every usable store can be made sound is shown by `building::finish`.
use Prim.Native.Nat.{ℕ}
use native.Mathlib.Omega.{arith}
use mathlib.Core.Path.{refl}
use mathlib.Core.List.{List, [], ◌∷◌, ◌++◌}
use lib.ListN.{replicate}
use Rattle.pktree.specs.Elements.{gather, block_at, empty, pixel}
use Rattle.measures.specs.Slot.{slot_part}
use Rattle.store.specs.Placed.{Placed}
use Rattle.store.specs.Reading.{read_slot}
use Rattle.freeslots.specs.FreeSlots.{FreeSlots}
use Rattle.store.specs.Sound.{SlotsShared, Sound, Holds}
use Rattle.store.proofs.BlockNumbers.{numbered_by_used}
use Rattle.freeslots.proofs.FreedSlots.{numbers_once, numbers_inside}

-- a free slot
abbrev free_slot : ℕ → List ℕ
free_slot next = (0 ∷ 0 ∷ 0 ∷ next ∷ []) ++ replicate 24 0

-- the block 3/0 in slot 0, the block 1/0 in slot 1, and slots 2, 3, 4 free
abbrev pub sample_words : List ℕ
sample_words =
    (0x504B0001 ∷ 3 ∷ 3 ∷ 9 ∷ 0 ∷ 0 ∷ 2 ∷ 2 ∷ [])
    ++ ((3 ∷ 0 ∷ 2 ∷ 0 ∷ 4 ∷ 0 ∷ 0 ∷ 0 ∷ 0 ∷ 1048578 ∷ 60 ∷ 0 ∷ []) ++ replicate 16 0)
    ++ ((1 ∷ 0 ∷ 3 ∷ 0 ∷ 3 ∷ 0 ∷ 0 ∷ 0 ∷ 0 ∷ 0 ∷ 1 ∷ 0 ∷ 2 ∷ 0 ∷ []) ++ replicate 14 0)
    ++ free_slot 3
    ++ free_slot 4
    ++ free_slot 0xFFFFFFFF

abbrev pub sample_placed : Placed
sample_placed = block_at 0 3 0 (block_at 1 1 0 (pixel 0 (pixel 1 (pixel 2 empty))) (pixel 60 empty)) empty

pub sample_is_sound : Sound sample_words sample_placed
unfolding gather read_slot slot_part
sample_is_sound =
    let chain : FreeSlots 28 sample_words (2 ∷ 3 ∷ 4 ∷ []) = (refl, refl, (refl, refl, (refl, refl, refl))) in
    let shared : SlotsShared 5 (0 ∷ 1 ∷ []) (2 ∷ 3 ∷ 4 ∷ []) = record { once = λ s h. numbers_once s 0 5 (omega arith) h; inside = numbers_inside 0 5 5 (omega arith) } in
    record {
      usable = record {
        long = omega arith;
        mark = refl;
        valid = record {
          panel = record { order_from = omega arith; order_to = omega arith; k_from = omega arith; k_to = omega arith };
          most_from = omega arith;
          most_to = omega arith;
        };
        enough = omega arith;
      };
      reads = refl;
      is_tree = refl;
      fits = omega arith;
      free = 2 ∷ 3 ∷ 4 ∷ [];
      chain = chain;
      shared = shared;
      counted = refl;
      numbered = numbered_by_used 28 5 sample_words (0 ∷ 1 ∷ 2 ∷ 60 ∷ []) (0 ∷ 1 ∷ []) (2 ∷ 3 ∷ 4 ∷ []) shared chain ((λ one. refl), ((λ one. refl), tt));
    }

pub sample_holds : Holds sample_words (0 ∷ 1 ∷ 2 ∷ 60 ∷ [])
sample_holds = record { placed = sample_placed; sound = sample_is_sound; set_is = refl }
