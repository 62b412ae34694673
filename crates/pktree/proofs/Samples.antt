-- 01 "Sample panels": the starred lines, by computation; and 02, P4 and P8 on one of them.
use Prim.Native.Nat.{ℕ, ◌<◌}
use native.Mathlib.Omega.{arith}
use mathlib.Core.Path.{◌≡◌, refl}
use mathlib.Core.Logic.{◌⊎◌, inl, inr}
use mathlib.Core.List.Memᴰ
use mathlib.Core.List.{[], ◌∷◌, Memᴰ}
use Rattle.morton.specs.Code.{interleave, gather_bits}
use Rattle.pktree.specs.PixelSet.{member}
use Rattle.pktree.specs.Elements.{Forest, empty, pixel, gather}
use Rattle.pktree.specs.Tree.{BlockOf, block_of, blocks}
use Rattle.pktree.specs.SmallestBlock.{Contains, Smallest}
use Rattle.pktree.specs.Window.{some_from, every_from}
use Rattle.pktree.specs.Samples.{first_panel, StarredLines, TestedSingly, FirstLocated}
use Rattle.pktree.proofs.SmallestBlocks.{NoneContains, smallest_if_none_inside}

pub starred_lines : StarredLines
unfolding gather interleave
starred_lines =
    record {
      first = refl;
      then_clear_1 = refl;
      second = refl;
      then_mark_2 = refl;
      two_elements = refl;
      root_alone = refl;
      eight_elements = refl;
      then_mark_4 = refl;
      seven_elements = refl;
      small_empty = refl;
      small_full = refl;
      code_27 = refl;
      code_last = refl;
    }

pub tested_singly : TestedSingly
unfolding gather interleave gather_bits some_from every_from
tested_singly = record { whole_panel = refl; without_last_column = refl; one_pixel = refl }

-- no block among these elements
none_of_none : (x : ℕ) (f : Forest) → blocks f ≡ [] → NoneContains x f
none_of_none x f e i c es m h = Memᴰ.not-nil (rw e at m)

-- one block, which does not contain the pixel
none_of_one : (x : ℕ) (f : Forest) (b : BlockOf) → blocks f ≡ b ∷ [] → (Contains b.level b.code x → ⊥) → NoneContains x f
none_of_one x f b e away i c es m h = go (Memᴰ.cases_cons (rw e at m))
  where
    go : (block_of i c es ≡ b) ⊎ Memᴰ (block_of i c es) [] → ⊥
    go (inl q) = away (rw (← q) h)
    go (inr n) = Memᴰ.not-nil n

-- the block of level 1 at code 0 has three elements, all of them pixels
in_block : (x : ℕ) → x < 4 → Smallest (record { order = 3; k = 3 }) (member first_panel) x 1 0
unfolding gather
in_block x p =
    smallest_if_none_inside _ _ x
    (record { of_panel = record { low = omega arith; aligned = refl; corner = omega arith }; enough = inr (omega arith) })
    (omega arith, omega arith) (none_of_none x (gather (member first_panel) 3 1 0) refl)

pub first_located : FirstLocated
unfolding gather
first_located =
    record {
      at_0 = in_block 0 (omega arith);
      at_3 = in_block 3 (omega arith);
      at_15 = smallest_if_none_inside _ _ 15
          (record { of_panel = record { low = omega arith; aligned = refl; corner = omega arith }; enough = inl refl })
          (omega arith, omega arith) (none_of_one 15 (gather (member first_panel) 3 3 0) (block_of 1 0 (pixel 0 (pixel 1 (pixel 2 empty)))) refl (λ h. absurd (omega (arith, h.1))));
      elements_of_root = refl;
      elements_of_block = refl;
    }
