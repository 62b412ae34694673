-- The numbers of blocks and pixels, part by part.
use Prim.Native.Nat.{ℕ, ◌+◌}
use native.Mathlib.Omega.{arith}
use native.Mathlib.Nat.{add-zero}
use mathlib.Core.Path.{◌≡◌, ap, sym}
use mathlib.Core.List.{List, append-nil}
use lib.ListN.{length, length-append}
use Rattle.pktree.specs.Elements.{ForestOf, empty, ◌⧺◌}
use Rattle.pktree.specs.Tree.{pixels}
use Rattle.pktree.proofs.Forests.{block_count_join, pixels_join}
use Rattle.store.specs.Placed.{Placed}
use Rattle.traversal.specs.declared.Claim.{Claim}
use Rattle.traversal.specs.declared.Seen.{Seen}
use Rattle.traversal.specs.Walk.{Limits, WithinLimits, seen_with, claimed}

seen_as : {a b c d : ℕ} → a ≡ b → c ≡ d → ◌≡◌ {A = Seen} (record { blocks = a; pixels = c }) (record { blocks = b; pixels = d })
seen_as p q = cc

pub seen_none : (seen : Seen) → seen ≡ seen_with {A = ℕ} seen empty
seen_none seen = seen_as (sym (add-zero _)) (sym (add-zero _))

pub seen_join : {A : Type 0} (seen : Seen) (f g : ForestOf A) → seen_with (seen_with seen f) g ≡ seen_with seen (f ⧺ g)
seen_join seen f g =
    seen_as (omega (arith, block_count_join f g)) (omega (arith, ap length (pixels_join f g), length-append (pixels f) (pixels g)))

-- a block counts itself and what is inside it
pub seen_block : (seen : Seen) (claim : Claim) (es : Placed)
    → seen_with (record { blocks = seen.blocks + 1; pixels = seen.pixels }) es ≡ seen_with seen (claimed claim es)
seen_block seen claim es = seen_as (omega arith) (ap (λ (l : List ℕ). seen.pixels + length l) (sym (append-nil (pixels es))))

-- what is enough for elements is enough for the first of them
pub within_first : {A : Type 0} {limits : Limits} (seen : Seen) (f g : ForestOf A) → WithinLimits limits (seen_with seen (f ⧺ g)) → WithinLimits limits (seen_with seen f)
within_first seen f g h =
    record {
      blocks_to = omega (arith, h.blocks_to, block_count_join f g);
      pixels_to = omega (arith, h.pixels_to, ap length (pixels_join f g), length-append (pixels f) (pixels g));
    }
