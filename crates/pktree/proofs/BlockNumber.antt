-- The number of blocks: each block takes at least k - 1 from the number of pixels.
use Prim.Native.Nat.{ℕ, zero, suc, ◌+◌, ◌-◌, ◌*◌, ◌/◌, ◌^◌, ◌≤◌, ◌<◌}
use native.Mathlib.Omega.{arith}
use native.Mathlib.Nat.{le-div_iff_mul-le}
use mathlib.Core.Path.{◌≡◌, subst}
use mathlib.Core.List.{List, append-nil}
use lib.ListN.{length, length-append}
use Rattle.pktree.specs.Panel.{Panel, Valid}
use Rattle.pktree.specs.PixelSet.{member, PixelSet}
use Rattle.pktree.specs.Elements.{ForestOf, Forest, empty, pixel, block, block_at, size, gather}
use Rattle.pktree.specs.Tree.{tree, blocks, pixels}
use Rattle.pktree.proofs.Forests.{block_count, length_blocks}
use Rattle.pktree.proofs.Alignment.{aligned_root}
use Rattle.pktree.proofs.Arranged.{Arranged, LocallyRight}
use Rattle.pktree.proofs.LocalLaw.{gather_is_local}
use Rattle.pktree.proofs.Pixels.{pixels_of_set}

-- the sum over the blocks of (elements - 1) is the number of pixels less the elements left
pub blocks_take_pixels : {A : Type 0} (K n from to : ℕ) (f : ForestOf A) → Arranged (suc K) n from to f → K * block_count f + size f ≤ length (pixels f)
blocks_take_pixels K n from to empty h = omega arith
blocks_take_pixels K n from to (pixel c f) h = omega (arith, blocks_take_pixels K n (suc c) to f h.1)
blocks_take_pixels K n from to (block_at u i c es f) h =
    omega (arith, blocks_take_pixels K i c (c + 4 ^ i) es h.6, blocks_take_pixels K n (c + 4 ^ i) to f h.7, length-append (pixels es) (pixels f), h.3)

some_element : (f : Forest) → 1 ≤ length (pixels f) → 1 ≤ size f
some_element empty n = n
some_element (pixel c f) n = omega arith
some_element (block_at u i c es f) n = omega arith

-- blocks of a root with elements that are right
blocks_of_local : (k m : ℕ) (es : Forest) → 2 ≤ k → LocallyRight k m 0 es → 1 ≤ length (pixels es)
    → block_count (block m 0 es empty) ≤ 1 + (length (pixels es) - 1) / (k - 1)
blocks_of_local zero m es h r n = absurd (omega arith)
blocks_of_local (suc K) m es h r n =
    let e : suc K - 1 ≡ K = omega arith in
    let pos : 0 < K = omega arith in
    let q : block_count es ≤ (length (pixels es) - 1) / K =
    (le-div_iff_mul-le pos).1 (omega (arith, blocks_take_pixels K m 0 (0 + 4 ^ m) es r.arranged, some_element es n)) in
    rw e (omega arith)

-- n > 0 pixels have at most 1 + floor((n - 1) / (k - 1)) blocks
pub number_of_blocks : (panel : Panel) (set : List ℕ) → Valid panel → PixelSet panel set → 1 ≤ length set
    → length (blocks (tree panel (member set))) ≤ 1 + (length set - 1) / (panel.k - 1)
number_of_blocks panel set valid h n =
    let es : Forest = gather (member set) panel.k panel.order 0 in
    let e : pixels es ≡ set = rw (append-nil (pixels es)) at (pixels_of_set panel set h) in
    let b = blocks_of_local panel.k panel.order es valid.k_from
    (gather_is_local (member set) panel.k panel.order 0 valid.k_from (aligned_root panel.order)) (rw e n) in
    rw (length_blocks (tree panel (member set))) (subst (λ (l : List ℕ). block_count (tree panel (member set)) ≤ 1 + (length l - 1) / (panel.k - 1)) e b)
