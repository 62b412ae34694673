-- Arranged elements cut in two: each part is arranged, up to some code or from it on.
use Prim.Native.Nat.{ℕ, suc, ◌+◌, ◌^◌}
use native.Mathlib.Omega.{arith}
use Rattle.pktree.specs.Elements.{ForestOf, empty, pixel, ◌⧺◌, block_at}
use Rattle.pktree.proofs.Arranged.{Arranged}

pub arranged_parts : {A : Type 0} (k n from to : ℕ) (a b : ForestOf A) → Arranged k n from to (a ⧺ b) → (mid : ℕ) × Arranged k n from mid a × Arranged k n mid to b
arranged_parts k n from to empty b h = (from, omega arith, h)
arranged_parts k n from to (pixel c a) b h =
    let (mid, low, high) = arranged_parts k n (suc c) to a b h.1 in
    (mid, (h.0, low), high)
arranged_parts k n from to (block_at v i c es a) b h =
    let (mid, low, high) = arranged_parts k n (c + 4 ^ i) to a b h.7 in
    (mid, (h.0, h.1, h.2, h.3, h.4, h.5, h.6, low), high)
