-- How many elements a quarter gives, and how many a block of the tree has.
use Prim.Native.Nat.{ℕ, zero, suc, ◌+◌, ◌-◌, ◌*◌, ◌^◌, ◌≤◌}
use native.Mathlib.Omega.{arith}
use mathlib.Core.Path.{◌≡◌}
use mathlib.Core.Bool.{Bool}
use mathlib.Core.Logic.{◌⊎◌}
use mathlib.Core.List.{Memᴰ}
use Rattle.pktree.specs.Panel.{Panel, Valid}
use Rattle.pktree.specs.Elements.{Forest, empty, pixel, size, give, gather}
use Rattle.pktree.specs.Tree.{tree, block_of, blocks}
use Rattle.pktree.proofs.Forests.{size_join, cond_case, give_case}
use Rattle.pktree.proofs.InTree.{in_tree_exactly_instantiated}

pub size_give : (k i c : ℕ) (f : Forest) → 2 ≤ k → size (give k i c f) ≤ k - 1
size_give k i c f h = give_case (λ (g : Forest). size g ≤ k - 1) k i c f (λ l. omega arith) (λ l. omega arith)

size_leaf : (M : ℕ → Bool) (k c : ℕ) → size (gather M k 0 c) ≤ 1
unfolding gather
size_leaf M k c = cond_case (λ (g : Forest). size g ≤ 1) (M c) (pixel c empty) empty (λ t. omega arith) (λ t. omega arith)

pub size_gather : (M : ℕ → Bool) (k i c : ℕ) → 2 ≤ k → size (gather M k (suc i) c) ≤ 4 * (k - 1)
unfolding gather
size_gather M k i c h =
    simp size_join (omega (
      arith,
      size_give k i c (gather M k i c) h,
      size_give k i (c + 4 ^ i) (gather M k i (c + 4 ^ i)) h,
      size_give k i (c + 2 * 4 ^ i) (gather M k i (c + 2 * 4 ^ i)) h,
      size_give k i (c + 3 * 4 ^ i) (gather M k i (c + 3 * 4 ^ i)) h,
    ))

-- of a block of any level
pub size_gather_any : (M : ℕ → Bool) (k i c : ℕ) → 2 ≤ k → size (gather M k i c) ≤ 4 * (k - 1)
size_gather_any M k zero c h = omega (arith, size_leaf M k c)
size_gather_any M k (suc i) c h = size_gather M k i c h

pub block_sizes : (panel : Panel) (M : ℕ → Bool) (level code : ℕ) (es : Forest) → Valid panel → Memᴰ (block_of level code es) (blocks (tree panel M))
    → (size es ≤ 4 * (panel.k - 1)) × ((level ≡ panel.order) ⊎ (panel.k ≤ size es))
block_sizes panel M level code es v m =
    let h = (in_tree_exactly_instantiated panel M level code es).0 m in
    rw h.1 (size_gather_any M panel.k level code v.k_from, h.0.enough)
