-- The elements of a block depend only on which of its own pixels are marked.
use Prim.Native.Nat.{ℕ, zero, suc, ◌+◌, ◌*◌, ◌^◌, ◌≤◌, ◌<◌}
use native.Mathlib.Omega.{arith}
use mathlib.Core.Path.{◌≡◌, ap}
use mathlib.Core.Bool.{Bool, cond}
use Rattle.pktree.specs.Panel.{Panel, OnPanel}
use Rattle.pktree.specs.Elements.{Forest, empty, pixel, block, gather}
use Rattle.pktree.specs.Tree.{tree}

-- two sets agree on the block of level i and code c
abbrev pub AgreeInside : (ℕ → Bool) → (ℕ → Bool) → ℕ → ℕ → Type 0
AgreeInside M M' i c = (x : ℕ) → c ≤ x → x < c + 4 ^ i → M x ≡ M' x

pub gather_depends_inside : (M M' : ℕ → Bool) (k i c : ℕ) → AgreeInside M M' i c → gather M k i c ≡ gather M' k i c
unfolding gather
gather_depends_inside M M' k zero c h = ap (λ (b : Bool). cond b (pixel c empty) empty) (h c (omega arith) (omega arith))
gather_depends_inside M M' k (suc i) c h =
    let e0 = gather_depends_inside M M' k i c (λ x p q. h x p (omega arith)) in
    let e1 = gather_depends_inside M M' k i (c + 4 ^ i) (λ x p q. h x (omega arith) (omega arith)) in
    let e2 = gather_depends_inside M M' k i (c + 2 * 4 ^ i) (λ x p q. h x (omega arith) (omega arith)) in
    let e3 = gather_depends_inside M M' k i (c + 3 * 4 ^ i) (λ x p q. h x (omega arith) (omega arith)) in
    cc (e0, e1, e2, e3)

-- sets that agree on the panel have one tree
pub tree_depends_on_panel : (panel : Panel) (M M' : ℕ → Bool) → ((x : ℕ) → OnPanel panel x → M x ≡ M' x) → tree panel M ≡ tree panel M'
tree_depends_on_panel panel M M' h =
    ap (λ (f : Forest). block panel.order 0 f empty) (gather_depends_inside M M' panel.k panel.order 0 (λ x p q. h x (omega arith)))
