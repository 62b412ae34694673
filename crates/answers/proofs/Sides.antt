-- The side of a usable store's panel, and the codes of its pixels.
use Prim.Native.Nat.{ℕ, ◌*◌, ◌%◌, ◌^◌, ◌≤◌}
use mathlib.Core.Path.{◌≡◌}
use mathlib.Core.List.{List}
use Rattle.morton.specs.Coordinate.{largest_side}
use Rattle.morton.specs.Code.{code_of}
use Rattle.morton.proofs.Codes.{interleave_below}
use Rattle.morton.proofs.Side.{side_shifted}
use Rattle.pktree.specs.Panel.{OnPanel}
use Rattle.measures.specs.declared.sizes.Sizes.{Sizes}
use Rattle.measures.specs.Sizes.{panel_of, sizes_of, UsableStore}
use Rattle.promises.specs.Effect.{HasPixelOn}

-- the sizes that were read are those of a usable store
abbrev pub Known : List ℕ → Sizes → Type 0
Known words sizes = (sizes ≡ sizes_of words) × UsableStore words

pub order_small : {words : List ℕ} {sizes : Sizes} → Known words sizes → sizes.order ≤ 16
order_small known = rw known.0 known.1.valid.panel.order_to

pub side_of_order
    : {words : List ℕ} {sizes : Sizes} → Known words sizes
    → (1 * 2 ^ sizes.order % 4294967296 ≡ 2 ^ (sizes_of words).order) × (2 ^ (sizes_of words).order ≤ largest_side)
side_of_order known = let s = side_shifted known.1.valid.panel.order_to in rw known.0 (s.0, s.1)

pub code_on_panel : {words : List ℕ} {sizes : Sizes} {x y code : ℕ} → Known words sizes → HasPixelOn words x y → code ≡ code_of x y → OnPanel (panel_of sizes) code
code_on_panel {x = x} {y = y} known on is = rw (is, known.0) (interleave_below 16 _ x y on.0 on.1)
