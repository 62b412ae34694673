-- The pixels of a block are those among its elements and those of its elements that are blocks.
use Prim.Native.Nat.{ℕ, suc}
use native.Mathlib.Omega.{arith}
use mathlib.Core.Path.{◌≡◌, refl, sym}
use mathlib.Core.List.{List, [], ◌∷◌, ◌++◌, append_assoc, append-nil}
use Rattle.pktree.specs.Lists.{Every, total}
use Rattle.pktree.specs.Elements.{Forest, empty, pixel, block_at}
use Rattle.pktree.specs.Tree.{BlockOf, pixels}
use Rattle.pktree.proofs.EntryOrder.{every_join}
use Rattle.pktree.proofs.Forests.{block_count}
use Rattle.searching.specs.Search.{pixel_elements, block_elements, pixels_among}
use Rattle.searching.proofs.ListLaws.{every_left, every_right}

-- of every pixel of a block
abbrev pub Inside : (ℕ → Type 0) → BlockOf → Type 0
Inside P b = Every P (pixels b.elements)

pub pixels_split : (P : ℕ → Type 0) (f : Forest) → Every P (pixels f) → Every P (pixel_elements f) × Every (Inside P) (block_elements f)
pixels_split P empty h = (tt, tt)
pixels_split P (pixel c f) h = let r = pixels_split P f h.1 in ((h.0, r.0), r.1)
pixels_split P (block_at u i c es f) h =
    let r = pixels_split P f (every_right P (pixels es) (pixels f) h) in
    (r.0, (every_left P (pixels es) (pixels f) h, r.1))

pub pixels_joined : (P : ℕ → Type 0) (f : Forest) → Every P (pixel_elements f) → Every (Inside P) (block_elements f) → Every P (pixels f)
pixels_joined P empty h g = tt
pixels_joined P (pixel c f) h g = (h.0, pixels_joined P f h.1 g)
pixels_joined P (block_at u i c es f) h g = every_join P (pixels es) (pixels f) g.0 (pixels_joined P f h g.1)

pub among_append : (l r : List BlockOf) → pixels_among (l ++ r) ≡ pixels_among l ++ pixels_among r
among_append [] r = refl
among_append (b ∷ l) r = rw (among_append l r) (sym (append_assoc (pixel_elements b.elements) (pixels_among l) (pixels_among r)))

-- after one block more
pub among_end : (l : List BlockOf) (b : BlockOf) → pixels_among (l ++ (b ∷ [])) ≡ pixels_among l ++ pixel_elements b.elements
among_end l b = rw (among_append l (b ∷ []), append-nil (pixel_elements b.elements))

-- a block and the blocks inside it
abbrev pub held_by : BlockOf → ℕ
held_by b = suc (block_count b.elements)

pub held_elements : (f : Forest) → total held_by (block_elements f) ≡ block_count f
held_elements empty = refl
held_elements (pixel c f) = held_elements f
held_elements (block_at u i c es f) = omega (arith, held_elements f)
