-- A forest whose every block has a slot.
use Rattle.std.specs.Prelude.{ℕ, List, [], ◌∷◌, ◌++◌}
use Rattle.pktree.specs.Elements.{ForestOf, empty, pixel, block_at}

-- each block with its slot
abbrev pub Placed : Type 0
Placed = ForestOf ℕ

-- the slots, each as often as it is used
abbrev pub slots_of : Placed → List ℕ
slots_of empty = []
slots_of (pixel c t) = slots_of t
slots_of (block_at s i c es t) = s ∷ (slots_of es ++ slots_of t)
