-- Words 0 to 3 written make a store of these sizes.
use Prim.Native.Nat.{ℕ, ◌≤◌}
use native.Mathlib.Omega.{arith}
use mathlib.Core.Path.{refl}
use mathlib.Core.List.{List, [], ◌∷◌}
use lib.ListN.{length, set}
use Rattle.measures.specs.declared.sizes.Sizes.{Sizes}
use Rattle.measures.specs.Sizes.{ValidSizes, store_words, WroteSizes, register_mark}

pub sizes_written : (sizes : Sizes) (words : List ℕ) → ValidSizes sizes → store_words sizes ≤ length words
    → WroteSizes sizes words (set (set (set (set words 0 register_mark) 1 sizes.order) 2 sizes.k) 3 sizes.most)
sizes_written sizes [] v h = absurd (omega arith)
sizes_written sizes (a ∷ []) v h = absurd (omega arith)
sizes_written sizes (a ∷ b ∷ []) v h = absurd (omega arith)
sizes_written sizes (a ∷ b ∷ c ∷ []) v h = absurd (omega arith)
sizes_written sizes (a ∷ b ∷ c ∷ d ∷ words) v h =
    record { usable = record { long = omega arith; mark = refl; valid = v; enough = h }; sizes_are = refl; rest = refl; long = refl }
