-- How many entries are pixels, told by the levels alone: how many of these are 0, a pixel's.
use Rattle.std.specs.Prelude.{ℕ, suc, cond, List, [], ◌∷◌, eqb}

abbrev pub pixel_levels : List ℕ → ℕ
pixel_levels [] = 0
pixel_levels (level ∷ levels) = cond (eqb level 0) (suc (pixel_levels levels)) (pixel_levels levels)
