-- 02, P5: squared distances, from a place to a pixel and to the nearest position in a block. A place is a pixel, by its code.
use Rattle.std.specs.Prelude.{ℕ, ◌+◌, ◌-◌, ◌*◌, ◌^◌, min, max}
use Rattle.morton.specs.Code.{x_of, y_of}

-- how far two coordinates are apart
abbrev pub apart : ℕ → ℕ → ℕ
apart a b = a - b + (b - a)

abbrev pub square : ℕ → ℕ
square a = a * a

unfoldable pub squared_distance : ℕ → ℕ → ℕ
squared_distance place code = square (apart (x_of place) (x_of code)) + square (apart (y_of place) (y_of code))

-- of the coordinates of a side, as many as `side` from `from` on, the one nearest to a
abbrev pub clamped : ℕ → ℕ → ℕ → ℕ
clamped from side a = max from (min a (from + side - 1))

-- the squared distance from a place to the nearest position in the block of this level and code
unfoldable pub block_distance : ℕ → ℕ → ℕ → ℕ
block_distance place level code =
    square (apart (x_of place) (clamped (x_of code) (2 ^ level) (x_of place)))
    + square (apart (y_of place) (clamped (y_of code) (2 ^ level) (y_of place)))
