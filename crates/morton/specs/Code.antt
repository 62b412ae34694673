-- 01 "Panel, pixel, code": bit i of x is bit 2i of the code, bit i of y is bit 2i + 1.
use Rattle.std.specs.Prelude.{ℕ, zero, suc, ◌+◌, ◌*◌, ◌/◌, ◌%◌}

-- bit i of x, for i below n, at place 2i
unfoldable pub spread_bits : ℕ → ℕ → ℕ
spread_bits zero x = 0
spread_bits (suc n) x = 4 * spread_bits n (x / 2) + x % 2

-- bit 2i of c, for i below n, at place i
unfoldable pub gather_bits : ℕ → ℕ → ℕ
gather_bits zero c = 0
gather_bits (suc n) c = 2 * gather_bits n (c / 4) + c % 2

-- bit i of x at place 2i and bit i of y at place 2i + 1, for i below n
unfoldable pub interleave : ℕ → ℕ → ℕ → ℕ
interleave zero x y = 0
interleave (suc n) x y = 4 * interleave n (x / 2) (y / 2) + 2 * (y % 2) + x % 2

-- 01: the code of the pixel (x, y); a coordinate has at most 16 bits
abbrev pub code_of : ℕ → ℕ → ℕ
code_of x y = interleave 16 x y

abbrev pub x_of : ℕ → ℕ
x_of c = gather_bits 16 c

abbrev pub y_of : ℕ → ℕ
y_of c = gather_bits 16 (c / 2)
