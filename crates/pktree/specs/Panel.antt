-- 01 "Panel, pixel, code" and "Blocks": a panel of order m, with the number k of its tree.
use Rattle.std.specs.Prelude.{ℕ, ◌/◌, ◌*◌, ◌^◌, ◌≤◌, ◌<◌, ◌≡◌, Bool, ◌&&◌, ltb}

pub record Panel : Type 0 where
  pub order : ℕ
  pub k : ℕ

-- 01's limits: m is 1 to 16, k is 2 to 16
pub record Valid (panel : Panel) : Type 0 where
  pub order_from : 1 ≤ panel.order
  pub order_to : panel.order ≤ 16
  pub k_from : 2 ≤ panel.k
  pub k_to : panel.k ≤ 16

-- a pixel is (x, y), each from 0 to 2 ^ m - 1
abbrev pub HasPixel : Panel → ℕ → ℕ → Type 0
HasPixel panel x y = (x < 2 ^ panel.order) × (y < 2 ^ panel.order)

-- the same of a pixel's code
abbrev pub OnPanel : Panel → ℕ → Type 0
OnPanel panel code = code < 4 ^ panel.order

-- both as tests
abbrev pub is_pixel : Panel → ℕ → ℕ → Bool
is_pixel panel x y = ltb x (2 ^ panel.order) && ltb y (2 ^ panel.order)

abbrev pub is_on_panel : Panel → ℕ → Bool
is_on_panel panel code = ltb code (4 ^ panel.order)

-- a code that a block of this level can have
abbrev pub Aligned : ℕ → ℕ → Type 0
Aligned level code = code / 4 ^ level * 4 ^ level ≡ code

-- a block of the panel: an aligned square of side 2 ^ level, by the code of its lowest corner
pub record Block (panel : Panel) (level code : ℕ) : Type 0 where
  pub low : level ≤ panel.order
  pub aligned : Aligned level code
  pub corner : OnPanel panel code
