-- Bounds of a layout's products and of the number of slots, which omega does not find by itself.
use Prim.Native.Nat.{ℕ, ◌+◌, ◌-◌, ◌*◌, ◌≤◌, ◌<◌}
use native.Mathlib.Omega.{arith}
use native.Mathlib.Nat.{suc-mul, mul-le-mul, mul-le-mul_right, div-le_self}
use Rattle.measures.specs.declared.sizes.Sizes.{Sizes}
use Rattle.measures.specs.declared.sizes.Layout.{Layout}
use Rattle.measures.specs.Sizes.{ValidSizes, slot_count, largest_most}
use Rattle.measures.specs.Layout.{LayoutWithin, most_slots, widest_slot}

-- a slot ends where the next one begins, and the last where the slots end
pub slot_ends : (slot slots width : ℕ) → slot < slots → slot * width + width ≤ slots * width
slot_ends slot slots width h = rw suc-mul at (mul-le-mul_right width h)

-- each factor is at its limit at most
pub words_bounded : {layout : Layout} → LayoutWithin layout → layout.slots * layout.width ≤ most_slots * widest_slot
words_bounded h = mul-le-mul h.slots_to h.width_to

-- a quotient is at most what is divided
pub slot_count_bounded : {sizes : Sizes} → ValidSizes sizes → slot_count sizes.k sizes.most ≤ largest_most
slot_count_bounded {sizes} h = omega (arith, div-le_self (sizes.most - 1) (sizes.k - 1))
