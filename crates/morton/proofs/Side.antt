-- The side of a panel, as the code makes it by a shift.
use Rattle.std.proofs.Common.{◌≡◌, ℕ, ◌*◌, ◌%◌, ◌^◌, ◌≤◌, arith, pow_pos, pow_mono}
use Rattle.morton.specs.Coordinate.{largest_side}

-- it fits in a word, and is at least 1
pub side_shifted : {order : ℕ} → order ≤ 16 → (1 * 2 ^ order % 4294967296 ≡ 2 ^ order) × (2 ^ order ≤ largest_side) × (1 ≤ 2 ^ order)
side_shifted {order} low = let p : 2 ^ order ≤ 2 ^ 16 = pow_mono low in omega (arith, pow_pos order)
