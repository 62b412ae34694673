-- The number of pixels among entries, counted by their levels.
use Prim.Native.Nat.{ℕ, zero, suc, ◌+◌, ◌*◌}
use native.Mathlib.Omega.{arith}
use mathlib.Core.Path.{◌≡◌, refl, ap}
use mathlib.Core.Bool.{Bool, true, false, cond}
use mathlib.Core.List.{List, ◌∷◌}
use lib.Dec.{eqb}
use lib.ListN.{length, get_or, drop}
use lib.Seq.{drop-cons, drop-length}
use Rattle.std.specs.List.{count_by}
use Rattle.std.proofs.lemmas.List.Recursion.{is_count_by}
use Rattle.pktree.specs.Entries.{pixel_entries}
use Rattle.image.specs.Parts.{four_at, entries_at}
use Rattle.reader.specs.PixelCount.{pixel_levels}

-- the definition is a count by a test
pub counted_levels : (levels : List ℕ) → pixel_levels levels ≡ count_by (λ level. eqb level 0) levels
counted_levels =
    is_count_by pixel_levels (λ level. eqb level 0) refl
    (λ level levels. let one : suc (pixel_levels levels) ≡ 1 + pixel_levels levels = omega arith in ap (λ (n : ℕ). cond (eqb level 0) n (pixel_levels levels)) one)

-- as many levels 0 as pixels among the entries
kept_length : (b : Bool) (code : ℕ) (l : List ℕ) (n : ℕ) → length l ≡ n → length (cond b (code ∷ l) l) ≡ cond b (suc n) n
kept_length true code l n e = ap suc e
kept_length false code l n e = e

pub pixel_entries_number : (codes levels : List ℕ) (n at : ℕ) → at + n ≡ length levels → length (pixel_entries (entries_at codes levels n at)) ≡ pixel_levels (drop at levels)
unfolding entries_at
pixel_entries_number codes levels zero at e = let z : at ≡ length levels = omega arith in rw (z, drop-length levels)
pixel_entries_number codes levels (suc n) at e =
    rw (drop-cons levels at 0 (omega arith))
    (kept_length (eqb (get_or levels at 0) 0) (four_at codes (4 * at)) (pixel_entries (entries_at codes levels n (suc at))) (pixel_levels (drop (suc at) levels))
    (pixel_entries_number codes levels n (suc at) (omega arith)))
