-- Codes of which each is below the next ascend, and where one is not, they do not.
use Prim.Native.Nat.{ℕ, zero, suc, ◌≤◌, ◌<◌}
use native.Mathlib.Omega.{arith}
use native.Mathlib.Numerals.{add-one}
use mathlib.Core.Path.{◌≡◌, sym}
use mathlib.Core.Bool.{Bool, true, false}
use mathlib.Core.List.{List, [], ◌∷◌}
use lib.ListN.{length, get_or}
use lib.Dec.{ltb}
use borrow.Author.Tests.{ltb-true, ltb-false}
use Rattle.std.specs.List.{IsAllAdjacentAnswer}
use Rattle.pktree.specs.PixelSet.{Ascending}
use Rattle.measures.specs.Decides.{Decides}

each_below_next : List ℕ → Type 0
each_below_next codes = (k : ℕ) → suc k < length codes → get_or codes k 0 < get_or codes (suc k) 0

from_first : (from code : ℕ) (codes : List ℕ) → from ≤ code → each_below_next (code ∷ codes) → Ascending from (code ∷ codes)
unfolding each_below_next
from_first from code [] l below = (l, tt)
from_first from code (next ∷ codes) l below =
    (l, from_first (suc code) next codes (omega (arith, below 0 (omega arith))) (λ k r. below (suc k) (omega arith)))

each_in_order : (from : ℕ) (codes : List ℕ) → Ascending from codes → each_below_next codes
unfolding each_below_next
each_in_order from [] up k r = absurd (omega arith)
each_in_order from (code ∷ []) up k r = absurd (omega arith)
each_in_order from (code ∷ next ∷ codes) up zero r = omega (arith, up.1.0)
each_in_order from (code ∷ next ∷ codes) up (suc k) r = each_in_order (suc code) (next ∷ codes) up.1 k (omega arith)

pub ascend_judged : (codes : List ℕ) (r : Bool) → IsAllAdjacentAnswer (λ x y b. b ≡ ltb x y) codes r → Decides r (Ascending 0 codes)
unfolding each_below_next
ascend_judged [] true each = tt
ascend_judged (code ∷ codes) true each = from_first 0 code codes (omega arith) (λ k r. ltb-true _ _ (sym (rw add-one at (each k 0 (rw add-one r)))))
ascend_judged codes false fails = λ up.
    let above = ltb-false _ _ (sym (fails.2 0)) in
    let below = each_in_order 0 codes up fails.0 (omega (arith, fails.1)) in
    omega (arith, rw add-one at above)
