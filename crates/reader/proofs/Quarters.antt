-- The quarters of a block that are still to be read, and the rows that those read make.
use Prim.Native.Nat.{ℕ, zero, suc, ◌+◌, ◌*◌, ◌^◌, ◌≤◌}
use native.Mathlib.Omega.{arith}
use mathlib.Core.Path.{◌≡◌, refl, subst}
use mathlib.Core.Bool.{Bool}
use mathlib.Core.List.{List, ◌++◌, append_assoc}
use Rattle.pktree.specs.Panel.{Aligned}
use Rattle.pktree.specs.Elements.{Forest, empty, ◌⧺◌, give, gather}
use Rattle.pktree.specs.Entries.{Entry, entries}
use Rattle.pktree.proofs.Forests.{join_empty}
use Rattle.pktree.proofs.Alignment.{aligned_next}
use Rattle.pktree.proofs.EntryOrder.{entries_join}
use Rattle.pktree.proofs.LocalLaw.{gather_is_local, given_row}
use Rattle.reader.specs.Reading.{From}
use Rattle.reader.proofs.FirstEntry.{from_lower, from_arranged}

-- what the last n quarters give, the first of them at this code
unfoldable pub quarters : (ℕ → Bool) → ℕ → ℕ → ℕ → ℕ → Forest
quarters marked k level zero code = empty
quarters marked k level (suc n) code = give k level code (gather marked k level code) ⧺ quarters marked k level n (code + 4 ^ level)

pub gather_is_quarters : (marked : ℕ → Bool) (k level code : ℕ) → gather marked k (suc level) code ≡ quarters marked k level 4 code
unfolding gather quarters
gather_is_quarters marked k level code =
    let two : code + 4 ^ level + 4 ^ level ≡ code + 2 * 4 ^ level = omega arith in
    let three : code + 2 * 4 ^ level + 4 ^ level ≡ code + 3 * 4 ^ level = omega arith in
    rw (two, three, join_empty (give k level (code + 3 * 4 ^ level) (gather marked k level (code + 3 * 4 ^ level))))

-- entries past the last quarter are past none of those before
pub from_quarters : (marked : ℕ → Bool) (k level n code : ℕ) (rest : List Entry) → 2 ≤ k → Aligned level code → From (code + n * 4 ^ level) rest
    → From code (entries (quarters marked k level n code) ++ rest)
unfolding quarters
from_quarters marked k level zero code rest h aligned past = from_lower code (code + 0 * 4 ^ level) rest (omega arith) past
from_quarters marked k level (suc n) code rest h aligned past =
    let es : Forest = gather marked k level code in
    let others : Forest = quarters marked k level n (code + 4 ^ level) in
    let end : code + suc n * 4 ^ level ≡ code + 4 ^ level + n * 4 ^ level = omega arith in
    rw (entries_join (give k level code es) others, append_assoc (entries (give k level code es)) (entries others) rest)
    (from_arranged k (suc level) code (code + 4 ^ level) (give k level code es) (entries others ++ rest)
    (given_row k level code (code + 4 ^ level) es h refl aligned (gather_is_local marked k level code h aligned)).arranged
    (from_quarters marked k level n (code + 4 ^ level) rest h (aligned_next level code aligned) (subst (λ (to : ℕ). From to rest) end past)))
