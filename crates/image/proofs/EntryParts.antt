-- The entries that codes and levels say, one after another.
use Prim.Native.Nat.{ℕ, zero, suc, ◌+◌, ◌*◌}
use native.Mathlib.Omega.{arith}
use mathlib.Core.Path.{◌≡◌, refl, ap, ap₂, ◌∙◌}
use mathlib.Core.List.{List, [], ◌∷◌}
use lib.ListN.{length, get_or}
use Rattle.pktree.specs.Lists.{Every}
use Rattle.pktree.specs.Entries.{Entry, entry}
use Rattle.pktree.specs.Image.{code_bytes, level_bytes}
use Rattle.pktree.proofs.EntryOrder.{EntryWithin}
use Rattle.image.specs.Parts.{four_at, entries_at}
use Rattle.image.proofs.FourBytes.{four_bytes_sum}

-- after the first code and the first level
code_after : (a b c d : ℕ) (codes : List ℕ) (at : ℕ) → four_at (a ∷ b ∷ c ∷ d ∷ codes) (4 * suc at) ≡ four_at codes (4 * at)
code_after a b c d codes at =
    let e : (i : ℕ) → 4 * suc at + i ≡ suc (suc (suc (suc (4 * at + i)))) = λ i. omega arith in
    let z : 4 * suc at ≡ suc (suc (suc (suc (4 * at)))) = omega arith in
    rw (e 1, e 2, e 3, z)

entries_after : (a b c d level : ℕ) (codes levels : List ℕ) (n at : ℕ)
    → entries_at (a ∷ b ∷ c ∷ d ∷ codes) (level ∷ levels) n (suc at) ≡ entries_at codes levels n at
unfolding entries_at
entries_after a b c d level codes levels zero at = refl
entries_after a b c d level codes levels (suc n) at =
    ap₂ ◌∷◌ (ap (entry (get_or levels at 0)) (code_after a b c d codes at)) (entries_after a b c d level codes levels n (suc at))

-- the arrays of entries tell those entries
pub entries_of_arrays : (top : ℕ) (l : List Entry) → Every (EntryWithin 4294967296 top) l → entries_at (code_bytes l) (level_bytes l) (length l) 0 ≡ l
unfolding entries_at
entries_of_arrays top [] h = refl
entries_of_arrays top (e ∷ l) h =
    ap₂ ◌∷◌ (ap (entry e.level) (four_bytes_sum e.code h.0.0))
    (entries_after _ _ _ _ e.level (code_bytes l) (level_bytes l) (length l) 0 ∙ entries_of_arrays top l h.1)

pub length_entries_at : (codes levels : List ℕ) (n at : ℕ) → length (entries_at codes levels n at) ≡ n
unfolding entries_at
length_entries_at codes levels zero at = refl
length_entries_at codes levels (suc n) at = ap suc (length_entries_at codes levels n (suc at))
