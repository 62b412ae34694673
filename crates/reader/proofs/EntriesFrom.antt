-- The entries from an index on: the first of them and those after it.
use Prim.Native.Nat.{ℕ, suc, ◌+◌, ◌-◌, ◌≤◌, ◌<◌}
use native.Mathlib.Omega.{arith}
use native.Mathlib.Decide.{dec_lt}
use mathlib.Core.Path.{◌≡◌, ap, ap₂, ◌∙◌}
use mathlib.Core.List.{List, [], ◌∷◌, ◌++◌}
use lib.ListN.{length}
use Rattle.pktree.specs.Entries.{Entry, entry}
use Rattle.image.specs.Parts.{entry_at, entries_at}
use Rattle.reader.specs.Reading.{entries_from, EntryIs}

-- the entries from this index on are this one and those after it
pub record FirstIs (codes levels : List ℕ) (at : ℕ) (first : Entry) (rest : List Entry) : Type 0 where
  pub is : EntryIs codes levels at first.level first.code
  pub after : entries_from codes levels (suc at) ≡ rest

module _ (codes levels : List ℕ) where
  pub entries_from_end : (at : ℕ) → length levels ≤ at → entries_from codes levels at ≡ []
  unfolding entries_at
  entries_from_end at h = let e : length levels - at ≡ 0 = omega arith in rw e

  entries_from_first : (at : ℕ) → at < length levels → entries_from codes levels at ≡ entry_at codes levels at ∷ entries_from codes levels (suc at)
  unfolding entries_at
  entries_from_first at h = let e : length levels - at ≡ suc (length levels - suc at) = omega arith in rw e

  -- an entry that is there is the first of them
  pub entry_first : {at level code : ℕ} → EntryIs codes levels at level code → entries_from codes levels at ≡ entry level code ∷ entries_from codes levels (suc at)
  entry_first {at} is =
      entries_from_first at is.below ∙ ap (λ (first : Entry). first ∷ entries_from codes levels (suc at)) (ap₂ entry is.level_is is.code_is)

  -- and the first of them is there
  pub first_entry : (at : ℕ) (first : Entry) (rest : List Entry) → entries_from codes levels at ≡ first ∷ rest → FirstIs codes levels at first rest
  first_entry at first rest e = go (dec_lt at (length levels))
    where
      go : Dec (at < length levels) → FirstIs codes levels at first rest
      go (yes h) =
          let f = entries_from_first at h in
          let one : entry_at codes levels at ≡ first = cc in
          record { is = record { below = h; level_is = ap (λ (n : Entry). n.level) one; code_is = ap (λ (n : Entry). n.code) one }; after = cc }
      go (no h) = absurd (let n = entries_from_end at (omega arith) in let z : ◌≡◌ {A = ℕ} 0 1 = cc in omega arith)

  -- those after some entries
  pub entries_past : (some rest : List Entry) (at : ℕ) → entries_from codes levels at ≡ some ++ rest → entries_from codes levels (at + length some) ≡ rest
  entries_past [] rest at e = let z : at + 0 ≡ at = omega arith in rw z e
  entries_past (n ∷ some) rest at e =
      let z : at + suc (length some) ≡ suc at + length some = omega arith in
      rw z (entries_past some rest (suc at) (first_entry at n (some ++ rest) e).after)
