-- Which code and level the first entry of elements can have, and what that tells of them.
use Prim.Native.Nat.{ℕ, suc, ◌+◌, ◌^◌, ◌≤◌, ◌<◌}
use native.Mathlib.Omega.{arith}
use mathlib.Core.Path.{◌≡◌, refl}
use mathlib.Core.List.{List, [], ◌∷◌, ◌++◌}
use Rattle.pktree.specs.Elements.{Forest, empty, pixel, block_at}
use Rattle.pktree.specs.Entries.{Entry, entry, entries}
use Rattle.pktree.proofs.Alignment.{pow_pos}
use Rattle.pktree.proofs.Arranged.{Arranged, arranged_le}
use Rattle.reader.specs.Reading.{entries_from, EntryIs, EntryInside, From}
use Rattle.reader.proofs.EntriesFrom.{entry_first, first_entry}

pub from_lower : (low high : ℕ) (rest : List Entry) → low ≤ high → From high rest → From low rest
from_lower low high [] h f = tt
from_lower low high (e ∷ rest) h f = omega arith

-- elements between two codes, then entries past them
pub from_arranged : (k n from to : ℕ) (f : Forest) (rest : List Entry) → Arranged k n from to f → From to rest → From from (entries f ++ rest)
from_arranged k n from to empty rest h past = from_lower from to rest h past
from_arranged k n from to (pixel c f) rest h past = h.0
from_arranged k n from to (block_at v i c es f) rest h past = h.0

module _ (codes levels : List ℕ) (at : ℕ) where
  -- the first entry lies outside: there are no elements
  pub nothing_inside : (k n from to : ℕ) (f : Forest) (rest : List Entry) → Arranged k n from to f → entries_from codes levels at ≡ entries f ++ rest
      → ((level code : ℕ) → EntryInside codes levels at from to level code → ⊥) → f ≡ empty
  nothing_inside k n from to empty rest h e outside = refl
  nothing_inside k n from to (pixel c f) rest h e outside =
      let first = (first_entry codes levels at (entry 0 c) (entries f ++ rest) e).is in
      absurd (outside 0 c (record { is = first; low = h.0; high = omega (arith, arranged_le k n (suc c) to f h.1) }))
  nothing_inside k n from to (block_at v i c es f) rest h e outside =
      let first = (first_entry codes levels at (entry i c) ((entries es ++ entries f) ++ rest) e).is in
      absurd (outside i c (record { is = first; low = h.0; high = omega (arith, pow_pos i, arranged_le k n (c + 4 ^ i) to f h.7) }))

  -- the first entry is none of those past a code above it
  pub not_past : (level code to : ℕ) (rest : List Entry) → EntryIs codes levels at level code → entries_from codes levels at ≡ rest → From to rest → code < to → ⊥
  not_past level code to [] is e past h = let first = entry_first codes levels is in let z : ◌≡◌ {A = ℕ} 0 1 = cc in omega arith
  not_past level code to (n ∷ rest) is e past h = omega (arith, (first_entry codes levels at n rest e).is.code_is, is.code_is, past)

  -- the first entry is of the block itself: it is none of the block's elements
  pub not_of_elements : (k level code : ℕ) (f : Forest) (rest : List Entry) → 1 ≤ level → EntryIs codes levels at level code
      → Arranged k level code (code + 4 ^ level) f → entries_from codes levels at ≡ entries f ++ rest → From (code + 4 ^ level) rest → ⊥
  not_of_elements k level code empty rest l is h e past = not_past level code (code + 4 ^ level) rest is e past (omega (arith, pow_pos level))
  not_of_elements k level code (pixel c f) rest l is h e past =
      omega (arith, (first_entry codes levels at (entry 0 c) (entries f ++ rest) e).is.level_is, is.level_is)
  not_of_elements k level code (block_at v i c es f) rest l is h e past =
      omega (arith, (first_entry codes levels at (entry i c) ((entries es ++ entries f) ++ rest) e).is.level_is, is.level_is, h.1)
