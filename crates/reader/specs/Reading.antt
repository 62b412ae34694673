-- Entries read as the elements of a block: what a reader is given, and what it answers.
use Rattle.std.specs.Prelude.{ℕ, ◌+◌, ◌-◌, ◌*◌, ◌^◌, ◌≤◌, ◌<◌, ◌≡◌, Bool, List, [], ◌∷◌, ◌++◌, length, get_or, Option, Some, None}
use Rattle.pktree.specs.Panel.{Panel, Valid, Aligned}
use Rattle.pktree.specs.Elements.{Forest, size, give, gather}
use Rattle.pktree.specs.Entries.{Entry, entries}
use Rattle.image.specs.Parts.{four_at, entries_at}
use Rattle.image.specs.Judged.{WellFormed}
use Rattle.reader.specs.declared.ElementsRead.{ElementsRead}

-- all entries from this index on
abbrev pub entries_from : List ℕ → List ℕ → ℕ → List Entry
entries_from codes levels at = entries_at codes levels (length levels - at) at

-- the entry at this index has this level and code
pub record EntryIs (codes levels : List ℕ) (at level code : ℕ) : Type 0 where
  pub below : at < length levels
  pub level_is : get_or levels at 0 ≡ level
  pub code_is : four_at codes (4 * at) ≡ code

-- its code lies from `from` to below `to`
pub record EntryInside (codes levels : List ℕ) (at from to level code : ℕ) : Type 0 where
  pub is : EntryIs codes levels at level code
  pub low : from ≤ code
  pub high : code < to

abbrev pub EntryMeets : List ℕ → List ℕ → ℕ → ℕ → ℕ → Option (ℕ × ℕ) → Type 0
EntryMeets codes levels at from to (Some e) = EntryInside codes levels at from to e.0 e.1
EntryMeets codes levels at from to None = (level code : ℕ) → EntryInside codes levels at from to level code → ⊥

-- an element of this level and code can stand in a quarter of level `quarter`: it is no larger, and aligned
pub record FitsQuarter (quarter level code : ℕ) : Type 0 where
  pub level_to : level ≤ quarter
  pub aligned : Aligned level code

-- a block of codes below 2 ^ 32, and an index up to the number of entries
pub record CanReadBlock (levels : List ℕ) (k level code at : ℕ) : Type 0 where
  pub k_from : 2 ≤ k
  pub k_to : k ≤ 16
  pub level_to : level ≤ 16
  pub aligned : Aligned level code
  pub code_to : code + 4 ^ level ≤ 4294967296
  pub at_to : at ≤ length levels

-- the elements of a block, and what it gives to the block around it
abbrev pub elements_of : ℕ → ℕ → ℕ → (ℕ → Bool) → Forest
elements_of k level code marked = gather marked k level code

abbrev pub quarter_of : ℕ → ℕ → ℕ → (ℕ → Bool) → Forest
quarter_of k level code marked = give k level code (gather marked k level code)

-- nothing, or an entry at this code or past it
abbrev pub From : ℕ → List Entry → Type 0
From code [] = Unit {0}
From code (e ∷ l) = code ≤ e.code

-- so many elements, and the index after their entries
abbrev pub elements : ℕ → ℕ → Option ElementsRead
elements count next = Some (record { count = count; next = next })

-- no set has these entries
abbrev pub wrong : Option ElementsRead
wrong = None

-- of some marked codes, these elements have the entries from `at` to before `next`
pub record ReadAs (of : (ℕ → Bool) → Forest) (codes levels : List ℕ) (at most count next : ℕ) : Type 0 where
  pub marked : ℕ → Bool
  pub entries_are : entries_from codes levels at ≡ entries (of marked) ++ entries_from codes levels next
  pub size_is : size (of marked) ≡ count
  pub count_to : count ≤ most
  pub next_to : next ≤ length levels

abbrev pub ReadSound : ((ℕ → Bool) → Forest) → List ℕ → List ℕ → ℕ → ℕ → Option ElementsRead → Type 0
ReadSound of codes levels at most (Some r) = ReadAs of codes levels at most r.count r.next
ReadSound of codes levels at most None = Unit {0}

-- what is answered is there; what is there, with nothing of the codes before `end` after it, is answered
pub record ReadMeets (of : (ℕ → Bool) → Forest) (codes levels : List ℕ) (end at most : ℕ) (r : Option ElementsRead) : Type 0 where
  pub sound : ReadSound of codes levels at most r
  pub complete : (marked : ℕ → Bool) (rest : List Entry) → entries_from codes levels at ≡ entries (of marked) ++ rest → From end rest
      → r ≡ elements (size (of marked)) (at + length (entries (of marked)))

-- a block has 4 (k - 1) elements at most, and a quarter gives k - 1 at most; k is up to 16
abbrev pub most_of_block : ℕ
most_of_block = 60

abbrev pub most_given : ℕ
most_given = 15

abbrev pub ElementsMeet : List ℕ → List ℕ → ℕ → ℕ → ℕ → ℕ → Option ElementsRead → Type 0
ElementsMeet codes levels k level code at r = ReadMeets (elements_of k level code) codes levels (code + 4 ^ level) at most_of_block r

abbrev pub QuarterMeets : List ℕ → List ℕ → ℕ → ℕ → ℕ → ℕ → Option ElementsRead → Type 0
QuarterMeets codes levels k level code at r = ReadMeets (quarter_of k level code) codes levels (code + 4 ^ level) at most_given r

-- 12 is asked of an image that 10 and 11 leave: its sizes are the panel's
pub record CanRead (panel : Panel) (bytes : List ℕ) : Type 0 where
  pub formed : WellFormed bytes
  pub valid : Valid panel
  pub order : get_or bytes 0 0 ≡ panel.order
  pub k : get_or bytes 1 0 ≡ panel.k
