-- A forest that some marked codes give is read, where its entries stand.
use Prim.Native.Nat.{ℕ, ◌≤◌}
use mathlib.Core.Path.{◌≡◌, ap, subst}
use mathlib.Core.Bool.{Bool}
use mathlib.Core.List.{List, ◌++◌}
use lib.ListN.{length}
use Rattle.pktree.specs.Elements.{Forest, size}
use Rattle.pktree.specs.Entries.{entries}
use Rattle.std.specs.Prelude.{Option, Some, None}
use Rattle.reader.specs.declared.ElementsRead.{ElementsRead}
use Rattle.reader.specs.Reading.{elements, entries_from, ReadAs}

count_of : Option ElementsRead → ℕ
count_of (Some r) = r.count
count_of None = 0

next_of : Option ElementsRead → ℕ
next_of (Some r) = r.next
next_of None = 0

-- one answer has one number of elements and one index
pub same_read : {a b c d : ℕ} → elements a b ≡ elements c d → (a ≡ c) × (b ≡ d)
unfolding count_of next_of
same_read e = (ap count_of e, ap next_of e)

pub forest_read : {codes levels : List ℕ} {at most count next : ℕ} (of : (ℕ → Bool) → Forest) (f : Forest) (marked : ℕ → Bool) → f ≡ of marked
    → entries_from codes levels at ≡ entries f ++ entries_from codes levels next → size f ≡ count → count ≤ most → next ≤ length levels
    → ReadAs of codes levels at most count next
forest_read {codes} {levels} {at} {count = count} {next = next} of f marked own are is to end =
    record {
      marked = marked;
      entries_are = subst (λ (g : Forest). entries_from codes levels at ≡ entries g ++ entries_from codes levels next) own are;
      size_is = subst (λ (g : Forest). size g ≡ count) own is;
      count_to = to;
      next_to = end;
    }
