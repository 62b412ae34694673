-- The hole: a place of the heap whose entry is taken out or stands elsewhere too, so that another can be written there.
use Rattle.std.specs.Prelude.{ℕ, ◌+◌, ◌-◌, ◌/◌, ◌≤◌, ◌<◌, ◌≡◌, List, length, get_or, set}
use Rattle.pktree.specs.Lists.{total}
use Rattle.frontier.specs.declared.Entry.{Entry}
use Rattle.frontier.specs.Entries.{entry_at, queued, Heap}

-- the hole was at `start` and is at r now, where an entry with the key makes a heap; the other entries are the same
pub record Sifted (keys tags : List ℕ) (start : ℕ) (keys' tags' : List ℕ) (count key r : ℕ) : Type 0 where
  pub within : r < count
  pub others : (number : Entry → ℕ) → total number (queued keys' tags' count) + number (entry_at keys tags start) ≡ total number (queued keys tags count) + number (entry_at keys' tags' r)
  pub heap : Heap (set keys' r key) count
  pub keys_long : length keys' ≡ length keys
  pub tags_long : length tags' ≡ length tags

-- r is right below i, and no other place right below i has a lower key
pub record Lesser (keys : List ℕ) (count i r : ℕ) : Type 0 where
  pub after : i < r
  pub below : (r - 1) / 2 ≡ i
  pub within : r < count
  pub lesser : (j : ℕ) → 1 ≤ j → j < count → (j - 1) / 2 ≡ i → get_or keys r 0 ≤ get_or keys j 0
