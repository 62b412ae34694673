-- The entries of two arrays and the heap that they are; one entry more, and the least of them taken out.
use Rattle.std.specs.Prelude.{ℕ, zero, suc, ◌+◌, ◌-◌, ◌/◌, ◌≤◌, ◌<◌, ◌≡◌, List, [], ◌∷◌, length, get_or}
use Rattle.pktree.specs.Lists.{Every, total}
use Rattle.frontier.specs.declared.Entry.{Entry}

abbrev pub entry : ℕ → ℕ → Entry
entry key tag = record { key = key; tag = tag }

abbrev pub entry_at : List ℕ → List ℕ → ℕ → Entry
entry_at keys tags i = entry (get_or keys i 0) (get_or tags i 0)

-- the first so many entries, the last of them first
abbrev pub queued : List ℕ → List ℕ → ℕ → List Entry
queued keys tags zero = []
queued keys tags (suc n) = entry_at keys tags n ∷ queued keys tags n

-- no entry has a lower key than the one above it
pub record Heap (keys : List ℕ) (count : ℕ) : Type 0 where
  pub above : (i : ℕ) → 1 ≤ i → i < count → get_or keys ((i - 1) / 2) 0 ≤ get_or keys i 0

-- the same entries as before and one more: whatever number each entry stands for, the sum says so
pub record Pushed (before after : List Entry) (e : Entry) : Type 0 where
  pub one_more : (number : Entry → ℕ) → total number after ≡ number e + total number before

-- the same entries as before without r, which has the lowest key of them
pub record Taken (before after : List Entry) (r : Entry) : Type 0 where
  pub one_less : (number : Entry → ℕ) → total number before ≡ number r + total number after
  pub least : Every (λ (e : Entry). r.key ≤ e.key) before

-- the first `count` entries of two arrays and one more: as `Pushed` of their entries, a heap again, and each array of the same length
pub record PushedInArrays (keys tags keys' tags' : List ℕ) (count key tag : ℕ) : Type 0 where
  pub one_more : (number : Entry → ℕ) → total number (queued keys' tags' (suc count)) ≡ number (entry key tag) + total number (queued keys tags count)
  pub heap : Heap keys' (suc count)
  pub keys_long : length keys' ≡ length keys
  pub tags_long : length tags' ≡ length tags

-- the first `count` entries of two arrays without r: as `Taken` of their entries, a heap again, and each array of the same length
pub record TakenFromArrays (keys tags keys' tags' : List ℕ) (count : ℕ) (r : Entry) : Type 0 where
  pub one_less : (number : Entry → ℕ) → total number (queued keys tags count) ≡ number r + total number (queued keys' tags' (count - 1))
  pub least : Every (λ (e : Entry). r.key ≤ e.key) (queued keys tags count)
  pub heap : Heap keys' (count - 1)
  pub keys_long : length keys' ≡ length keys
  pub tags_long : length tags' ≡ length tags
