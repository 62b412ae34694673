-- The entries of two arrays after a write, as a sum over them says.
use Prim.Native.Nat.{ℕ, zero, suc, ◌+◌, ◌-◌, ◌/◌, ◌≤◌, ◌<◌}
use native.Mathlib.Omega.{arith}
use native.Mathlib.Decide.{ℕ_discrete}
use mathlib.Core.Path.{◌≡◌, refl, ap, ap₂, ◌∙◌}
use mathlib.Core.List.{List, [], ◌∷◌, ◌++◌}
use lib.ListN.{length, get_or, set, get_or-append}
use lib.Seq.{get_or-set_same, get_or-set_other}
use Rattle.pktree.specs.Lists.{Every, total}
use Rattle.frontier.specs.declared.Entry.{Entry}
use Rattle.frontier.specs.Entries.{entry, entry_at, queued, Heap, Pushed, Taken}
use Rattle.frontier.proofs.HeapLaws.{least_first}

module _ (keys tags : List ℕ) (i key tag : ℕ) where
  pub entry_other : (j : ℕ) → (j ≡ i → ⊥) → entry_at (set keys i key) (set tags i tag) j ≡ entry_at keys tags j
  entry_other j h = ap₂ entry (get_or-set_other keys i j key 0 h) (get_or-set_other tags i j tag 0 h)

  queued_before : (n : ℕ) → n ≤ i → queued (set keys i key) (set tags i tag) n ≡ queued keys tags n
  queued_before zero h = refl
  queued_before (suc n) h = ap₂ ◌∷◌ (entry_other n (omega arith)) (queued_before n (omega arith))

  module _ (in_keys : i < length keys) (in_tags : i < length tags) (number : Entry → ℕ) where
    entry_same : entry_at (set keys i key) (set tags i tag) i ≡ entry key tag
    entry_same = ap₂ entry (get_or-set_same keys i key 0 in_keys) (get_or-set_same tags i tag 0 in_tags)

    -- the entry that was written takes the place of the one that stood there
    pub total_set : (n : ℕ) → i < n → total number (queued (set keys i key) (set tags i tag) n) + number (entry_at keys tags i) ≡ total number (queued keys tags n) + number (entry key tag)
    total_set zero h = absurd (omega arith)
    total_set (suc n) h = go (ℕ_discrete n i) (total_set n)
      where
        go : Dec (n ≡ i) → (i < n → total number (queued (set keys i key) (set tags i tag) n) + number (entry_at keys tags i) ≡ total number (queued keys tags n) + number (entry key tag))
            → total number (queued (set keys i key) (set tags i tag) (suc n)) + number (entry_at keys tags i) ≡ total number (queued keys tags (suc n)) + number (entry key tag)
        go (yes e) again =
            omega (arith, ap (λ (j : ℕ). number (entry_at (set keys i key) (set tags i tag) j)) e, ap number entry_same, ap (λ (j : ℕ). number (entry_at keys tags j)) e, ap (total number) (queued_before n (omega arith)))
        go (no other) again = omega (arith, ap number (entry_other n other), again (omega arith))

-- the first entry of a heap has the lowest key
pub least_of_all : {keys : List ℕ} (tags : List ℕ) {count : ℕ} → Heap keys count → Every (λ (e : Entry). get_or keys 0 0 ≤ e.key) (queued keys tags count)
least_of_all {keys} tags {count} heap = go count (omega arith)
  where
    go : (n : ℕ) → n ≤ count → Every (λ (e : Entry). get_or keys 0 0 ≤ e.key) (queued keys tags n)
    go zero h = tt
    go (suc n) h = (least_first heap n h, go n (omega arith))

-- the entries stand in longer arrays too
module _ (l more l' : List ℕ) (e : l' ≡ l ++ more) where
  same_too : (i : ℕ) → i < length l → get_or l' i 0 ≡ get_or l i 0
  same_too i h = ap (λ (k : List ℕ). get_or k i 0) e ∙ get_or-append l more 0 i h

  pub heap_too : {n : ℕ} → n ≤ length l → Heap l n → Heap l' n
  heap_too h heap =
      record { above = λ i one less. omega (arith, heap.above i one less, same_too i (omega arith), same_too ((i - 1) / 2) (omega arith)) }

module _ (keys more keys' tags more' tags' : List ℕ) (k : keys' ≡ keys ++ more) (t : tags' ≡ tags ++ more') where
  pub queued_too : (n : ℕ) → n ≤ length keys → n ≤ length tags → queued keys' tags' n ≡ queued keys tags n
  queued_too zero h g = refl
  queued_too (suc n) h g = ap₂ ◌∷◌ (ap₂ entry (same_too keys more keys' k n h) (same_too tags more' tags' t n g)) (queued_too n (omega arith) (omega arith))

-- as many entries as it says
pub total_ones : (l : List Entry) → total (λ e. 1) l ≡ length l
total_ones [] = refl
total_ones (e ∷ l) = omega (arith, total_ones l)

module _ {before after : List Entry} where
  pub longer : {e : Entry} → Pushed before after e → length after ≡ length before + 1
  longer p = omega (arith, p.one_more (λ e. 1), total_ones before, total_ones after)

  pub shorter : {e : Entry} → Taken before after e → length before ≡ length after + 1
  shorter t = omega (arith, t.one_less (λ e. 1), total_ones before, total_ones after)
