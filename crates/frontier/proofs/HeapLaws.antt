-- The order of a heap with a hole: where the hole may move, what may be written there, and that the first entry is the least.
use Prim.Native.Nat.{ℕ, zero, suc, ◌+◌, ◌*◌, ◌-◌, ◌/◌, ◌≤◌, ◌<◌}
use native.Mathlib.Omega.{arith}
use native.Mathlib.Decide.{ℕ_discrete}
use mathlib.Core.Path.{◌≡◌, ap, ◌∙◌}
use mathlib.Core.List.{List}
use lib.ListN.{length, get_or, set}
use lib.Seq.{get_or-set_same, get_or-set_other}
use Rattle.frontier.specs.Entries.{Heap}
use Rattle.frontier.specs.Holes.{Lesser}

-- no entry has a lower key than the one above it, what stands in the hole at i left aside
pub record Hole (keys : List ℕ) (count i : ℕ) : Type 0 where
  pub apart : (j : ℕ) → 1 ≤ j → j < count → (j ≡ i → ⊥) → ((j - 1) / 2 ≡ i → ⊥) → get_or keys ((j - 1) / 2) 0 ≤ get_or keys j 0
  pub across : (j : ℕ) → 1 ≤ i → 1 ≤ j → j < count → (j - 1) / 2 ≡ i → get_or keys ((i - 1) / 2) 0 ≤ get_or keys j 0

-- the key above the place i is not higher than this one
abbrev pub Over : List ℕ → ℕ → ℕ → Type 0
Over keys i key = 1 ≤ i → get_or keys ((i - 1) / 2) 0 ≤ key

-- the keys right below the place i are not lower than this one
abbrev pub Under : List ℕ → ℕ → ℕ → ℕ → Type 0
Under keys count i key = (j : ℕ) → 1 ≤ j → j < count → (j - 1) / 2 ≡ i → key ≤ get_or keys j 0

pub heap_fewer : {keys : List ℕ} {count n : ℕ} → Heap keys count → n ≤ count → Heap keys n
heap_fewer h few = record { above = λ i one less. h.above i one (omega arith) }

pub hole_last : {keys : List ℕ} {count : ℕ} → Heap keys count → Hole keys (suc count) count
hole_last h = record { apart = λ j one less other up. h.above j one (omega arith); across = λ j one' one less up. absurd (omega arith) }

pub hole_first : {keys : List ℕ} {count : ℕ} → Heap keys count → Hole keys count 0
hole_first h = record { apart = λ j one less other up. h.above j one less; across = λ j one' one less up. absurd (omega arith) }

-- the element at p written at i too
abbrev pub copied : List ℕ → ℕ → ℕ → List ℕ
copied l i p = set l i (get_or l p 0)

-- the key at j after a write at i
data Written (keys : List ℕ) (i v j : ℕ) : Type 0 where
  here : j ≡ i → get_or (set keys i v) j 0 ≡ v → Written keys i v j
  elsewhere : (j ≡ i → ⊥) → get_or (set keys i v) j 0 ≡ get_or keys j 0 → Written keys i v j

written : (keys : List ℕ) (i v j : ℕ) → i < length keys → Written keys i v j
written keys i v j within = go (ℕ_discrete j i)
  where
    go : Dec (j ≡ i) → Written keys i v j
    go (yes e) = here e (ap (λ (k : ℕ). get_or (set keys i v) k 0) e ∙ get_or-set_same keys i v 0 within)
    go (no n) = elsewhere n (get_or-set_other keys i j v 0 n)

module _ {keys : List ℕ} {count i : ℕ} (within : i < length keys) (hole : Hole keys count i) where
  pub filled : (key : ℕ) → Over keys i key → Under keys count i key → Heap (set keys i key) count
  filled key over under = record { above = λ j one less. go j one less (written keys i key j within) (written keys i key ((j - 1) / 2) within) }
    where
      go : (j : ℕ) → 1 ≤ j → j < count → Written keys i key j → Written keys i key ((j - 1) / 2) → get_or (set keys i key) ((j - 1) / 2) 0 ≤ get_or (set keys i key) j 0
      go j one less (here e f) (here e' f') = omega arith
      go j one less (here e f) (elsewhere n f') = omega (arith, over (omega arith), ap (λ (k : ℕ). get_or keys ((k - 1) / 2) 0) e)
      go j one less (elsewhere n f) (here e f') = omega (arith, under j one less e)
      go j one less (elsewhere n f) (elsewhere n' f') = omega (arith, hole.apart j one less n n')

  module _ (p : ℕ) (up : p ≡ (i - 1) / 2) (one_up : 1 ≤ i) (below : i < count) where
    pub rises_under : Under (copied keys i p) count p (get_or keys p 0)
    rises_under j one less e = go (written keys i (get_or keys p 0) j within)
      where
        go : Written keys i (get_or keys p 0) j → get_or keys p 0 ≤ get_or (copied keys i p) j 0
        go (here e' f) = omega arith
        go (elsewhere n f) = omega (arith, hole.apart j one less n (omega arith), ap (λ (k : ℕ). get_or keys k 0) e)

    rises_apart : (j : ℕ) → 1 ≤ j → j < count → (j ≡ p → ⊥) → ((j - 1) / 2 ≡ p → ⊥) → Written keys i (get_or keys p 0) ((j - 1) / 2) → get_or (copied keys i p) ((j - 1) / 2) 0 ≤ get_or (copied keys i p) j 0
    rises_apart j one less other apart w = go w
      where
        not_hole : j ≡ i → ⊥
        not_hole e = omega arith

        same : get_or (copied keys i p) j 0 ≡ get_or keys j 0
        same = get_or-set_other keys i j (get_or keys p 0) 0 not_hole

        go : Written keys i (get_or keys p 0) ((j - 1) / 2) → get_or (copied keys i p) ((j - 1) / 2) 0 ≤ get_or (copied keys i p) j 0
        go (here e f) = omega (arith, same, hole.across j one_up one less e, ap (λ (k : ℕ). get_or keys k 0) up)
        go (elsewhere n f) = omega (arith, same, hole.apart j one less not_hole n)

    -- the entry above the hole moves down into it
    pub rises : Hole (copied keys i p) count p
    rises =
        record {
          apart = λ j one less other apart. rises_apart j one less other apart (written keys i (get_or keys p 0) ((j - 1) / 2) within);
          across = λ j one' one less e.
              omega (
                arith,
                get_or-set_other keys i ((p - 1) / 2) (get_or keys p 0) 0 (omega arith),
                hole.apart p one' (omega arith) (omega arith) (omega arith),
                rises_under j one less e,
              );
        }

  module _ (p : ℕ) (child : Lesser keys count i p) where
    pub sinks_over : get_or (copied keys i p) ((p - 1) / 2) 0 ≡ get_or keys p 0
    sinks_over = ap (λ (k : ℕ). get_or (copied keys i p) k 0) child.below ∙ get_or-set_same keys i (get_or keys p 0) 0 within

    sinks_apart : (j : ℕ) → 1 ≤ j → j < count → Written keys i (get_or keys p 0) j → Written keys i (get_or keys p 0) ((j - 1) / 2) → get_or (copied keys i p) ((j - 1) / 2) 0 ≤ get_or (copied keys i p) j 0
    sinks_apart j one less (here e f) (here e' f') = omega arith
    sinks_apart j one less (here e f) (elsewhere n f') =
        omega (arith, hole.across p (omega arith) (omega arith) child.within child.below, ap (λ (k : ℕ). get_or keys ((k - 1) / 2) 0) e)
    sinks_apart j one less (elsewhere n f) (here e f') = omega (arith, child.lesser j one less e)
    sinks_apart j one less (elsewhere n f) (elsewhere n' f') = omega (arith, hole.apart j one less n n')

    -- the lesser of the entries right below the hole moves up into it
    pub sinks : Hole (copied keys i p) count p
    sinks =
        record {
          apart = λ j one less other apart. sinks_apart j one less (written keys i (get_or keys p 0) j within) (written keys i (get_or keys p 0) ((j - 1) / 2) within);
          across = λ j one' one less e.
              omega (
                arith,
                sinks_over,
                get_or-set_other keys i j (get_or keys p 0) 0 (omega arith),
                hole.apart j one less (omega arith) (omega arith),
                ap (λ (k : ℕ). get_or keys k 0) e,
              );
        }

-- the places right below i are 2 * i + 1 and the next
pub lesser_of_two : {keys : List ℕ} {count i r : ℕ} → i < r → (r - 1) / 2 ≡ i → r < count → get_or keys r 0 ≤ get_or keys (2 * i + 1) 0
    → (2 * i + 1 + 1 < count → get_or keys r 0 ≤ get_or keys (2 * i + 1 + 1) 0) → Lesser keys count i r
lesser_of_two {keys} {count} {i} {r} after below within left right = record { after = after; below = below; within = within; lesser = λ j one less e. go j one less e (ℕ_discrete j (2 * i + 1)) }
  where
    go : (j : ℕ) → 1 ≤ j → j < count → (j - 1) / 2 ≡ i → Dec (j ≡ 2 * i + 1) → get_or keys r 0 ≤ get_or keys j 0
    go j one less e (yes f) = omega (arith, left, ap (λ (k : ℕ). get_or keys k 0) f)
    go j one less e (no n) = let f : j ≡ 2 * i + 1 + 1 = omega arith in omega (arith, right (omega arith), ap (λ (k : ℕ). get_or keys k 0) f)

module _ {keys : List ℕ} {count : ℕ} (heap : Heap keys count) where
  least_within : (bound i : ℕ) → i < bound → i < count → get_or keys 0 0 ≤ get_or keys i 0
  least_within zero i h less = absurd (omega arith)
  least_within (suc bound) zero h less = omega arith
  least_within (suc bound) (suc i) h less = omega (arith, least_within bound ((suc i - 1) / 2) (omega arith) (omega arith), heap.above (suc i) (omega arith) less)

  pub least_first : (i : ℕ) → i < count → get_or keys 0 0 ≤ get_or keys i 0
  least_first i less = least_within (suc i) i (omega arith) less
