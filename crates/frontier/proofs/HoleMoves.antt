-- The hole of a heap moves, with its keys and tags: what the two loops keep.
use Prim.Native.Nat.{ℕ, suc, ◌+◌, ◌-◌, ◌/◌, ◌≤◌, ◌<◌}
use native.Mathlib.Omega.{arith}
use mathlib.Core.Path.{◌≡◌, refl, ap, ◌∙◌}
use mathlib.Core.List.{List}
use lib.ListN.{length, get_or, length-set}
use Rattle.pktree.specs.Lists.{total}
use Rattle.frontier.specs.declared.Entry.{Entry}
use Rattle.frontier.specs.Entries.{entry_at, queued, Heap}
use Rattle.frontier.specs.Holes.{Lesser, Sifted}
use Rattle.frontier.proofs.HeapLaws.{Hole, Over, Under, hole_last, hole_first, copied, filled, rises, rises_under, sinks, sinks_over}
use Rattle.frontier.proofs.EntryLaws.{entry_other, total_set}

-- the hole was at `start` in other arrays and is at i in these
pub record Moved (keys₀ tags₀ : List ℕ) (start : ℕ) (keys tags : List ℕ) (count i : ℕ) : Type 0 where
  pub within : i < count
  pub in_keys : count ≤ length keys
  pub in_tags : count ≤ length tags
  pub others : (number : Entry → ℕ) → total number (queued keys tags count) + number (entry_at keys₀ tags₀ start) ≡ total number (queued keys₀ tags₀ count) + number (entry_at keys tags i)
  pub hole : Hole keys count i
  pub keys_long : length keys ≡ length keys₀
  pub tags_long : length tags ≡ length tags₀

moved_not : {keys tags : List ℕ} {count i : ℕ} → i < count → count ≤ length keys → count ≤ length tags → Hole keys count i → Moved keys tags i keys tags count i
moved_not h g f hole = record { within = h; in_keys = g; in_tags = f; others = λ number. refl; hole = hole; keys_long = refl; tags_long = refl }

module _ {keys₀ tags₀ : List ℕ} {start : ℕ} {keys tags : List ℕ} {count i : ℕ} (m : Moved keys₀ tags₀ start keys tags count i) where
  moved_to : (p : ℕ) → p < count → (p ≡ i → ⊥) → Hole (copied keys i p) count p → Moved keys₀ tags₀ start (copied keys i p) (copied tags i p) count p
  moved_to p h other hole =
      record {
        within = h;
        in_keys = simp length-set m.in_keys;
        in_tags = simp length-set m.in_tags;
        others = λ number.
            omega (
              arith,
              m.others number,
              total_set keys tags i (get_or keys p 0) (get_or tags p 0) (omega arith) (omega arith) number count m.within,
              ap number (entry_other keys tags i (get_or keys p 0) (get_or tags p 0) p other),
            );
        hole = hole;
        keys_long = length-set keys i (get_or keys p 0) ∙ m.keys_long;
        tags_long = length-set tags i (get_or tags p 0) ∙ m.tags_long;
      }

  sifted : (key : ℕ) → Over keys i key → Under keys count i key → Sifted keys₀ tags₀ start keys tags count key i
  sifted key over under =
      record { within = m.within; others = m.others; heap = filled (omega arith) m.hole key over under; keys_long = m.keys_long; tags_long = m.tags_long }

-- the hole on the way up from the last place, and on the way down from the first
pub record Rising (keys₀ tags₀ : List ℕ) (count key : ℕ) (keys tags : List ℕ) (i : ℕ) : Type 0 where
  pub moved : Moved keys₀ tags₀ count keys tags (suc count) i
  pub under : Under keys (suc count) i key

pub record Sinking (keys₀ tags₀ : List ℕ) (count key : ℕ) (keys tags : List ℕ) (i : ℕ) : Type 0 where
  pub moved : Moved keys₀ tags₀ 0 keys tags count i
  pub over : Over keys i key

pub rising_starts : {keys tags : List ℕ} {count key : ℕ} → count < length keys → count < length tags → Heap keys count → Rising keys tags count key keys tags count
rising_starts h g heap = record { moved = moved_not (omega arith) h g (hole_last heap); under = λ j one less e. absurd (omega arith) }

pub sinking_starts : {keys tags : List ℕ} {count key : ℕ} → 1 ≤ count → count ≤ length keys → count ≤ length tags → Heap keys count → Sinking keys tags count key keys tags 0
sinking_starts one h g heap = record { moved = moved_not one h g (hole_first heap); over = λ one'. absurd (omega arith) }

module _ {keys₀ tags₀ : List ℕ} {count key : ℕ} {keys tags : List ℕ} where
  -- the key above the hole is higher: that entry moves down
  pub rises_on : (i p : ℕ) → p ≡ (i - 1) / 2 → 1 ≤ i → key < get_or keys p 0 → Rising keys₀ tags₀ count key keys tags i
      → Rising keys₀ tags₀ count key (copied keys i p) (copied tags i p) p
  rises_on i p up one higher r =
      record {
        moved = moved_to r.moved p (omega arith) (omega arith) (rises (omega arith) r.moved.hole p up one r.moved.within);
        under = λ j one' less e. omega (arith, rises_under (omega arith) r.moved.hole p up one r.moved.within j one' less e);
      }

  pub rising_ends : (i : ℕ) → Over keys i key → Rising keys₀ tags₀ count key keys tags i → Sifted keys₀ tags₀ count keys tags (suc count) key i
  rising_ends i over r = sifted r.moved key over r.under

  -- the lesser key below the hole is lower: that entry moves up
  pub sinks_on : (i p : ℕ) → Lesser keys count i p → get_or keys p 0 < key → Sinking keys₀ tags₀ count key keys tags i
      → Sinking keys₀ tags₀ count key (copied keys i p) (copied tags i p) p
  sinks_on i p child lower s =
      record {
        moved = moved_to s.moved p child.within (omega arith) (sinks (omega arith) s.moved.hole p child);
        over = λ one. omega (arith, sinks_over (omega arith) s.moved.hole p child);
      }

  pub sinking_ends : (i : ℕ) → Under keys count i key → Sinking keys₀ tags₀ count key keys tags i → Sifted keys₀ tags₀ 0 keys tags count key i
  sinking_ends i under s = sifted s.moved key s.over under
