-- The hole of a heap is filled: one entry more, or the least taken out.
use Prim.Native.Nat.{ℕ, zero, suc, ◌+◌, ◌-◌, ◌≤◌, ◌<◌}
use native.Mathlib.Omega.{arith}
use mathlib.Core.Path.{◌≡◌, refl, ap, sym, subst, ◌∙◌}
use mathlib.Core.List.{List}
use lib.ListN.{length, get_or, set, length-set}
use Rattle.pktree.specs.Lists.{total}
use Rattle.frontier.specs.declared.Entry.{Entry}
use Rattle.frontier.specs.Entries.{entry_at, queued, Heap, PushedInArrays, TakenFromArrays}
use Rattle.frontier.specs.Holes.{Sifted}
use Rattle.frontier.proofs.HeapLaws.{heap_fewer}
use Rattle.frontier.proofs.EntryLaws.{total_set, least_of_all}

-- as many entries as are counted
pub queued_long : (keys tags : List ℕ) (n : ℕ) → length (queued keys tags n) ≡ n
queued_long keys tags zero = refl
queued_long keys tags (suc n) = ap suc (queued_long keys tags n)

module _ (keys tags : List ℕ) {count : ℕ} {now : List Entry} (view : queued keys tags count ≡ now) where
  pub counted : length now ≡ count
  counted = ap length (sym view) ∙ queued_long keys tags count

module _ {keys tags keys₁ tags₁ : List ℕ} {count key r : ℕ} (tag : ℕ) where
  pub pushed : count < length keys → count < length tags → Sifted keys tags count keys₁ tags₁ (suc count) key r → PushedInArrays keys tags (set keys₁ r key) (set tags₁ r tag) count key tag
  pushed h g o =
      record {
        one_more = λ number. omega (arith, total_set keys₁ tags₁ r key tag (omega arith) (omega arith) number (suc count) o.within, o.others number);
        heap = o.heap;
        keys_long = length-set keys₁ r key ∙ o.keys_long;
        tags_long = length-set tags₁ r tag ∙ o.tags_long;
      }

module _ {keys tags : List ℕ} {count : ℕ} (one : 1 ≤ count) (heap : Heap keys count) where
  -- the last entry is carried to the place that was left
  pub taken : {keys₁ tags₁ : List ℕ} {r : ℕ} → count ≤ length keys → count ≤ length tags → Sifted keys tags 0 keys₁ tags₁ (count - 1) (get_or keys (count - 1) 0) r
      → TakenFromArrays keys tags (set keys₁ r (get_or keys (count - 1) 0)) (set tags₁ r (get_or tags (count - 1) 0)) count (entry_at keys tags 0)
  taken {keys₁} {tags₁} {r} h g o =
      record {
        one_less = λ number.
            omega (
              arith,
              total_set keys₁ tags₁ r (get_or keys (count - 1) 0) (get_or tags (count - 1) 0) (omega arith) (omega arith) number (count - 1) o.within,
              o.others number,
              last_apart number,
            );
        least = least_of_all tags heap;
        heap = o.heap;
        keys_long = length-set keys₁ r (get_or keys (count - 1) 0) ∙ o.keys_long;
        tags_long = length-set tags₁ r (get_or tags (count - 1) 0) ∙ o.tags_long;
      }
    where
      last_apart : (number : Entry → ℕ) → total number (queued keys tags count) ≡ number (entry_at keys tags (count - 1)) + total number (queued keys tags (count - 1))
      last_apart number = let e : count ≡ suc (count - 1) = omega arith in ap (λ (n : ℕ). total number (queued keys tags n)) e

  pub taken_only : count - 1 ≤ 0 → TakenFromArrays keys tags keys tags count (entry_at keys tags 0)
  taken_only only =
      record {
        one_less = λ number. let e : count ≡ 1 = omega arith in subst (λ (n : ℕ). total number (queued keys tags n) ≡ number (entry_at keys tags 0) + total number (queued keys tags (n - 1))) (sym e) refl;
        least = least_of_all tags heap;
        heap = heap_fewer heap (omega arith);
        keys_long = refl;
        tags_long = refl;
      }
