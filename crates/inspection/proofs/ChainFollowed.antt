-- The chain of free slots, followed from word 7: what stands behind the slot that comes next.
use Prim.Native.Nat.{ℕ, suc, ◌+◌, ◌≤◌, ◌<◌}
use native.Mathlib.Omega.{arith}
use mathlib.Core.Path.{◌≡◌, refl, ap, subst, sym, ◌∙◌}
use mathlib.Core.List.{List, [], ◌∷◌, ◌++◌, append_assoc, append-nil}
use lib.ListN.{length, length-append}
use Rattle.pktree.specs.Lists.{Every}
use Rattle.measures.specs.Words.{first_free_word}
use Rattle.measures.specs.declared.sizes.Layout.{Layout}
use Rattle.measures.specs.Slot.{slot_part, level_word, next_word}
use Rattle.freeslots.specs.FreeSlots.{no_slot, FreeChain, FreeSlots}
use Rattle.store.proofs.Standing.{every_join}
use Rattle.inspection.specs.Chain.{ChainOf, ChainEnds, NoEnd}

-- a chain from the slot that comes next
pub record ChainLeft (layout : Layout) (words : List ℕ) (next : ℕ) (past free : List ℕ) : Type 0 where
  pub left : List ℕ
  pub is : free ≡ past ++ left
  pub chain : FreeChain layout.width words next left
  pub inside : Every (λ s. s < layout.slots) left

-- so many slots of the chain are followed: whatever ends the chain from here ends it from word 7, and the other way round
pub record FollowedTo (layout : Layout) (words : List ℕ) (next count : ℕ) : Type 0 where
  pub past : List ℕ
  pub many : length past ≡ count
  pub inside : Every (λ s. s < layout.slots) past
  pub joins : (left : List ℕ) → FreeChain layout.width words next left → FreeSlots layout.width words (past ++ left)
  pub parts : (free : List ℕ) → ChainOf layout words free → ChainLeft layout words next past free

module _ {layout : Layout} {words : List ℕ} where
  pub followed_none : FollowedTo layout words (first_free_word words) 0
  followed_none =
      record {
        past = [];
        many = refl;
        inside = tt;
        joins = λ left c. c;
        parts = λ free c. record { left = free; is = refl; chain = c.chain; inside = c.inside };
      }

  module _ {next count : ℕ} (f : FollowedTo layout words next count) where
    more_left : (next ≡ no_slot → ⊥) → (free : List ℕ) → ChainOf layout words free → suc count ≤ length free
    more_left more free c = go (f.parts free c).left (f.parts free c).is (f.parts free c).chain
      where
        go : (left : List ℕ) → free ≡ f.past ++ left → FreeChain layout.width words next left → suc count ≤ length free
        go [] e h = absurd (more h)
        go (s ∷ left) e h = omega (arith, f.many, ap length e, length-append f.past (s ∷ left))

    -- the next slot of a chain that goes on is there and free
    next_free : (next ≡ no_slot → ⊥) → (free : List ℕ) → ChainOf layout words free
        → (next < layout.slots) × (level_word (slot_part layout.width words next) ≡ 0)
    next_free more free c = go (f.parts free c).left (f.parts free c).chain (f.parts free c).inside
      where
        go : (left : List ℕ) → FreeChain layout.width words next left → Every (λ s. s < layout.slots) left
            → (next < layout.slots) × (level_word (slot_part layout.width words next) ≡ 0)
        go [] h p = absurd (more h)
        go (s ∷ left) h p = (omega arith, rw h.0 h.1)

    followed_one : (next ≡ no_slot → ⊥) → next < layout.slots → level_word (slot_part layout.width words next) ≡ 0
        → FollowedTo layout words (next_word (slot_part layout.width words next)) (count + 1)
    followed_one more below idle =
        record {
          past = f.past ++ (next ∷ []);
          many = omega (arith, f.many, length-append f.past (next ∷ []));
          inside = every_join _ f.past (next ∷ []) f.inside (below, tt);
          joins = λ left c. rw (append_assoc f.past (next ∷ []) left) (f.joins (next ∷ left) (refl, idle, c));
          parts = λ free c. go free (f.parts free c).left (f.parts free c).is (f.parts free c).chain (f.parts free c).inside;
        }
      where
        go : (free left : List ℕ) → free ≡ f.past ++ left → FreeChain layout.width words next left → Every (λ s. s < layout.slots) left
            → ChainLeft layout words (next_word (slot_part layout.width words next)) (f.past ++ (next ∷ [])) free
        go free [] e h p = absurd (more h)
        go free (s ∷ left) e h p =
            record { left = left; is = e ∙ rw (← h.0) (sym (append_assoc f.past (next ∷ []) left)); chain = rw h.0 h.2; inside = p.1 }

    pub chain_ends : next ≡ no_slot → count ≤ layout.slots → ChainEnds layout words count
    chain_ends end few =
        record {
          free = f.past;
          is = record { chain = subst (FreeSlots layout.width words) (append-nil f.past) (f.joins [] end); inside = f.inside };
          many = f.many;
          few = few;
        }

    -- where a chain goes on: its next slot is there and free, or no chain has an end
    module _ (more : next ≡ no_slot → ⊥) where
      pub no_end : layout.slots ≤ count → NoEnd layout words
      no_end full = record { none = λ free is few. omega (arith, more_left more free is) }

      module _ {slot : ℕ} (same : slot ≡ next) where
        pub next_absent : layout.slots ≤ slot → NoEnd layout words
        next_absent past = record { none = λ free is few. omega (arith, (next_free more free is).0) }

        module _ {part : List ℕ} (lent : part ≡ slot_part layout.width words slot) where
          its_part : part ≡ slot_part layout.width words next
          its_part = rw same at lent

          pub next_taken : (level_word part ≡ 0 → ⊥) → NoEnd layout words
          next_taken taken = record { none = λ free is few. taken (rw its_part (next_free more free is).1) }

          pub next_followed : slot < layout.slots → level_word part ≡ 0 → FollowedTo layout words (next_word part) (count + 1)
          next_followed below idle = rw its_part (followed_one more (omega arith) (rw its_part at idle))
