-- No slot twice: headers tell the blocks of a right tree apart, and a chain that ends does not come back.
use Prim.Native.Nat.{ℕ, suc, ◌+◌, ◌^◌, ◌≤◌, ◌<◌}
use native.Mathlib.Omega.{arith}
use native.Mathlib.Decide.{ℕ_discrete, dec_le}
use mathlib.Core.Path.{◌≡◌, ap, sym, ◌∙◌}
use mathlib.Core.List.{List, [], ◌∷◌, ◌++◌}
use Rattle.pktree.specs.Elements.{block_at, empty, pixel}
use Rattle.pktree.specs.Lists.{Every}
use Rattle.pktree.proofs.Alignment.{pow_pos}
use Rattle.pktree.proofs.Arranged.{Arranged, arranged_le}
use Rattle.measures.specs.Slot.{slot_part, level_word, code_word, next_word}
use Rattle.store.specs.Placed.{Placed, slots_of}
use Rattle.freeslots.specs.FreeSlots.{no_slot, FreeChain, occurrences}
use Rattle.store.proofs.Standing.{Stands, every_join}
use Rattle.freeslots.proofs.FreeChains.{every_map, first_once, occurrences_same, occurrences_other, occurrences_join}
use Rattle.store.proofs.SlotTotals.{every_occurs}

module _ (width : ℕ) (words : List ℕ) where
  -- the header of a slot: a level from 1 to below n, a code from `from` to below `to`
  record HeaderIn (n from to s : ℕ) : Type 0 where
    starts : from ≤ code_word (slot_part width words s)
    ends : code_word (slot_part width words s) < to
    level_from : 1 ≤ level_word (slot_part width words s)
    below : level_word (slot_part width words s) < n

  wider : {n from to n' from' to' s : ℕ} → n ≤ n' → from' ≤ from → to ≤ to' → HeaderIn n from to s → HeaderIn n' from' to' s
  wider p q r h = record { starts = omega (arith, h.starts); ends = omega (arith, h.ends); level_from = h.level_from; below = omega (arith, h.below) }

  headers_in : (k n from to : ℕ) (t : Placed) → Stands width words t → Arranged k n from to t → Every (HeaderIn n from to) (slots_of t)
  headers_in k n from to empty g a = tt
  headers_in k n from to (pixel c t) g a =
      every_map _ _ (slots_of t) (λ s h. wider (omega arith) (omega (arith, a.0)) (omega arith) h) (headers_in k n (suc c) to t g a.1)
  headers_in k n from to (block_at s i c es t) g a =
      let end : c + 4 ^ i ≤ to = arranged_le k n (c + 4 ^ i) to t a.7 in
      let low : from ≤ c = a.0 in
      let level : i < n = a.1 in (
        record {
          starts = omega (arith, g.1.code_is);
          ends = omega (arith, g.1.code_is, pow_pos i);
          level_from = omega (arith, g.1.level_is, a.2);
          below = omega (arith, g.1.level_is);
        },
        every_join _ (slots_of es) (slots_of t)
            (every_map _ _ (slots_of es) (λ x h. wider (omega arith) (omega arith) (omega arith) h) (headers_in k i c (c + 4 ^ i) es g.2 a.6))
            (every_map _ _ (slots_of t) (λ x h. wider (omega arith) (omega arith) (omega arith) h) (headers_in k n (c + 4 ^ i) to t g.3 a.7)),
      )

  -- a slot of the tree has a level above 0 and below that of the block around it
  pub tree_slot_level : (k n from to : ℕ) (t : Placed) (s : ℕ) → Stands width words t → Arranged k n from to t → 1 ≤ occurrences s (slots_of t)
      → (1 ≤ level_word (slot_part width words s)) × (level_word (slot_part width words s) < n)
  tree_slot_level k n from to t s g a p = let h = every_occurs _ s (slots_of t) (headers_in k n from to t g a) p in (h.level_from, h.below)

  pub tree_slots_once : (k n from to : ℕ) (t : Placed) (x : ℕ) → Stands width words t → Arranged k n from to t → occurrences x (slots_of t) ≤ 1
  tree_slots_once k n from to empty x g a = omega arith
  tree_slots_once k n from to (pixel c t) x g a = tree_slots_once k n (suc c) to t x g a.1
  tree_slots_once k n from to (block_at s i c es t) x g a =
      go (ℕ_discrete s x)
      (apart (dec_le 1 (occurrences x (slots_of es))) (dec_le 1 (occurrences x (slots_of t))) (tree_slots_once k i c (c + 4 ^ i) es x g.2 a.6) (tree_slots_once k n (c + 4 ^ i) to t x g.3 a.7))
    where
      inner : 1 ≤ occurrences x (slots_of es) → HeaderIn i c (c + 4 ^ i) x
      inner = every_occurs _ x (slots_of es) (headers_in k i c (c + 4 ^ i) es g.2 a.6)

      after : 1 ≤ occurrences x (slots_of t) → HeaderIn n (c + 4 ^ i) to x
      after = every_occurs _ x (slots_of t) (headers_in k n (c + 4 ^ i) to t g.3 a.7)

      -- inside the block codes end where those after it start
      apart : Dec (1 ≤ occurrences x (slots_of es)) → Dec (1 ≤ occurrences x (slots_of t)) → occurrences x (slots_of es) ≤ 1 → occurrences x (slots_of t) ≤ 1
          → occurrences x (slots_of es) + occurrences x (slots_of t) ≤ 1
      apart (yes p) (yes q) h l = absurd (omega (arith, (inner p).ends, (after q).starts))
      apart (yes p) (no q) h l = omega arith
      apart (no p) (yes q) h l = omega arith
      apart (no p) (no q) h l = omega arith

      -- the block itself has a higher level than those inside it, and a lower code than those after it
      own : s ≡ x → 1 ≤ occurrences x (slots_of es) + occurrences x (slots_of t) → ⊥
      own e p = split (dec_le 1 (occurrences x (slots_of es)))
        where
          level : level_word (slot_part width words x) ≡ i
          level = ap (λ (y : ℕ). level_word (slot_part width words y)) (sym e) ∙ g.1.level_is

          code : code_word (slot_part width words x) ≡ c
          code = ap (λ (y : ℕ). code_word (slot_part width words y)) (sym e) ∙ g.1.code_is

          split : Dec (1 ≤ occurrences x (slots_of es)) → ⊥
          split (yes q) = omega (arith, (inner q).below, level)
          split (no q) = omega (arith, (after (omega arith)).starts, code, pow_pos i)

      go : Dec (s ≡ x) → occurrences x (slots_of es) + occurrences x (slots_of t) ≤ 1 → occurrences x (s ∷ (slots_of es ++ slots_of t)) ≤ 1
      go (no ne) h = omega (arith, occurrences_other x s (slots_of es ++ slots_of t) ne, occurrences_join x (slots_of es) (slots_of t))
      go (yes e) h =
          let o : occurrences x (s ∷ (slots_of es ++ slots_of t)) ≡ suc (occurrences x (slots_of es ++ slots_of t)) = rw e (occurrences_same x (slots_of es ++ slots_of t)) in
          none (dec_le 1 (occurrences x (slots_of es) + occurrences x (slots_of t))) o
        where
          none : Dec (1 ≤ occurrences x (slots_of es) + occurrences x (slots_of t))
              → occurrences x (s ∷ (slots_of es ++ slots_of t)) ≡ suc (occurrences x (slots_of es ++ slots_of t)) → occurrences x (s ∷ (slots_of es ++ slots_of t)) ≤ 1
          none (yes p) o = absurd (own e p)
          none (no p) o = omega (arith, occurrences_join x (slots_of es) (slots_of t))

  -- the slots of a chain that ends
  pub chain_once : (slots : ℕ) → slots ≤ no_slot → (first : ℕ) (free : List ℕ) (x : ℕ) → Every (λ s. s < slots) free → FreeChain width words first free
      → occurrences x free ≤ 1
  chain_once slots few first [] x p c = omega arith
  chain_once slots few first (s ∷ free) x p c =
      go (ℕ_discrete s x) (dec_le 1 (occurrences x free)) (chain_once slots few (next_word (slot_part width words s)) free x p.1 c.2)
    where
      go : Dec (s ≡ x) → Dec (1 ≤ occurrences x free) → occurrences x free ≤ 1 → occurrences x (s ∷ free) ≤ 1
      go (yes e) (yes q) u = absurd (every_occurs _ x free (first_once width words slots few s free p c) q (sym e))
      go (yes e) (no q) u = let o : occurrences x (s ∷ free) ≡ suc (occurrences x free) = rw e (occurrences_same x free) in omega arith
      go (no ne) (yes q) u = omega (arith, occurrences_other x s free ne)
      go (no ne) (no q) u = omega (arith, occurrences_other x s free ne)
