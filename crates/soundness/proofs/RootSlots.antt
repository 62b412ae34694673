-- The slots of the root, of the tree inside it and of the chain: none twice, since the level in its header says which of the three a slot is.
use Prim.Native.Nat.{ℕ, ◌+◌, ◌≤◌, ◌<◌}
use native.Mathlib.Omega.{arith}
use native.Mathlib.Decide.{ℕ_discrete, dec_le}
use mathlib.Core.Path.{◌≡◌}
use mathlib.Core.List.{List, [], ◌∷◌, ◌++◌}
use Rattle.pktree.specs.Elements.{block_at, empty}
use Rattle.pktree.specs.Lists.{Every}
use Rattle.pktree.proofs.Arranged.{Arranged}
use Rattle.measures.specs.Slot.{slot_part, level_word}
use Rattle.store.specs.Placed.{Placed, slots_of}
use Rattle.freeslots.specs.FreeSlots.{no_slot, FreeChain, occurrences}
use Rattle.store.proofs.Standing.{SlotSays, Stands}
use Rattle.freeslots.proofs.FreeChains.{occurrences_same, occurrences_other, occurrences_join}
use Rattle.store.proofs.BlockNumbers.{chain_levels}
use Rattle.store.proofs.SlotTotals.{every_occurs}
use Rattle.soundness.proofs.SlotsOnce.{tree_slot_level, tree_slots_once, chain_once}

-- what is at most once in each of three lists, and in one of them only, is at most once in all
one_of_three : {a u v level order : ℕ} → a ≤ 1 → u ≤ 1 → v ≤ 1 → 1 ≤ order → (1 ≤ a → level ≡ order) → (1 ≤ u → (1 ≤ level) × (level < order)) → (1 ≤ v → level ≡ 0)
    → a + u + v ≤ 1
one_of_three {a} {u} {v} {level} {order} a_one u-one v-one low root tree free = go (dec_le 1 a) (dec_le 1 u) (dec_le 1 v)
  where
    go : Dec (1 ≤ a) → Dec (1 ≤ u) → Dec (1 ≤ v) → a + u + v ≤ 1
    go (yes p) (yes q) (yes r) = absurd (omega (arith, root p, tree q))
    go (yes p) (yes q) (no r) = absurd (omega (arith, root p, tree q))
    go (yes p) (no q) (yes r) = absurd (omega (arith, root p, free r))
    go (yes p) (no q) (no r) = omega arith
    go (no p) (yes q) (yes r) = absurd (omega (arith, tree q, free r))
    go (no p) (yes q) (no r) = omega arith
    go (no p) (no q) (yes r) = omega arith
    go (no p) (no q) (no r) = omega arith

once_alone : (x s : ℕ) → occurrences x (s ∷ []) ≤ 1
once_alone x s = go (ℕ_discrete s x)
  where
    go : Dec (s ≡ x) → occurrences x (s ∷ []) ≤ 1
    go (yes e) = rw e (omega (arith, occurrences_same x []))
    go (no ne) = omega (arith, occurrences_other x s [] ne)

pub root_slots_once : (width : ℕ) (words : List ℕ) (k order code to slot slots first : ℕ) (es : Placed) (free : List ℕ) → 1 ≤ order → slots ≤ no_slot
    → SlotSays (slot_part width words slot) order code es → Stands width words es → Arranged k order code to es → Every (λ s. s < slots) free
    → FreeChain width words first free → (x : ℕ) → occurrences x (slots_of (block_at slot order code es empty) ++ free) ≤ 1
root_slots_once width words k order code to slot slots first es free low few says stands arranged inside chain x =
    let sum = one_of_three (once_alone x slot) (tree_slots_once width words k order code to es x stands arranged)
    (chain_once width words slots few first free x inside chain) low
    (every_occurs (λ s. level_word (slot_part width words s) ≡ order) x (slot ∷ []) (says.level_is, tt))
    (tree_slot_level width words k order code to es x stands arranged)
    (every_occurs _ x free (chain_levels width words first free chain)) in
    omega (
      arith,
      occurrences_join x (slot ∷ (slots_of es ++ [])) free,
      occurrences_join x (slot ∷ []) (slots_of es ++ []),
      occurrences_join x (slots_of es) [],
    )
