-- Laws of the chain of free slots: what keeps it, that a start has one, what taking and releasing a slot leaves, and counting slots.
use Prim.Native.Nat.{ℕ, suc, ◌+◌, ◌*◌, ◌≤◌, ◌<◌}
use native.Mathlib.Omega.{arith}
use native.Mathlib.Nat.{zero-add, suc-add}
use native.Mathlib.Decide.{ℕ_discrete}
use mathlib.Core.Path.{◌≡◌, refl, ap, sym, ◌∙◌}
use mathlib.Core.Bool.{Bool, true, false, cond}
use mathlib.Core.Logic.{◌⊎◌, inl, inr}
use mathlib.Core.List.{List, [], ◌∷◌, ◌++◌}
use lib.Dec.{eqb}
use lib.ListN.{length, take, set, length-set}
use lib.Seq.{get_or-set_same, get_or-set_other}
use borrow.Author.Tests.{eq-eqb, ne_eqb}
use Rattle.pktree.specs.Lists.{Every, select}
use Rattle.measures.specs.Words.{head_words, blocks_word, blocks_index, first_free_word, first_free_index}
use Rattle.measures.specs.declared.sizes.Layout.{Layout}
use Rattle.std.proofs.Common.{Some, None}
use Rattle.measures.specs.Layout.{LayoutFits}
use Rattle.measures.specs.Slot.{slot_part, level_word, next_word, Within, next_index, slot_head}
use Rattle.freeslots.specs.FreeSlots.{no_slot, FreeChain, FreeSlots, occurrences, TookFree, Released}
use Rattle.measures.proofs.SlotWrites.{HeadWritten, head_word_set, head_written_then, slot_word_set, slot_length}

-- what follows for every slot
pub every_map : (P Q : ℕ → Type 0) (l : List ℕ) → ((s : ℕ) → P s → Q s) → Every P l → Every Q l
every_map P Q [] f h = tt
every_map P Q (s ∷ l) f h = (f s h.0, every_map P Q l f h.1)

-- what holds of every number
pub every_of_all : (P : ℕ → Type 0) (l : List ℕ) → ((s : ℕ) → P s) → Every P l
every_of_all P [] f = tt
every_of_all P (s ∷ l) f = (f s, every_of_all P l f)

-- words that agree on the slots of a chain have it
pub chain_kept : (width : ℕ) (words words' : List ℕ) (first : ℕ) (free : List ℕ)
    → Every (λ s. slot_part width words s ≡ slot_part width words' s) free → FreeChain width words first free → FreeChain width words' first free
chain_kept width words words' first [] e c = c
chain_kept width words words' first (s ∷ free) e c =
    let r = chain_kept width words words' (next_word (slot_part width words s)) free e.1 c.2 in
    rw (← e.0) (c.0, c.1, r)

-- and word 7
pub free_kept : (width : ℕ) (words words' free : List ℕ) → first_free_word words' ≡ first_free_word words
    → Every (λ s. slot_part width words s ≡ slot_part width words' s) free → FreeSlots width words free → FreeSlots width words' free
free_kept width words words' free first e c = rw first (chain_kept width words words' (first_free_word words) free e c)

-- a start has one chain of slots that there are; a slot with the number that ends a chain would let one go on past its end
module _ (width : ℕ) (words : List ℕ) (slots : ℕ) (few : slots ≤ no_slot) where
  pub one_chain : (first : ℕ) (a b : List ℕ) → Every (λ s. s < slots) a → Every (λ s. s < slots) b → FreeChain width words first a → FreeChain width words first b → a ≡ b
  one_chain first [] [] p q c d = refl
  one_chain first [] (t ∷ b) p q c d = absurd (omega arith)
  one_chain first (s ∷ a) [] p q c d = absurd (omega arith)
  one_chain first (s ∷ a) (t ∷ b) p q c d =
      let e : t ≡ s = sym d.0 ∙ c.0 in
      let f : FreeChain width words (next_word (slot_part width words s)) b = rw e at d.2 in
      rw (e, one_chain (next_word (slot_part width words s)) a b p.1 q.1 c.2 f)

  -- the slot is not in the chain, or a chain that is no longer starts at it
  data Later (s n : ℕ) : Type 0 where
    later : (l : List ℕ) → Every (λ t. t < slots) l → FreeChain width words s l → length l ≤ n → Later s n

  find : (s first : ℕ) (l : List ℕ) → Every (λ t. t < slots) l → FreeChain width words first l → Every (λ t. t ≡ s → ⊥) l ⊎ Later s (length l)
  find s first [] p c = inl tt
  find s first (t ∷ l) p c = go (ℕ_discrete t s) (find s (next_word (slot_part width words t)) l p.1 c.2)
    where
      go : Dec (t ≡ s) → Every (λ u. u ≡ s → ⊥) l ⊎ Later s (length l) → Every (λ u. u ≡ s → ⊥) (t ∷ l) ⊎ Later s (length (t ∷ l))
      go (yes e) r = inr (later (t ∷ l) p (sym e, c.1, c.2) (omega arith))
      go (no ne) (inl o) = inl (ne, o)
      go (no ne) (inr (later m q d n)) = inr (later m q d (omega arith))

  -- the first of a chain does not come again
  pub first_once : {first : ℕ} (s : ℕ) (free : List ℕ) → Every (λ t. t < slots) (s ∷ free) → FreeChain width words first (s ∷ free) → Every (λ t. t ≡ s → ⊥) free
  first_once s free p c = go (find s (next_word (slot_part width words s)) free p.1 c.2)
    where
      go : Every (λ t. t ≡ s → ⊥) free ⊎ Later s (length free) → Every (λ t. t ≡ s → ⊥) free
      go (inl o) = o
      go (inr (later m q d n)) = absurd (omega (arith, ap length (one_chain s (s ∷ free) m p q (refl, c.1, c.2) d)))

-- a slot before a list occurs once more with it
pub occurrences_same : (s : ℕ) (l : List ℕ) → occurrences s (s ∷ l) ≡ suc (occurrences s l)
occurrences_same s l = rw (eq-eqb s s refl)

-- another slot does not
pub occurrences_other : (s t : ℕ) (l : List ℕ) → (t ≡ s → ⊥) → occurrences s (t ∷ l) ≡ occurrences s l
occurrences_other s t l ne = rw (ne_eqb t s ne)

-- joining adds
pub occurrences_join : (s : ℕ) (a b : List ℕ) → occurrences s (a ++ b) ≡ occurrences s a + occurrences s b
occurrences_join s [] b = rw zero-add
occurrences_join s (t ∷ a) b = go (eqb t s) (occurrences_join s a b)
  where
    go : (same : Bool) → occurrences s (a ++ b) ≡ occurrences s a + occurrences s b
        → length (cond same (t ∷ select (λ u. eqb u s) (a ++ b)) (select (λ u. eqb u s) (a ++ b)))
        ≡ length (cond same (t ∷ select (λ u. eqb u s) a) (select (λ u. eqb u s) a)) + occurrences s b
    go true e = rw (e, suc-add)
    go false e = e

-- a slot that occurs 0 times is not there
pub absent : (s : ℕ) (l : List ℕ) → occurrences s l ≡ 0 → Every (λ t. t ≡ s → ⊥) l
absent s [] h = tt
absent s (t ∷ l) h = go (ℕ_discrete t s) (absent s l)
  where
    go : Dec (t ≡ s) → (occurrences s l ≡ 0 → Every (λ u. u ≡ s → ⊥) l) → Every (λ u. u ≡ s → ⊥) (t ∷ l)
    go (yes e) f = absurd (omega (arith, rw e at h, occurrences_same s l))
    go (no ne) f = (ne, f (sym (occurrences_other s t l ne) ∙ h))

-- the first words after a slot is taken
abbrev pub head_taken : Layout → ℕ → List ℕ → List ℕ
head_taken layout slot before = set (set (take head_words before) first_free_index (next_word (slot_part layout.width before slot))) blocks_index (blocks_word before + 1)

pub head_taken_lem : {layout : Layout} {slot : ℕ} {before after : List ℕ} → TookFree layout before after (Some slot) → HeadWritten layout.width (head_taken layout slot before) before after
head_taken_lem {layout} {slot} {before} took =
    rw took.4 (head_written_then blocks_index (blocks_word before + 1) (omega arith)
    (head_word_set layout.width before first_free_index (next_word (slot_part layout.width before slot)) (omega arith)))

-- what taking the first free slot leaves: the rest of the chain, one block more, and all slots as they were
pub record FirstTaken (layout : Layout) (slot : ℕ) (free before after : List ℕ) : Type 0 where
  pub rest : List ℕ
  pub is : free ≡ slot ∷ rest
  pub chain : FreeSlots layout.width after rest
  pub counted : blocks_word after ≡ blocks_word before + 1
  pub written : HeadWritten layout.width (head_taken layout slot before) before after

pub first_taken : (layout : Layout) (slot : ℕ) (free before after : List ℕ) → LayoutFits layout before → TookFree layout before after (Some slot)
    → FreeSlots layout.width before free → FirstTaken layout slot free before after
first_taken layout slot [] before after fits took c = absurd (omega (arith, fits.within))
first_taken layout slot (t ∷ free) before after fits took c =
    let width : ℕ = layout.width in
    let next : ℕ = next_word (slot_part width before slot) in
    let w = head_taken_lem took in
    let e : t ≡ slot = sym c.0 ∙ sym took.0 in
    let mid : List ℕ = set before first_free_index next in
    let first : first_free_word after ≡ next =
    ap first_free_word took.4 ∙ get_or-set_other mid blocks_index first_free_index (blocks_word before + 1) 0 (λ z. omega arith)
    ∙ get_or-set_same before first_free_index next 0 (omega (arith, fits.lies)) in
    let r : FreeChain width before next free = rw e at c.2 in
    let k : FreeChain width after next free = chain_kept width before after next free (every_of_all _ free (λ s. sym (w.slots s))) r in
    record {
      rest = free;
      is = rw e;
      chain = rw first k;
      counted = ap blocks_word took.4 ∙ get_or-set_same mid blocks_index (blocks_word before + 1) 0 (omega (arith, fits.lies, length-set before first_free_index next));
      written = w;
    }

-- where none was to be taken and fewer blocks are held than there are slots, none is free
pub none_free_lem : (layout : Layout) (free before after : List ℕ) → Every (λ s. s < layout.slots) free → TookFree layout before after None
    → FreeSlots layout.width before free → blocks_word before + length free ≡ layout.slots → free ≡ []
none_free_lem layout [] before after inside took c left = refl
none_free_lem layout (s ∷ free) before after inside took c left = absurd (took.1 (omega arith) (rw c.0 c.1) (omega arith))

-- what `release` writes marks the slot free and puts it before the chain
pub slot_released : (width slot at held : ℕ) (words : List ℕ) → slot_head ≤ width → Within width words slot → at ≡ head_words + slot * width
    → Released width slot held words (set (set (set (set words at 0) (at + next_index) (first_free_word (set words at 0))) first_free_index slot) blocks_index held)
slot_released width slot at held words wide within e =
    let next : ℕ = first_free_word (set words at 0) in
    let marked : List ℕ = set words at 0 in
    let linked : List ℕ = set marked (at + next_index) next in
    let named : List ℕ = set linked first_free_index slot in
    let after : List ℕ = set named blocks_index held in
    let m = slot_word_set width slot words at 0 0 (omega arith) (omega arith) in
    let n = slot_word_set width slot marked (at + next_index) 3 next (omega arith) (omega arith) in
    let h = head_written_then blocks_index held (omega arith) (head_word_set width linked first_free_index slot (omega arith)) in
    let long : length linked ≡ length words = n.only.long ∙ m.only.long in
    let others : (other : ℕ) → (other ≡ slot → ⊥) → slot_part width after other ≡ slot_part width words other =
    λ other ne. h.slots other ∙ n.only.others other ne ∙ m.only.others other ne in
    let self : slot_part width after slot ≡ set (set (slot_part width words slot) 0 0) 3 next =
    h.slots slot ∙ n.self ∙ ap (λ (p : List ℕ). set p 3 next) m.self in
    let p : List ℕ = slot_part width words slot in
    let w : length p ≡ width = slot_length width slot words within in
    let first : next ≡ first_free_word words = get_or-set_other words at first_free_index 0 0 (λ z. omega arith) in
    let freed : level_word (slot_part width after slot) ≡ 0 =
    rw self (get_or-set_other (set p 0 0) 3 0 next 0 (λ z. omega arith) ∙ get_or-set_same p 0 0 0 (omega arith)) in
    record {
      long = h.long ∙ long;
      head = h.head_is ∙ ap (λ (l : List ℕ). set (set l first_free_index slot) blocks_index held) (n.only.head ∙ m.only.head);
      others = others;
      freed = freed;
      chain = λ free out c. (
        get_or-set_other named blocks_index first_free_index held 0 (λ z. omega arith) ∙ get_or-set_same linked first_free_index slot 0 (omega arith),
        freed,
        rw (self, get_or-set_same (set p 0 0) 3 next 0 (omega (arith, length-set p 0 0)))
            (chain_kept width words after next free (every_map _ _ free (λ s ne. sym (others s ne)) out) (rw first c)),
      );
      past = λ k b. h.past k ∙ n.only.past k b ∙ m.only.past k b;
    }

-- what releasing a slot leaves of a chain that it is not in
pub chain_released : (width slot : ℕ) {held : ℕ} (free before after : List ℕ) → Released width slot held before after → occurrences slot free ≡ 0
    → FreeSlots width before free → FreeSlots width after (slot ∷ free)
chain_released width slot free before after r h c = r.chain free (absent slot free h) c
