-- The numbers of blocks: kept where slots are, right where those in use are, and in a tree the number of each block's own pixels.
use Prim.Native.Nat.{ℕ, suc, ◌+◌, ◌^◌, ◌≤◌, ◌<◌}
use native.Mathlib.Omega.{arith}
use native.Mathlib.Decide.{ℕ_discrete, dec_le}
use mathlib.Core.Path.{◌≡◌, refl, ap, ap₂, subst, sym, ◌∙◌}
use mathlib.Core.List.{List, [], ◌∷◌}
use lib.ListN.{length}
use Rattle.pktree.specs.Lists.{Every}
use Rattle.pktree.specs.Elements.{empty, pixel, block_at, ◌⧺◌}
use Rattle.pktree.specs.Tree.{pixels}
use Rattle.pktree.proofs.Arranged.{Arranged, arranged_le}
use Rattle.measures.specs.Slot.{slot_part, level_word, code_word, next_word, number_word}
use Rattle.freeslots.specs.FreeSlots.{FreeChain, FreeSlots, occurrences}
use Rattle.store.specs.Sound.{SlotsShared}
use Rattle.store.specs.Placed.{Placed, slots_of}
use Rattle.store.specs.Numbers.{number_between, number_in, NumberRight, Numbered}
use Rattle.store.proofs.Standing.{SlotSays, Stands, every_left, every_right, every_join}
use Rattle.freeslots.proofs.FreeChains.{occurrences_join}
use Rattle.store.proofs.SlotTotals.{every_occurs}
use Rattle.store.proofs.NumbersBetween.{number_below, number_join, none_below, none_above, all_inside}

-- a slot of the chain has level 0
pub chain_levels : (width : ℕ) (words : List ℕ) (first : ℕ) (free : List ℕ) → FreeChain width words first free → Every (λ s. level_word (slot_part width words s) ≡ 0) free
chain_levels width words first [] c = tt
chain_levels width words first (s ∷ free) c = (c.1, chain_levels width words (next_word (slot_part width words s)) free c.2)

-- so where the slots are shared, it is enough to look at those that are used
pub numbered_by_used : (width slots : ℕ) (words set used free : List ℕ) → SlotsShared slots used free → FreeSlots width words free
    → Every (λ s. NumberRight set (slot_part width words s)) used → Numbered width slots words set
numbered_by_used width slots words set used free shared chain right = record { each = λ s below. go s below (dec_le 1 (occurrences s used)) }
  where
    go : (s : ℕ) → s < slots → Dec (1 ≤ occurrences s used) → NumberRight set (slot_part width words s)
    go s below (yes p) = every_occurs (λ t. NumberRight set (slot_part width words t)) s used right p
    go s below (no p) =
        let z : level_word (slot_part width words s) ≡ 0 = every_occurs _ s free (chain_levels width words _ free chain) (omega (arith, shared.once s below, occurrences_join s used free)) in
        λ one. absurd (omega arith)

-- a slot that says the same level, code and number
pub number_right_kept : (set p q : List ℕ) → level_word q ≡ level_word p → code_word q ≡ code_word p → number_word q ≡ number_word p → NumberRight set p → NumberRight set q
number_right_kept set p q l c n h one = n ∙ h (omega (arith, l)) ∙ sym (ap₂ (number_in set) l c)

-- all other slots are as they were, and this one's number is right
pub numbered_but_slot : (width slots slot : ℕ) (before after set : List ℕ) → ((t : ℕ) → (t ≡ slot → ⊥) → slot_part width after t ≡ slot_part width before t)
    → NumberRight set (slot_part width after slot) → Numbered width slots before set → Numbered width slots after set
numbered_but_slot width slots slot before after set others own h = record { each = λ t below. go t below (ℕ_discrete t slot) }
  where
    go : (t : ℕ) → t < slots → Dec (t ≡ slot) → NumberRight set (slot_part width after t)
    go t below (yes e) = subst (λ (u : ℕ). NumberRight set (slot_part width after u)) (sym e) own
    go t below (no ne) = subst (NumberRight set) (sym (others t ne)) (h.each t below)

-- every block of a tree says how many pixels it has
abbrev pub TreeNumbers : ℕ → List ℕ → Placed → Type 0
TreeNumbers width words empty = Unit {0}
TreeNumbers width words (pixel c t) = TreeNumbers width words t
TreeNumbers width words (block_at s i c es t) =
    (number_word (slot_part width words s) ≡ length (pixels es)) × TreeNumbers width words es × TreeNumbers width words t

pub tree_numbers_parts : (width : ℕ) (words : List ℕ) (a b : Placed) → TreeNumbers width words (a ⧺ b) → TreeNumbers width words a × TreeNumbers width words b
tree_numbers_parts width words empty b h = (tt, h)
tree_numbers_parts width words (pixel c a) b h = tree_numbers_parts width words a b h
tree_numbers_parts width words (block_at s i c es a) b h = let r = tree_numbers_parts width words a b h.2 in ((h.0, h.1, r.0), r.1)

pub tree_numbers_join : (width : ℕ) (words : List ℕ) (a b : Placed) → TreeNumbers width words a → TreeNumbers width words b → TreeNumbers width words (a ⧺ b)
tree_numbers_join width words empty b p q = q
tree_numbers_join width words (pixel c a) b p q = tree_numbers_join width words a b p q
tree_numbers_join width words (block_at s i c es a) b p q = (p.0, p.1, tree_numbers_join width words a b p.2 q)

-- words that agree on the slots of a tree have its numbers
pub tree_numbers_kept : (width : ℕ) (words words' : List ℕ) (t : Placed) → Every (λ s. slot_part width words s ≡ slot_part width words' s) (slots_of t)
    → TreeNumbers width words t → TreeNumbers width words' t
tree_numbers_kept width words words' empty e h = tt
tree_numbers_kept width words words' (pixel c t) e h = tree_numbers_kept width words words' t e h
tree_numbers_kept width words words' (block_at s i c es t) e h = (
  ap number_word (sym e.0) ∙ h.0,
  tree_numbers_kept width words words' es (every_left _ (slots_of es) (slots_of t) e.1) h.1,
  tree_numbers_kept width words words' t (every_right _ (slots_of es) (slots_of t) e.1) h.2,
)

-- the set's pixels in a range of codes are those of these elements
pub record OwnPixels (set : List ℕ) (lo hi : ℕ) (t : Placed) : Type 0 where
  pub own : (from to : ℕ) → lo ≤ from → from ≤ to → to ≤ hi → number_between from to set ≡ number_between from to (pixels t)

-- a set has its own pixels
pub own_whole : (lo hi : ℕ) (t : Placed) → OwnPixels (pixels t) lo hi t
own_whole lo hi t = record { own = λ from to p q r. refl }

module _ (k n : ℕ) {lo hi c : ℕ} {set : List ℕ} {t : Placed} (h : OwnPixels set lo hi (pixel c t)) (ar : Arranged k n lo hi (pixel c t)) where
  own_after_pixel : OwnPixels set (suc c) hi t
  own_after_pixel = record { own = λ from to p q r. h.own from to (omega (arith, ar.0)) q r ∙ number_below from to c (pixels t) (omega arith) }

module _ (k n : ℕ) {lo hi s i c : ℕ} {set : List ℕ} {fs t : Placed} (h : OwnPixels set lo hi (block_at s i c fs t)) (ar : Arranged k n lo hi (block_at s i c fs t)) where
  own_inside : OwnPixels set c (c + 4 ^ i) fs
  own_inside =
      record {
        own = λ from to p q r. h.own from to (omega (arith, ar.0)) q (omega (arith, arranged_le k n (c + 4 ^ i) hi t ar.7))
            ∙ omega (arith, number_join from to (pixels fs) (pixels t), none_above k from to n (c + 4 ^ i) hi t ar.7 (omega arith) r);
      }

  own_after_block : OwnPixels set (c + 4 ^ i) hi t
  own_after_block =
      record {
        own = λ from to p q r. h.own from to (omega (arith, ar.0)) q r
            ∙ omega (arith, number_join from to (pixels fs) (pixels t), none_below k from to i c (c + 4 ^ i) fs ar.6 p);
      }

-- a block with the set's pixels in its square has so many
pub number_is_own : (k i : ℕ) {c hi : ℕ} {set : List ℕ} {es : Placed} → OwnPixels set c hi es → hi ≡ c + 4 ^ i → Arranged k i c (c + 4 ^ i) es → number_in set i c ≡ length (pixels es)
number_is_own k i {c} {hi} {set} {es} h e ar =
    h.own c (c + 4 ^ i) (omega arith) (omega arith) (omega arith) ∙ all_inside k c (c + 4 ^ i) i c (c + 4 ^ i) es ar (omega arith) (omega arith)

-- so its number is right exactly if it is that of its own pixels
module _ (k : ℕ) {i c hi : ℕ} {set part : List ℕ} {es : Placed} (says : SlotSays part i c es) (h : OwnPixels set c hi es) (e : hi ≡ c + 4 ^ i) (ar : Arranged k i c (c + 4 ^ i) es) where
  number_is : number_in set (level_word part) (code_word part) ≡ length (pixels es)
  number_is = ap₂ (number_in set) says.level_is says.code_is ∙ number_is_own k i h e ar

  pub block_number : 1 ≤ i → NumberRight set part → number_word part ≡ length (pixels es)
  block_number one right = right (omega (arith, says.level_is)) ∙ number_is

  pub block_right : number_word part ≡ length (pixels es) → NumberRight set part
  block_right same one = same ∙ sym number_is

-- and so all the way down
module _ (k width : ℕ) (words : List ℕ) where
  pub tree_numbered : {slots lo hi : ℕ} {set : List ℕ} (n : ℕ) (t : Placed) → Numbered width slots words set → OwnPixels set lo hi t → Arranged k n lo hi t → Stands width words t
      → Every (λ s. s < slots) (slots_of t) → TreeNumbers width words t
  tree_numbered n empty numbered h ar st ins = tt
  tree_numbered {lo = lo} {hi = hi} n (pixel c t) numbered h ar st ins = tree_numbered {lo = suc c} {hi = hi} n t numbered (own_after_pixel k n h ar) ar.1 st ins
  tree_numbered {lo = lo} {hi = hi} n (block_at s i c fs t) numbered h ar st ins = (
    block_number k st.1 (own_inside k n h ar) refl ar.6 ar.2 (numbered.each s ins.0),
    tree_numbered {lo = c} {hi = c + 4 ^ i} i fs numbered (own_inside k n h ar) ar.6 st.2 (every_left _ (slots_of fs) (slots_of t) ins.1),
    tree_numbered {lo = c + 4 ^ i} {hi = hi} n t numbered (own_after_block k n h ar) ar.7 st.3 (every_right _ (slots_of fs) (slots_of t) ins.1),
  )

  pub tree_right : {lo hi : ℕ} {set : List ℕ} (n : ℕ) (t : Placed) → OwnPixels set lo hi t → Arranged k n lo hi t → Stands width words t → TreeNumbers width words t
      → Every (λ s. NumberRight set (slot_part width words s)) (slots_of t)
  tree_right n empty h ar st numbers = tt
  tree_right {lo = lo} {hi = hi} n (pixel c t) h ar st numbers = tree_right {lo = suc c} {hi = hi} n t (own_after_pixel k n h ar) ar.1 st numbers
  tree_right {lo = lo} {hi = hi} n (block_at s i c fs t) h ar st numbers = (
    block_right k st.1 (own_inside k n h ar) refl ar.6 numbers.0,
    every_join _ (slots_of fs) (slots_of t) (tree_right {lo = c} {hi = c + 4 ^ i} i fs (own_inside k n h ar) ar.6 st.2 numbers.1)
        (tree_right {lo = c + 4 ^ i} {hi = hi} n t (own_after_block k n h ar) ar.7 st.3 numbers.2),
  )
