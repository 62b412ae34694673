-- Placed elements joined: what each reading of them says of the two parts; and that each block has one slot.
use Prim.Native.Nat.{ℕ, ◌*◌}
use native.Mathlib.Omega.{arith}
use mathlib.Core.Path.{◌≡◌, refl}
use mathlib.Core.List.{List, ◌++◌, append_assoc}
use lib.ListN.{length, length-append}
use Rattle.pktree.specs.Elements.{◌⧺◌, size, block_at, empty, pixel}
use Rattle.pktree.proofs.Forests.{block_count}
use Rattle.store.specs.Placed.{Placed, slots_of}
use Rattle.store.proofs.Standing.{element_words, Stands}

pub slots_join : (a b : Placed) → slots_of (a ⧺ b) ≡ slots_of a ++ slots_of b
slots_join empty b = refl
slots_join (pixel c a) b = slots_join a b
slots_join (block_at s i c es a) b = rw (slots_join a b, append_assoc (slots_of es) (slots_of a) (slots_of b))

-- each block has one slot
pub slots_are_blocks : (t : Placed) → length (slots_of t) ≡ block_count t
slots_are_blocks empty = refl
slots_are_blocks (pixel c t) = slots_are_blocks t
slots_are_blocks (block_at s i c es t) = omega (arith, length-append (slots_of es) (slots_of t), slots_are_blocks es, slots_are_blocks t)

pub words_join : (a b : Placed) → element_words (a ⧺ b) ≡ element_words a ++ element_words b
words_join empty b = refl
words_join (pixel c a) b = rw (words_join a b)
words_join (block_at s i c es a) b = rw (words_join a b)

pub length_element_words : (a : Placed) → length (element_words a) ≡ 2 * size a
length_element_words empty = refl
length_element_words (pixel c a) = omega (arith, length_element_words a)
length_element_words (block_at s i c es a) = omega (arith, length_element_words a)

pub stands_join : (width : ℕ) (words : List ℕ) (a b : Placed) → Stands width words a → Stands width words b → Stands width words (a ⧺ b)
stands_join width words empty b p q = q
stands_join width words (pixel c a) b p q = stands_join width words a b p q
stands_join width words (block_at s i c es a) b p q = (p.0, p.1, p.2, stands_join width words a b p.3 q)

pub stands_parts : (width : ℕ) (words : List ℕ) (a b : Placed) → Stands width words (a ⧺ b) → Stands width words a × Stands width words b
stands_parts width words empty b h = (tt, h)
stands_parts width words (pixel c a) b h = stands_parts width words a b h
stands_parts width words (block_at s i c es a) b h =
    let r = stands_parts width words a b h.3 in
    ((h.0, h.1, h.2, r.0), r.1)
