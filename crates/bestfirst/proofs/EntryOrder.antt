-- An entry tells its block, and the keys of entries are in the order in which their blocks are opened.
use Prim.Native.Nat.{ℕ, ◌*◌, ◌/◌, ◌%◌, ◌<◌}
use native.Mathlib.Omega.{arith}
use native.Mathlib.Decide.{dec_lt}
use mathlib.Core.Path.{◌≡◌, ap, sym, subst, ◌∙◌}
use mathlib.Core.Bool.{Bool, true, false, cond, false≢true}
use mathlib.Core.List.{List, [], ◌∷◌}
use lib.Dec.{ltb}
use borrow.Author.Tests.{lt-ltb, le-ltb, eq-eqb, ne_eqb}
use Rattle.pktree.specs.Lists.{Every}
use Rattle.pktree.specs.Tree.{BlockOf}
use Rattle.pktree.proofs.Alignment.{aligned_below, pow_pos}
use Rattle.elements.specs.Element.{tag_slot, tag_level}
use Rattle.store.proofs.BlockView.{BlockView}
use Rattle.searching.specs.Search.{distance_to, precedes, block_precedes, next, others}
use Rattle.searching.specs.OpeningOrder.{InOrder}
use Rattle.searching.proofs.Spread.{Apart, apart_codes}
use Rattle.frontier.specs.declared.Entry.{Entry}
use Rattle.meeting.specs.Matching.{key_codes, key_of, EntryOf, Matches}
use Rattle.bestfirst.specs.Turns.{code_in, distance_in}
use Rattle.bestfirst.proofs.LeastEntries.{least_of, without_least, KeysApart}

-- a multiple of 4 below 2 ^ 32
pub record QuarterCode (code : ℕ) : Type 0 where
  pub multiple : code / 4 * 4 ≡ code
  pub below : code / 4 < key_codes

module _ {width slots : ℕ} {words : List ℕ} {place : ℕ} {b : BlockOf} {e : Entry} (is : EntryOf width slots words place b e) where
  quarter_code : QuarterCode b.code
  quarter_code =
      let v = is.view in
      record { multiple = aligned_below 1 b.level b.code v.level_from v.aligned; below = omega (arith, v.ends, pow_pos b.level) }

  slot_told : tag_slot e.tag ≡ is.slot
  slot_told = omega (arith, is.tag_is, is.small)

  pub level_told : tag_level e.tag ≡ b.level
  level_told = omega (arith, is.tag_is, is.small)

  code_told : code_in e ≡ b.code
  code_told = omega (arith, is.key_is, quarter_code.multiple, quarter_code.below)

  pub distance_told : distance_in e ≡ distance_to place b
  distance_told = omega (arith, is.key_is, quarter_code.below)

  pub view_told : BlockView is.k width slots words (tag_slot e.tag) (tag_level e.tag) (code_in e) is.placed
  view_told =
      subst (λ (s : ℕ). BlockView is.k width slots words s (tag_level e.tag) (code_in e) is.placed) (sym slot_told)
      (subst (λ (l : ℕ). BlockView is.k width slots words is.slot l (code_in e) is.placed) (sym level_told)
      (subst (λ (c : ℕ). BlockView is.k width slots words is.slot b.level c is.placed) (sym code_told) is.view))

precedes_nearer : (d c d' c' : ℕ) → d < d' → precedes d c d' c' ≡ true
precedes_nearer d c d' c' h = rw (lt-ltb d d' h)

precedes_farther : (d c d' c' : ℕ) → d' < d → precedes d c d' c' ≡ false
precedes_farther d c d' c' h = rw (le-ltb d d' (omega arith), ne_eqb d d' (omega arith))

precedes_level : (d c d' c' : ℕ) → d ≡ d' → precedes d c d' c' ≡ ltb c c'
precedes_level d c d' c' h = rw (le-ltb d d' (omega arith), eq-eqb d d' h)

key_order : (d c d' c' : ℕ) → QuarterCode c → QuarterCode c' → precedes d c d' c' ≡ ltb (key_of d c) (key_of d' c')
key_order d c d' c' q q' = go (dec_lt d d') (dec_lt d' d) (dec_lt c c')
  where
    go : Dec (d < d') → Dec (d' < d) → Dec (c < c') → precedes d c d' c' ≡ ltb (key_of d c) (key_of d' c')
    go (yes h) g l = precedes_nearer d c d' c' h ∙ sym (lt-ltb (key_of d c) (key_of d' c') (omega (arith, q.below, q'.below)))
    go (no h) (yes g) l = precedes_farther d c d' c' g ∙ sym (le-ltb (key_of d c) (key_of d' c') (omega (arith, q.below, q'.below)))
    go (no h) (no g) (yes l) = precedes_level d c d' c' (omega arith) ∙ lt-ltb c c' l ∙ sym (lt-ltb (key_of d c) (key_of d' c') (omega (arith, q.multiple, q'.multiple)))
    go (no h) (no g) (no l) = precedes_level d c d' c' (omega arith) ∙ le-ltb c c' (omega arith) ∙ sym (le-ltb (key_of d c) (key_of d' c') (omega (arith, q.multiple, q'.multiple)))

module _ (width slots : ℕ) (words : List ℕ) (place : ℕ) where
  abbrev Is : BlockOf → Entry → Type 0
  Is = EntryOf width slots words place

  same_test : (b c : BlockOf) (e f : Entry) → Is b e → Is c f → block_precedes place c b ≡ ltb f.key e.key
  same_test b c e f h g =
      key_order (distance_to place c) c.code (distance_to place b) b.code (quarter_code g) (quarter_code h)
      ∙ ap (λ (n : ℕ). ltb n (key_of (distance_to place b) b.code)) (sym g.key_is) ∙ ap (ltb f.key) (sym h.key_is)

  picked : (t u : Bool) → t ≡ u → (b c : BlockOf) (e f : Entry) → Is b e → Is c f → Is (cond t c b) (cond u f e) × Is (cond t b c) (cond u e f)
  picked true true h b c e f p q = (q, p)
  picked true false h b c e f p q = absurd (false≢true (sym h))
  picked false true h b c e f p q = absurd (false≢true h)
  picked false false h b c e f p q = (p, q)

  -- the least entry is that of the next block, and the others those of the others
  pub matches_next : (b : BlockOf) (l : List BlockOf) (e : Entry) (q : List Entry) → Is b e → Matches width slots words place l q
      → Is (next place b l) (least_of e q) × Matches width slots words place (others place b l) (without_least e q)
  matches_next b [] e [] h m = (h, tt)
  matches_next b [] e (f ∷ q) h m = absurd m
  matches_next b (c ∷ l) e [] h m = absurd m
  matches_next b (c ∷ l) e (f ∷ q) h m =
      let t : Bool = block_precedes place c b in
      let u : Bool = ltb f.key e.key in
      let p = picked t u (same_test b c e f h m.0) b c e f h m.0 in
      let r = matches_next (cond t c b) l (cond u f e) q p.0 m.1 in
      (r.0, (p.1, r.1))

  -- entries of blocks that lie apart have keys of their own
  apart_from : (b : BlockOf) (e : Entry) (l : List BlockOf) (q : List Entry) → Is b e → Matches width slots words place l q → Every (Apart b) l → Every (λ f. e.key ≡ f.key → ⊥) q
  apart_from b e [] [] h m a = tt
  apart_from b e [] (f ∷ q) h m a = absurd m
  apart_from b e (c ∷ l) [] h m a = absurd m
  apart_from b e (c ∷ l) (f ∷ q) h m a =
      (λ k. apart_codes b c a.0 (sym (code_told h) ∙ ap (λ (n : ℕ). n % key_codes * 4) k ∙ code_told m.0), apart_from b e l q h m.1 a.1)

  pub keys_apart : (l : List BlockOf) (q : List Entry) → Matches width slots words place l q → InOrder Apart l → KeysApart q
  keys_apart [] [] m a = tt
  keys_apart [] (e ∷ q) m a = absurd m
  keys_apart (b ∷ l) [] m a = absurd m
  keys_apart (b ∷ l) (e ∷ q) m a = (apart_from b e l q m.0 m.1 a.0, keys_apart l q m.1 a.1)
