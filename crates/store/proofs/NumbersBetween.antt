-- Numbers of codes in a range: by one code more, by joining, and of elements that are arranged before it, after it or in it.
use Prim.Native.Nat.{ℕ, suc, ◌+◌, ◌^◌, ◌≤◌, ◌<◌}
use native.Mathlib.Omega.{arith}
use native.Mathlib.Nat.{zero-add, suc-add}
use mathlib.Core.Path.{◌≡◌, refl, ap, ◌∙◌}
use mathlib.Core.Bool.{Bool, true, false, ◌&&◌, cond}
use mathlib.Core.List.{List, [], ◌∷◌, ◌++◌}
use lib.Dec.{leb, ltb}
use lib.ListN.{length, length-append}
use borrow.Author.Tests.{le-leb, lt-leb, lt-ltb, le-ltb}
use Rattle.pktree.specs.Lists.{select}
use Rattle.pktree.specs.Elements.{ForestOf, empty, pixel, block_at}
use Rattle.pktree.specs.Tree.{pixels}
use Rattle.pktree.proofs.Arranged.{Arranged, arranged_le}
use Rattle.store.specs.Numbers.{number_between}

-- a code in the range counts one, a code beside it nothing
pub number_inside : (from to c : ℕ) (l : List ℕ) → from ≤ c → c < to → number_between from to (c ∷ l) ≡ suc (number_between from to l)
number_inside from to c l p q = rw (le-leb from c p, lt-ltb c to q)

pub number_below : (from to c : ℕ) (l : List ℕ) → c < from → number_between from to (c ∷ l) ≡ number_between from to l
number_below from to c l p = rw (lt-leb from c p)

pub number_above : (from to c : ℕ) (l : List ℕ) → from ≤ c → to ≤ c → number_between from to (c ∷ l) ≡ number_between from to l
number_above from to c l p q = rw (le-leb from c p, le-ltb c to q)

-- joining adds
pub number_join : (from to : ℕ) (a b : List ℕ) → number_between from to (a ++ b) ≡ number_between from to a + number_between from to b
number_join from to [] b = rw zero-add
number_join from to (c ∷ a) b = go (leb from c && ltb c to) (number_join from to a b)
  where
    go : (in-range : Bool) → number_between from to (a ++ b) ≡ number_between from to a + number_between from to b
        → length (cond in-range (c ∷ select (λ u. leb from u && ltb u to) (a ++ b)) (select (λ u. leb from u && ltb u to) (a ++ b)))
        ≡ length (cond in-range (c ∷ select (λ u. leb from u && ltb u to) a) (select (λ u. leb from u && ltb u to) a)) + number_between from to b
    go true e = rw (e, suc-add)
    go false e = e

pub number_few : (from to : ℕ) (l : List ℕ) → number_between from to l ≤ length l
number_few from to [] = omega arith
number_few from to (c ∷ l) = go (leb from c && ltb c to) (number_few from to l)
  where
    go : (in-range : Bool) → number_between from to l ≤ length l
        → length (cond in-range (c ∷ select (λ u. leb from u && ltb u to) l) (select (λ u. leb from u && ltb u to) l)) ≤ length (c ∷ l)
    go true e = omega arith
    go false e = omega arith

-- elements before a range, after it and in it
module _ {A : Type 0} (k from to : ℕ) where
  pub none_below : (n lo hi : ℕ) (f : ForestOf A) → Arranged k n lo hi f → hi ≤ from → number_between from to (pixels f) ≡ 0
  none_below n lo hi empty h p = refl
  none_below n lo hi (pixel c f) h p = number_below from to c (pixels f) (omega (arith, arranged_le k n (suc c) hi f h.1)) ∙ none_below n (suc c) hi f h.1 p
  none_below n lo hi (block_at u i c es f) h p =
      let e = none_below i c (c + 4 ^ i) es h.6 (omega (arith, arranged_le k n (c + 4 ^ i) hi f h.7)) in
      omega (arith, number_join from to (pixels es) (pixels f), none_below n (c + 4 ^ i) hi f h.7 p)

  pub none_above : (n lo hi : ℕ) (f : ForestOf A) → Arranged k n lo hi f → from ≤ lo → to ≤ lo → number_between from to (pixels f) ≡ 0
  none_above n lo hi empty h o p = refl
  none_above n lo hi (pixel c f) h o p = number_above from to c (pixels f) (omega (arith, h.0)) (omega (arith, h.0)) ∙ none_above n (suc c) hi f h.1 (omega (arith, h.0)) (omega (arith, h.0))
  none_above n lo hi (block_at u i c es f) h o p =
      let e = none_above i c (c + 4 ^ i) es h.6 (omega (arith, h.0)) (omega (arith, h.0)) in
      let r = none_above n (c + 4 ^ i) hi f h.7 (omega (arith, h.0)) (omega (arith, h.0)) in
      omega (arith, number_join from to (pixels es) (pixels f))

  pub all_inside : (n lo hi : ℕ) (f : ForestOf A) → Arranged k n lo hi f → from ≤ lo → hi ≤ to → number_between from to (pixels f) ≡ length (pixels f)
  all_inside n lo hi empty h o p = refl
  all_inside n lo hi (pixel c f) h o p =
      number_inside from to c (pixels f) (omega (arith, h.0)) (omega (arith, arranged_le k n (suc c) hi f h.1)) ∙ ap suc (all_inside n (suc c) hi f h.1 (omega (arith, h.0)) p)
  all_inside n lo hi (block_at u i c es f) h o p =
      let e = all_inside i c (c + 4 ^ i) es h.6 (omega (arith, h.0)) (omega (arith, arranged_le k n (c + 4 ^ i) hi f h.7)) in
      let r = all_inside n (c + 4 ^ i) hi f h.7 (omega (arith, h.0)) p in
      omega (arith, number_join from to (pixels es) (pixels f), length-append (pixels es) (pixels f))
