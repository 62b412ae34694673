-- What holds of every element of a list, of its elements that pass a test, and of its pairs.
use Prim.Native.Nat.{ℕ, ◌+◌, ◌≤◌}
use native.Mathlib.Omega.{arith}
use mathlib.Core.Path.{◌≡◌, refl, sym, ◌∙◌}
use mathlib.Core.Bool.{Bool, true, false, ◌||◌, cond, false≢true}
use mathlib.Core.List.{List, [], ◌∷◌, ◌++◌, Memᴰ}
use lib.Dec.{eqb}
use borrow.Author.Tests.{eqb-true, eq-eqb}
use Rattle.pktree.specs.Lists.{Every, select, total}
use Rattle.pktree.specs.PixelSet.{member}
use Rattle.pktree.specs.Tree.{BlockOf}
use Rattle.pktree.proofs.Absurd.{false_unless}
use Rattle.pktree.proofs.EntryOrder.{every_join}
use Rattle.searching.specs.OpeningOrder.{InOrder}

pub every_map : {A : Type 0} (P Q : A → Type 0) (l : List A) → ((a : A) → P a → Q a) → Every P l → Every Q l
every_map P Q [] f h = tt
every_map P Q (a ∷ l) f h = (f a h.0, every_map P Q l f h.1)

pub every_both : {A : Type 0} (P Q : A → Type 0) (l : List A) → Every P l → Every Q l → Every (λ a. P a × Q a) l
every_both P Q [] h g = tt
every_both P Q (a ∷ l) h g = ((h.0, g.0), every_both P Q l h.1 g.1)

pub every_left : {A : Type 0} (P : A → Type 0) (l r : List A) → Every P (l ++ r) → Every P l
every_left P [] r h = tt
every_left P (a ∷ l) r h = (h.0, every_left P l r h.1)

pub every_right : {A : Type 0} (P : A → Type 0) (l r : List A) → Every P (l ++ r) → Every P r
every_right P [] r h = h
every_right P (a ∷ l) r h = every_right P l r h.1

pub every_of_all : {A : Type 0} (P : A → Type 0) (l : List A) → ((a : A) → Memᴰ a l → P a) → Every P l
every_of_all P [] f = tt
every_of_all P (a ∷ l) f = (f a (Memᴰ.head refl), every_of_all P l (λ x m. f x (Memᴰ.tail m)))

-- of what passes one test, what passes a narrower one
pub select_narrow : {A : Type 0} (wide narrow : A → Bool) → ((a : A) → narrow a ≡ true → wide a ≡ true) → (l : List A) → select narrow (select wide l) ≡ select narrow l
select_narrow wide narrow h [] = refl
select_narrow wide narrow h (a ∷ l) = go (wide a) refl (select_narrow wide narrow h l)
  where
    go : (t : Bool) → wide a ≡ t → select narrow (select wide l) ≡ select narrow l
        → select narrow (cond t (a ∷ select wide l) (select wide l)) ≡ cond (narrow a) (a ∷ select narrow l) (select narrow l)
    go true e ih = rw ih
    go false e ih = rw (false_unless (narrow a) (λ n. false≢true (sym e ∙ h a n))) ih

pub total_select : {A : Type 0} (number : A → ℕ) (test : A → Bool) (l : List A) → total number (select test l) ≤ total number l
total_select number test [] = omega arith
total_select number test (a ∷ l) = go (test a) (total_select number test l)
  where
    go : (t : Bool) → total number (select test l) ≤ total number l → total number (cond t (a ∷ select test l) (select test l)) ≤ number a + total number l
    go true ih = omega arith
    go false ih = omega arith

-- what holds of all holds where only those of the first list that pass a test are left
pub every_select : {A : Type 0} (P : A → Type 0) (test : A → Bool) (l r : List A) → Every P (l ++ r) → Every P (select test l ++ r)
every_select P test [] r h = h
every_select P test (a ∷ l) r h = go (test a) (every_select P test l r h.1)
  where
    go : (t : Bool) → Every P (select test l ++ r) → Every P (cond t (a ∷ select test l) (select test l) ++ r)
    go true ih = (h.0, ih)
    go false ih = ih

-- the same of pairs
pub in_order_select : (R : BlockOf → BlockOf → Type 0) (test : BlockOf → Bool) (l r : List BlockOf) → InOrder R (l ++ r) → InOrder R (select test l ++ r)
in_order_select R test [] r h = h
in_order_select R test (a ∷ l) r h = go (test a) (in_order_select R test l r h.1)
  where
    go : (t : Bool) → InOrder R (select test l ++ r) → InOrder R (cond t (a ∷ select test l) (select test l) ++ r)
    go true ih = (every_select (R a) test l r h.0, ih)
    go false ih = ih

pub in_order_join : (R : BlockOf → BlockOf → Type 0) (l r : List BlockOf) → InOrder R l → InOrder R r → Every (λ a. Every (R a) r) l → InOrder R (l ++ r)
in_order_join R [] r h g u = g
in_order_join R (a ∷ l) r h g u = (every_join (R a) l r h.0 u.0, in_order_join R l r h.1 g u.1)

-- a list of pixels and its members
pub of_member : (P : ℕ → Type 0) (l : List ℕ) (x : ℕ) → Every P l → member l x ≡ true → P x
of_member P [] x h e = absurd (false≢true e)
of_member P (c ∷ l) x h e = go (eqb c x) refl (of_member P l x h.1) e
  where
    go : (t : Bool) → eqb c x ≡ t → (member l x ≡ true → P x) → (t || member l x) ≡ true → P x
    go true t ih e = let q : c ≡ x = eqb-true c x t in rw q at h.0
    go false t ih e = ih e

pub members : (l : List ℕ) → Every (λ x. member l x ≡ true) l
members [] = tt
members (c ∷ l) = (rw (eq-eqb c c refl), every_map (λ x. member l x ≡ true) (λ x. member (c ∷ l) x ≡ true) l (λ x e. later (eqb c x) (member l x) e) (members l))
  where
    later : (a b : Bool) → b ≡ true → (a || b) ≡ true
    later true b e = refl
    later false b e = e
