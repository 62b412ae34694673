-- The least of some entries is the same in whatever order they stand, where no two have one key.
use Prim.Native.Nat.{ℕ, ◌+◌, ◌≤◌, ◌<◌}
use native.Mathlib.Omega.{arith}
use mathlib.Core.Path.{◌≡◌, refl, ap₂, sym, ◌∙◌}
use mathlib.Core.Bool.{Bool, true, false, not, ◌||◌, cond, false≢true}
use mathlib.Core.List.{List, [], ◌∷◌}
use lib.Dec.{ltb, leb, eqb}
use borrow.Author.Tests.{ltb-true, ltb-false, leb-true, le-leb, eqb-true, eq-eqb}
use Rattle.pktree.specs.Lists.{Every, total}
use Rattle.frontier.specs.declared.Entry.{Entry}
use Rattle.frontier.specs.Entries.{entry}

-- of e and l the entry of the lowest key, the first of these, and the others
abbrev pub least_of : Entry → List Entry → Entry
least_of e [] = e
least_of e (f ∷ l) = least_of (cond (ltb f.key e.key) f e) l

abbrev pub without_least : Entry → List Entry → List Entry
without_least e [] = []
without_least e (f ∷ l) = cond (ltb f.key e.key) e f ∷ without_least (cond (ltb f.key e.key) f e) l

swapped : (number : Entry → ℕ) (t : Bool) (e f : Entry) → number (cond t f e) + number (cond t e f) ≡ number e + number f
swapped number true e f = omega arith
swapped number false e f = refl

pub least_total : (number : Entry → ℕ) (e : Entry) (l : List Entry) → number (least_of e l) + total number (without_least e l) ≡ number e + total number l
least_total number e [] = refl
least_total number e (f ∷ l) =
    let t : Bool = ltb f.key e.key in
    omega (arith, least_total number (cond t f e) l, swapped number t e f)

-- no two have one key
abbrev pub KeysApart : List Entry → Type 0
KeysApart [] = Unit {0}
KeysApart (e ∷ l) = Every (λ f. e.key ≡ f.key → ⊥) l × KeysApart l

-- none has a lower key than the least, and none but the least has its key
abbrev Above : Entry → Entry → Type 0
Above n e = (n.key ≤ e.key) × (n.key ≡ e.key → e ≡ n)

least_alone : (e : Entry) (l : List Entry) → KeysApart (e ∷ l) → Every (Above (least_of e l)) (e ∷ l)
least_alone e [] h = ((omega arith, λ q. refl), tt)
least_alone e (f ∷ l) h = go (ltb f.key e.key) refl (least_alone f l h.1) (least_alone e l (h.0.1, h.1.1))
  where
    go : (t : Bool) → ltb f.key e.key ≡ t → Every (Above (least_of f l)) (f ∷ l) → Every (Above (least_of e l)) (e ∷ l) → Every (Above (least_of (cond t f e) l)) (e ∷ (f ∷ l))
    go true t below other =
        let lower : f.key < e.key = ltb-true f.key e.key t in
        ((omega (arith, below.0.0), λ q. absurd (omega (arith, q, below.0.0))), below)
    go false t other below =
        let lower : e.key ≤ f.key = ltb-false f.key e.key t in
        (below.0, ((omega (arith, below.0.0), λ q. absurd (h.0.0 (omega (arith, q, below.0.0)))), below.1))

-- 1 where a test fails
abbrev fails : (Entry → Bool) → Entry → ℕ
fails test e = cond (test e) 0 1

none_fails : (test : Entry → Bool) (l : List Entry) → Every (λ e. test e ≡ true) l → total (fails test) l ≡ 0
none_fails test [] h = refl
none_fails test (e ∷ l) h = let one : fails test e ≡ 0 = rw h.0 in omega (arith, one, none_fails test l h.1)

passes : (test : Entry → Bool) (e : Entry) → fails test e ≡ 0 → test e ≡ true
passes test e h = go (test e) refl h
  where
    go : (t : Bool) → test e ≡ t → ◌≡◌ {A = ℕ} (cond t 0 1) 0 → test e ≡ true
    go true q z = q
    go false q z = absurd (omega arith)

all_pass : (test : Entry → Bool) (l : List Entry) → total (fails test) l ≡ 0 → Every (λ e. test e ≡ true) l
all_pass test [] h = tt
all_pass test (e ∷ l) h = (passes test e (omega arith), all_pass test l (omega arith))

every_map : {P Q : Entry → Type 0} (l : List Entry) → ((e : Entry) → P e → Q e) → Every P l → Every Q l
every_map [] f h = tt
every_map (e ∷ l) f h = (f e h.0, every_map l f h.1)

chosen : (P : Entry → Type 0) (e : Entry) (l : List Entry) → Every P (e ∷ l) → P (least_of e l)
chosen P e [] h = h.0
chosen P e (f ∷ l) h = chosen P (cond (ltb f.key e.key) f e) l (one (ltb f.key e.key), h.1.1)
  where
    one : (t : Bool) → P (cond t f e)
    one true = h.1.0
    one false = h.0

-- r was taken out of a queue of the entries e and l, in whatever order, and none of them has a lower key
pub record TakenFrom (e : Entry) (l queue rest : List Entry) (r : Entry) : Type 0 where
  pub apart : KeysApart (e ∷ l)
  pub same : (number : Entry → ℕ) → total number queue ≡ total number (e ∷ l)
  pub taken : (number : Entry → ℕ) → total number queue ≡ number r + total number rest
  pub least : Every (λ f. r.key ≤ f.key) queue

module _ {e : Entry} {l queue rest : List Entry} {r : Entry} (of : TakenFrom e l queue rest r) where
  abbrev n : Entry
  n = least_of e l

  taken_passes : (test : Entry → Bool) → Every (λ f. test f ≡ true) (e ∷ l) → test r ≡ true
  taken_passes test h = passes test r (omega (arith, of.taken (fails test), of.same (fails test), none_fails test (e ∷ l) h))

  key_from : n.key ≤ r.key
  key_from = leb-true n.key r.key (taken_passes (λ f. leb n.key f.key) (every_map (e ∷ l) (λ f a. le-leb n.key f.key a.0) (least_alone e l of.apart)))

  key_to : r.key ≤ n.key
  key_to =
      let test : Entry → Bool = λ f. leb r.key f.key in
      let none : total (fails test) (e ∷ l) ≡ 0 = omega (arith, of.same (fails test), none_fails test queue (every_map queue (λ f a. le-leb r.key f.key a) of.least)) in
      leb-true r.key n.key (chosen (λ f. test f ≡ true) e l (all_pass test (e ∷ l) none))

  -- of the key of the least, the tag is its tag
  tag_test : (f : Entry) → Above n f → (not (eqb n.key f.key) || eqb f.tag n.tag) ≡ true
  tag_test f a = go (eqb n.key f.key) refl
    where
      go : (t : Bool) → eqb n.key f.key ≡ t → (not t || eqb f.tag n.tag) ≡ true
      go true q = let g : f ≡ n = a.1 (eqb-true n.key f.key q) in eq-eqb f.tag n.tag (rw g)
      go false q = refl

  tag_is : r.tag ≡ n.tag
  tag_is = go (eqb n.key r.key) refl (taken_passes (λ f. not (eqb n.key f.key) || eqb f.tag n.tag) (every_map (e ∷ l) tag_test (least_alone e l of.apart)))
    where
      go : (t : Bool) → eqb n.key r.key ≡ t → (not t || eqb r.tag n.tag) ≡ true → r.tag ≡ n.tag
      go true q h = eqb-true r.tag n.tag h
      go false q h = absurd (false≢true (sym q ∙ eq-eqb n.key r.key (omega (arith, key_from, key_to))))

  pub least_taken : r ≡ n
  least_taken = ap₂ entry (omega (arith, key_from, key_to)) tag_is

  pub rest_taken : (number : Entry → ℕ) → total number rest ≡ total number (without_least e l)
  rest_taken number = omega (arith, of.taken number, of.same number, least_total number e l, number_of)
    where
      number_of : number r ≡ number n
      number_of = rw least_taken
