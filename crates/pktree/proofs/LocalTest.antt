-- The one-pass test of the local law: one block's elements in ascending order, each looked at once.
use Prim.Native.Nat.{ℕ, zero, suc, ◌+◌, ◌*◌, ◌/◌, ◌%◌, ◌^◌, ◌≤◌, ◌<◌}
use native.Mathlib.Omega.{arith}
use native.Mathlib.Nat.{div-eq_of_lt-le, div-mul-le_self, div-add-mod', mod-one}
use native.Mathlib.Decide.{dec_lt}
use mathlib.Core.Logic.{◌↔◌}
use mathlib.Core.Path.{◌≡◌, refl, ap, subst}
use mathlib.Core.Bool.{Bool, true, false, ◌&&◌}
use mathlib.Core.List.{List, [], ◌∷◌}
use lib.Dec.{ltb, leb, eqb}
use borrow.Author.Tests.{lt-ltb, le-leb, eq-eqb, ltb-true, leb-true, eqb-true, eqb-false}
use Rattle.pktree.specs.Panel.{Aligned}
use Rattle.pktree.specs.Elements.{ForestOf, empty, pixel, block_at, size}
use Rattle.pktree.specs.Entries.{Entry, entry}
use Rattle.pktree.proofs.Counting.{indicator, count_in}
use Rattle.pktree.proofs.Arranged.{Arranged, LocallyRight, count_in_after}
use Rattle.pktree.proofs.Absurd.{zero_is_not_one}

-- level and code of each element, a pixel's level being 0: what one slot shows
abbrev pub heads : {A : Type 0} → ForestOf A → List Entry
heads empty = []
heads (pixel c f) = entry 0 c ∷ heads f
heads (block_at u i c es f) = entry i c ∷ heads f

-- how many were met in this quarter: one more, or the first of another
abbrev pub tally : Bool → ℕ → ℕ
tally true n = suc n
tally false n = 1

-- what is left stands between `from` and `to`; l is the level of the quarters; n elements were met in the quarter numbered q
abbrev pub pass_test : ℕ → ℕ → ℕ → ℕ → ℕ → ℕ → List Entry → Bool
pass_test k l to from q n [] = leb from to
pass_test k l to from q n (e ∷ r) =
    leb from e.code
    && (leb e.level l
    && (eqb (e.code % 4 ^ e.level) 0
    && (ltb (tally (eqb (e.code / 4 ^ l) q) n) k
    && pass_test k l to (e.code + 4 ^ e.level) (e.code / 4 ^ l) (tally (eqb (e.code / 4 ^ l) q) n) r)))

-- the elements of a block of level l + 1 and code c
abbrev pub slot_test : ℕ → ℕ → ℕ → List Entry → Bool
slot_test k l c r = pass_test k l (c + 4 ^ suc l) c (c / 4 ^ l) 0 r

-- every block inside has a level above 0, at least k elements, and elements that pass
abbrev pub inside_test : {A : Type 0} → ℕ → ForestOf A → Bool
inside_test k empty = true
inside_test k (pixel c f) = inside_test k f
inside_test k (block_at u zero c es f) = false
inside_test k (block_at w (suc i) c es f) = leb k (size es) && (slot_test k i c (heads es) && (inside_test k es && inside_test k f))

abbrev pub local_test : {A : Type 0} → ℕ → ℕ → ℕ → ForestOf A → Bool
local_test k l c es = slot_test k l c (heads es) && inside_test k es

pub both : (a b : Bool) → a && b ≡ true → (a ≡ true) × (b ≡ true)
both true b h = (refl, h)
both false b h = zero_is_not_one (cc)

-- one element of a slot passes
pub record Passed (k l to from q n i c : ℕ) (r : List Entry) : Type 0 where
  pub above : from ≤ c
  pub level : i ≤ l
  pub aligned : c % 4 ^ i ≡ 0
  pub count : tally (eqb (c / 4 ^ l) q) n < k
  pub rest : pass_test k l to (c + 4 ^ i) (c / 4 ^ l) (tally (eqb (c / 4 ^ l) q) n) r ≡ true

pub passed : (k l to from q n i c : ℕ) (r : List Entry) → pass_test k l to from q n (entry i c ∷ r) ≡ true → Passed k l to from q n i c r
passed k l to from q n i c r h =
    let m = tally (eqb (c / 4 ^ l) q) n in
    let z = pass_test k l to (c + 4 ^ i) (c / 4 ^ l) m r in
    let e1 = both (leb from c) (leb i l && (eqb (c % 4 ^ i) 0 && (ltb m k && z))) h in
    let e2 = both (leb i l) (eqb (c % 4 ^ i) 0 && (ltb m k && z)) e1.1 in
    let e3 = both (eqb (c % 4 ^ i) 0) (ltb m k && z) e2.1 in
    let e4 = both (ltb m k) z e3.1 in
    record { above = leb-true from c e1.0; level = leb-true i l e2.0; aligned = eqb-true (c % 4 ^ i) 0 e3.0; count = ltb-true m k e4.0; rest = e4.1 }

pub passes : (k l to from q n i c : ℕ) (r : List Entry) → Passed k l to from q n i c r → pass_test k l to from q n (entry i c ∷ r) ≡ true
passes k l to from q n i c r h =
    rw (le-leb from c h.above, le-leb i l h.level, eq-eqb (c % 4 ^ i) 0 h.aligned, lt-ltb (tally (eqb (c / 4 ^ l) q) n) k h.count) h.rest

aligned : (i c : ℕ) → c % 4 ^ i ≡ 0 → Aligned i c
aligned i c e = omega (arith, div-add-mod' c (4 ^ i))

remainder_of_aligned : (i c : ℕ) → Aligned i c → c % 4 ^ i ≡ 0
remainder_of_aligned i c e = omega (arith, div-add-mod' c (4 ^ i))

-- past the quarter q
past : (l q c : ℕ) → q * 4 ^ l ≤ c → (c / 4 ^ l ≡ q → ⊥) → q * 4 ^ l + 4 ^ l ≤ c
past l q c p ne = go (dec_lt c (q * 4 ^ l + 4 ^ l))
  where
    go : Dec (c < q * 4 ^ l + 4 ^ l) → q * 4 ^ l + 4 ^ l ≤ c
    go (yes t) = absurd (ne (div-eq_of_lt-le (4 ^ l) p (omega arith)))
    go (no t) = omega arith

-- n elements were met in the quarter q; h p is how many are left in the quarter p
abbrev TallyBelow : ℕ → ℕ → ℕ → (ℕ → ℕ) → Type 0
TallyBelow k q n h = (n + h q < k) × ((p : ℕ) → h p < k)

count_back : (k r : ℕ) (h : ℕ → ℕ) (p : ℕ) (b : Bool) → eqb r p ≡ b → 1 + h r < k → h p < k → indicator b + h p < k
count_back k r h p true e u v = let e' : r ≡ p = eqb-true r p e in omega (arith, ap h e')
count_back k r h p false e u v = omega arith

count_step : (k q r n : ℕ) (h : ℕ → ℕ) (b : Bool) → eqb r q ≡ b → n < k → ((r ≡ q → ⊥) → h q ≡ 0) → TallyBelow k r (tally b n) h
    → TallyBelow k q n (λ p. indicator (eqb r p) + h p)
count_step k q r n h true e s z w =
    let e' : r ≡ q = eqb-true r q e in
    (rw e (omega (arith, ap h e')), λ p. count_back k r h p (eqb r p) refl (omega arith) (w.1 p))
count_step k q r n h false e s z w =
    (rw e (omega (arith, z (eqb-false r q e))), λ p. count_back k r h p (eqb r p) refl (omega arith) (w.1 p))

count_on : (k q r n : ℕ) (h : ℕ → ℕ) (b : Bool) → eqb r q ≡ b → TallyBelow k q n (λ p. indicator (eqb r p) + h p) → TallyBelow k r (tally b n) h
count_on k q r n h true e w =
    let e' : r ≡ q = eqb-true r q e in
    (omega (arith, rw e at w.0, ap h e'), λ p. omega (arith, w.1 p))
count_on k q r n h false e w = (omega (arith, rw (eq-eqb r r refl) at (w.1 r)), λ p. omega (arith, w.1 p))

sparse_of_pass : {A : Type 0} (k l to from q n : ℕ) (f : ForestOf A) → Arranged k (suc l) from to f → pass_test k l to from q n (heads f) ≡ true → q * 4 ^ l ≤ from → n < k
    → TallyBelow k q n (λ p. count_in l p f)
sparse_of_pass k l to from q n empty w e a s = (omega arith, λ p. omega arith)
sparse_of_pass k l to from q n (pixel c f) w e a s =
    let t = passed k l to from q n 0 c (heads f) e in
    let r = c / 4 ^ l in
    let b = eqb r q in
    let o : c + 4 ^ 0 ≡ suc c = omega arith in
    count_step k q r n (λ p. count_in l p f) b refl s (λ ne. count_in_after k (suc l) l q (suc c) to f w.1 (omega (arith, past l q c (omega arith) ne)))
    (sparse_of_pass k l to (suc c) r (tally b n) f w.1 (subst (λ (m : ℕ). pass_test k l to m r (tally b n) (heads f) ≡ true) o t.rest)
    (omega (arith, div-mul-le_self c (4 ^ l))) t.count)
sparse_of_pass k l to from q n (block_at u i c es f) w e a s =
    let t = passed k l to from q n i c (heads f) e in
    let r = c / 4 ^ l in
    let b = eqb r q in
    count_step k q r n (λ p. count_in l p f) b refl s (λ ne. count_in_after k (suc l) l q (c + 4 ^ i) to f w.7 (omega (arith, past l q c (omega arith) ne)))
    (sparse_of_pass k l to (c + 4 ^ i) r (tally b n) f w.7 t.rest (omega (arith, div-mul-le_self c (4 ^ l))) t.count)

arranged_of_pass : {A : Type 0} (k l to from q n : ℕ) (f : ForestOf A) → 0 < k → pass_test k l to from q n (heads f) ≡ true → inside_test k f ≡ true → Arranged k (suc l) from to f
arranged_of_pass k l to from q n empty h e g = leb-true from to e
arranged_of_pass k l to from q n (pixel c f) h e g =
    let t = passed k l to from q n 0 c (heads f) e in
    let r = c / 4 ^ l in
    let m = tally (eqb r q) n in
    let o : c + 4 ^ 0 ≡ suc c = omega arith in
    (t.above, arranged_of_pass k l to (suc c) r m f h (subst (λ (d : ℕ). pass_test k l to d r m (heads f) ≡ true) o t.rest) g)
arranged_of_pass k l to from q n (block_at u zero c es f) h e g = zero_is_not_one (cc)
arranged_of_pass k l to from q n (block_at w (suc i) c es f) h e g =
    let t = passed k l to from q n (suc i) c (heads f) e in
    let r = c / 4 ^ l in
    let m = tally (eqb r q) n in
    let u = both (leb k (size es)) (slot_test k i c (heads es) && (inside_test k es && inside_test k f)) g in
    let v = both (slot_test k i c (heads es)) (inside_test k es && inside_test k f) u.1 in
    let y = both (inside_test k es) (inside_test k f) v.1 in
    let w : Arranged k (suc i) c (c + 4 ^ suc i) es = arranged_of_pass k i (c + 4 ^ suc i) c (c / 4 ^ i) 0 es h v.0 y.0 in (
      t.above,
      omega (arith, t.level),
      omega arith,
      leb-true k (size es) u.0,
      aligned (suc i) c t.aligned,
      (sparse_of_pass k i (c + 4 ^ suc i) c (c / 4 ^ i) 0 es w v.0 (div-mul-le_self c (4 ^ i)) h).1,
      w,
      arranged_of_pass k l to (c + 4 ^ suc i) r m f h t.rest y.1,
    )

pass_of_arranged : {A : Type 0} (k l to from q n : ℕ) (f : ForestOf A) → Arranged k (suc l) from to f → TallyBelow k q n (λ p. count_in l p f) → pass_test k l to from q n (heads f) ≡ true
pass_of_arranged k l to from q n empty w a = le-leb from to w
pass_of_arranged k l to from q n (pixel c f) w a =
    let r = c / 4 ^ l in
    let m = tally (eqb r q) n in
    let b : TallyBelow k r m (λ p. count_in l p f) = count_on k q r n (λ p. count_in l p f) (eqb r q) refl a in
    let o : suc c ≡ c + 4 ^ 0 = omega arith in
    let e : pass_test k l to (c + 4 ^ 0) r m (heads f) ≡ true = subst (λ (d : ℕ). pass_test k l to d r m (heads f) ≡ true) o (pass_of_arranged k l to (suc c) r m f w.1 b) in
    passes k l to from q n 0 c (heads f) (record { above = w.0; level = omega arith; aligned = mod-one c; count = omega arith; rest = e })
pass_of_arranged k l to from q n (block_at u i c es f) w a =
    let r = c / 4 ^ l in
    let m = tally (eqb r q) n in
    let b : TallyBelow k r m (λ p. count_in l p f) = count_on k q r n (λ p. count_in l p f) (eqb r q) refl a in
    passes k l to from q n i c (heads f)
    (record { above = w.0; level = omega arith; aligned = remainder_of_aligned i c w.4; count = omega arith; rest = pass_of_arranged k l to (c + 4 ^ i) r m f w.7 b })

arranged_inside : {A : Type 0} (k n from to : ℕ) (f : ForestOf A) → Arranged k n from to f → inside_test k f ≡ true
arranged_inside k n from to empty w = refl
arranged_inside k n from to (pixel c f) w = arranged_inside k n (suc c) to f w.1
arranged_inside k n from to (block_at u zero c es f) w = absurd (omega arith)
arranged_inside k n from to (block_at v (suc i) c es f) w =
    let p : slot_test k i c (heads es) ≡ true = pass_of_arranged k i (c + 4 ^ suc i) c (c / 4 ^ i) 0 es w.6 (omega (arith, w.5 (c / 4 ^ i)), w.5) in
    rw (le-leb k (size es) w.3, p, arranged_inside k (suc i) c (c + 4 ^ suc i) es w.6, arranged_inside k n (c + 4 ^ suc i) to f w.7)

pub local_test_exact : {A : Type 0} (k l c : ℕ) (es : ForestOf A) → 0 < k → (local_test k l c es ≡ true) ↔ LocallyRight k (suc l) c es
local_test_exact k l c es h = (to, back)
  where
    to : local_test k l c es ≡ true → LocallyRight k (suc l) c es
    to e =
        let p = both (slot_test k l c (heads es)) (inside_test k es) e in
        let w = arranged_of_pass k l (c + 4 ^ suc l) c (c / 4 ^ l) 0 es h p.0 p.1 in
        record { arranged = w; sparse = (sparse_of_pass k l (c + 4 ^ suc l) c (c / 4 ^ l) 0 es w p.0 (div-mul-le_self c (4 ^ l)) h).1 }

    back : LocallyRight k (suc l) c es → local_test k l c es ≡ true
    back r =
        rw (
          pass_of_arranged k l (c + 4 ^ suc l) c (c / 4 ^ l) 0 es r.arranged (omega (arith, r.sparse (c / 4 ^ l)), r.sparse),
          arranged_inside k (suc l) c (c + 4 ^ suc l) es r.arranged,
        )
