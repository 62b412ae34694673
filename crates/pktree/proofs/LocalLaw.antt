-- THE LOCAL LAW: elements that are right block by block are those that 01 gathers from their own pixels, and the other way round.
use Prim.Native.Nat.{ℕ, zero, suc, ◌+◌, ◌*◌, ◌/◌, ◌^◌, ◌≤◌, ◌<◌}
use native.Mathlib.Omega.{arith}
use native.Mathlib.Nat.{eq-or-lt_of_le}
use native.Mathlib.Decide.{dec_lt}
use mathlib.Core.Path.{◌≡◌, refl, ap, ap₂, subst, subst₂, sym, ◌∙◌}
use mathlib.Core.Bool.{Bool, cond, ◌||◌, or-false}
use mathlib.Core.Logic.{◌⊎◌, inl, inr, ◌↔◌}
use mathlib.Core.List.{List, append-nil}
use borrow.Author.Tests.{eq-eqb}
use Rattle.pktree.specs.Panel.{Panel, Aligned}
use Rattle.pktree.specs.PixelSet.{member}
use Rattle.pktree.specs.Elements.{Forest, empty, pixel, block, block_at, ◌⧺◌, size, give, gather}
use Rattle.pktree.specs.Tree.{tree, pixels}
use Rattle.pktree.proofs.Forests.{give_case, cond_case, give_itself, give_elements}
use Rattle.pktree.proofs.Alignment.{pow_pos, aligned_root, aligned_plus, aligned_next, aligned_down, blocks_nest}
use Rattle.pktree.proofs.Counting.{count_in, Sparse, count_in_join, sparse_of_small}
use Rattle.pktree.proofs.Arranged.{quarter_level, Arranged, LocallyRight, arranged_le, arranged_lift, arranged_join, size_in_range, count_in_all, sparse_join, member_join, member_after, member_before}

-- the set M is that of the pixels of f, from from to to
abbrev pub MarkedAs : (ℕ → Bool) → Forest → ℕ → ℕ → Type 0
MarkedAs M f from to = (x : ℕ) → from ≤ x → x < to → M x ≡ member (pixels f) x

-- part of the elements of a block of level l + 1
pub record PartOf (M : ℕ → Bool) (k l from to : ℕ) (f : Forest) : Type 0 where
  pub arranged : Arranged k (suc l) from to f
  pub sparse : Sparse k l f
  pub marks : MarkedAs M f from to

pub record Cut (k n from d to : ℕ) (f : Forest) : Type 0 where
  pub left : Forest
  pub right : Forest
  pub eq : f ≡ left ⧺ right
  pub low : Arranged k n from d left
  pub high : Arranged k n d to right

-- a cut at a multiple of 4 ^ l goes through no block of a level up to l
pub cut : (k n l from d to : ℕ) (f : Forest) → n ≤ suc l → Aligned l d → from ≤ d → d ≤ to → Arranged k n from to f → Cut k n from d to f
cut k n l from d to empty u a p q h = record { left = empty; right = empty; eq = refl; low = p; high = q }
cut k n l from d to (pixel c f) u a p q h = go (dec_lt c d) (λ t. cut k n l (suc c) d to f u a t q h.1)
  where
    go : Dec (c < d) → (c < d → Cut k n (suc c) d to f) → Cut k n from d to (pixel c f)
    go (yes t) r =
        let s = r t in
        record { left = pixel c s.left; right = s.right; eq = ap (pixel c) s.eq; low = (h.0, s.low); high = s.high }
    go (no t) r = record { left = empty; right = pixel c f; eq = refl; low = p; high = (omega arith, h.1) }
cut k n l from d to (block_at w i c es f) u a p q h =
    go (dec_lt c d) (λ t. cut k n l (c + 4 ^ i) d to f u a (blocks_nest i l c d (omega arith) h.4 a t) q h.7)
  where
    go : Dec (c < d) → (c < d → Cut k n (c + 4 ^ i) d to f) → Cut k n from d to (block i c es f)
    go (yes t) r =
        let s = r t in
        record { left = block i c es s.left; right = s.right; eq = ap (block i c es) s.eq; low = (h.0, h.1, h.2, h.3, h.4, h.5, h.6, s.low); high = s.high }
    go (no t) r = record { left = empty; right = block i c es f; eq = refl; low = p; high = (omega arith, h.1, h.2, h.3, h.4, h.5, h.6, h.7) }

pub record CutPart (M : ℕ → Bool) (k l from d to : ℕ) (f : Forest) : Type 0 where
  pub left : Forest
  pub right : Forest
  pub eq : f ≡ left ⧺ right
  pub low : PartOf M k l from d left
  pub high : PartOf M k l d to right

cut_part : (M : ℕ → Bool) (k l from d to : ℕ) (f : Forest) → Aligned l d → from ≤ d → d ≤ to → PartOf M k l from to f → CutPart M k l from d to f
cut_part M k l from d to f a p q h =
    let s = cut k (suc l) l from d to f (omega arith) a p q h.arranged in
    let e : (x : ℕ) → member (pixels f) x ≡ (member (pixels s.left) x || member (pixels s.right) x) =
    λ x. ap (λ (g : Forest). member (pixels g) x) s.eq ∙ member_join s.left s.right x in
    let n : (y : ℕ) → count_in l y f ≡ count_in l y s.left + count_in l y s.right =
    λ y. ap (count_in l y) s.eq ∙ count_in_join l y s.left s.right in
    record {
      left = s.left;
      right = s.right;
      eq = s.eq;
      low = record {
        arranged = s.low;
        sparse = λ y. omega (arith, n y, h.sparse y);
        marks = λ x u v. h.marks x u (omega arith) ∙ e x ∙ rw (member_after k (suc l) d to s.right x s.high v) (or-false _);
      };
      high = record {
        arranged = s.high;
        sparse = λ y. omega (arith, n y, h.sparse y);
        marks = λ x u v. h.marks x (omega arith) v ∙ e x ∙ rw (member_before k (suc l) from d s.left x s.low u);
      };
    }

pub none_left : (k n a : ℕ) (f : Forest) → Arranged k n a a f → f ≡ empty
none_left k n a empty h = refl
none_left k n a (pixel c f) h = absurd (omega (arith, arranged_le k n (suc c) a f h.1))
none_left k n a (block_at u i c es f) h = absurd (omega (arith, pow_pos i, arranged_le k n (c + 4 ^ i) a f h.7))

-- a quarter that is one block of its own size
pub record Whole (k l d : ℕ) (f : Forest) : Type 0 where
  pub es : Forest
  pub eq : f ≡ block l d es empty
  pub many : k ≤ size es
  pub right : LocallyRight k l d es

-- the elements of a block of level l are of lower levels, or they are that block itself
lower_or_whole : (k l d from : ℕ) (f : Forest) → d ≤ from → Arranged k (suc l) from (d + 4 ^ l) f → Arranged k l from (d + 4 ^ l) f ⊎ ((from ≡ d) × Whole k l d f)
lower_or_whole k l d from empty p h = inl h
lower_or_whole k l d from (pixel c f) p h = go (lower_or_whole k l d (suc c) f (omega arith) h.1)
  where
    go : Arranged k l (suc c) (d + 4 ^ l) f ⊎ ((suc c ≡ d) × Whole k l d f) → Arranged k l from (d + 4 ^ l) (pixel c f) ⊎ ((from ≡ d) × Whole k l d (pixel c f))
    go (inl w) = inl (h.0, w)
    go (inr w) = absurd (omega arith)
lower_or_whole k l d from (block_at u i c es f) p h = go (eq-or-lt_of_le h.1) (lower_or_whole k l d (c + 4 ^ i) f (omega arith) h.7)
  where
    go : (suc i ≡ suc l) ⊎ (suc i < suc l) → Arranged k l (c + 4 ^ i) (d + 4 ^ l) f ⊎ ((c + 4 ^ i ≡ d) × Whole k l d f)
        → Arranged k l from (d + 4 ^ l) (block i c es f) ⊎ ((from ≡ d) × Whole k l d (block i c es f))
    go (inl e) r =
        let e' : i ≡ l = omega arith in
        let w = arranged_le k (suc l) (c + 4 ^ i) (d + 4 ^ l) f h.7 in
        let e'' : 4 ^ i ≡ 4 ^ l = ap (λ (n : ℕ). 4 ^ n) e' in
        let e''' : c ≡ d = omega arith in
        let z : f ≡ empty = none_left k (suc l) (d + 4 ^ l) f (subst (λ (a : ℕ). Arranged k (suc l) a (d + 4 ^ l) f) (ap₂ ◌+◌ e''' e'') h.7) in
        inr (
          omega arith,
          record {
            es = es;
            eq = cc;
            many = h.3;
            right = record {
              arranged = subst₂ (λ (j b : ℕ). Arranged k j b (b + 4 ^ j) es) e' e''' h.6;
              sparse = subst (λ (j : ℕ). Sparse k (quarter_level j) es) e' h.5;
            };
          },
        )
    go (inr t) (inl w) = inl (h.0, omega arith, h.2, h.3, h.4, h.5, h.6, w)
    go (inr t) (inr w) = absurd (omega (arith, pow_pos i))

quarter : (M : ℕ → Bool) (k l d e : ℕ) (f : Forest) → e ≡ d + 4 ^ l → Aligned l d → PartOf M k l d e f
    → ((es : Forest) → LocallyRight k l d es → MarkedAs M es d (d + 4 ^ l) → es ≡ gather M k l d) → f ≡ give k l d (gather M k l d)
quarter M k l d e f q a p ih = go (lower_or_whole k l d d f (omega arith) w)
  where
    w : Arranged k (suc l) d (d + 4 ^ l) f
    w = subst (λ (b : ℕ). Arranged k (suc l) d b f) q p.arranged

    o : MarkedAs M f d (d + 4 ^ l)
    o = subst (λ (b : ℕ). MarkedAs M f d b) q p.marks

    n : size f < k
    n = omega (arith, count_in_all k (suc l) l (d / 4 ^ l) d (d + 4 ^ l) f w (omega arith) (omega arith), p.sparse (d / 4 ^ l))

    go : Arranged k l d (d + 4 ^ l) f ⊎ ((d ≡ d) × Whole k l d f) → f ≡ give k l d (gather M k l d)
    go (inl v) =
        let g : f ≡ gather M k l d = ih f (record { arranged = v; sparse = sparse_of_small k (quarter_level l) f n }) o in
        g ∙ sym (give_elements k l d (gather M k l d) (subst (λ (h : Forest). size h < k) g n))
    go (inr v) =
        let t = v.1 in
        let g : t.es ≡ gather M k l d = ih t.es t.right (λ x y z. o x y z ∙ ap (λ (h : Forest). member (pixels h) x) t.eq ∙ ap (λ (m : List ℕ). member m x) (append-nil (pixels t.es))) in
        t.eq ∙ ap (λ (h : Forest). block l d h empty) g ∙ sym (give_itself k l d (gather M k l d) (subst (λ (h : Forest). k ≤ size h) g t.many))

leaf_local_determined : (M : ℕ → Bool) (k c : ℕ) (es : Forest) → Arranged k 0 c (c + 4 ^ 0) es → MarkedAs M es c (c + 4 ^ 0) → es ≡ cond (M c) (pixel c empty) empty
leaf_local_determined M k c empty h o = rw (o c (omega arith) (omega arith))
leaf_local_determined M k c (pixel d f) h o =
    let e : d ≡ c = omega (arith, arranged_le k 0 (suc d) (c + 4 ^ 0) f h.1) in
    let z : f ≡ empty = none_left k 0 (c + 4 ^ 0) f (subst (λ (a : ℕ). Arranged k 0 a (c + 4 ^ 0) f) (omega arith) h.1) in
    rw (o c (omega arith) (omega arith), eq-eqb d c e) (ap₂ pixel e z)
leaf_local_determined M k c (block_at u i d fs f) h o = absurd (omega arith)

four : {f a0 r1 a1 r2 a2 a3 b0 b1 b2 b3 : Forest} → f ≡ a0 ⧺ r1 → r1 ≡ a1 ⧺ r2 → r2 ≡ a2 ⧺ a3 → a0 ≡ b0 → a1 ≡ b1 → a2 ≡ b2 → a3 ≡ b3
    → f ≡ b0 ⧺ (b1 ⧺ (b2 ⧺ b3))
four p q r e0 e1 e2 e3 = cc

local_determined : (M : ℕ → Bool) (k L c : ℕ) (es : Forest) → Aligned L c → LocallyRight k L c es → MarkedAs M es c (c + 4 ^ L) → es ≡ gather M k L c
unfolding gather
local_determined M k zero c es a h o = leaf_local_determined M k c es h.arranged o
local_determined M k (suc l) c es a h o =
    let a0 : Aligned l c = aligned_down l c a in
    let a1 : Aligned l (c + 4 ^ l) = aligned_next l c a0 in
    let a2 : Aligned l (c + 2 * 4 ^ l) = aligned_plus l c 2 a0 in
    let a3 : Aligned l (c + 3 * 4 ^ l) = aligned_plus l c 3 a0 in
    let s1 = cut_part M k l c (c + 4 ^ l) (c + 4 ^ suc l) es a1 (omega arith) (omega arith) (record { arranged = h.arranged; sparse = h.sparse; marks = o }) in
    let s2 = cut_part M k l (c + 4 ^ l) (c + 2 * 4 ^ l) (c + 4 ^ suc l) s1.right a2 (omega arith) (omega arith) s1.high in
    let s3 = cut_part M k l (c + 2 * 4 ^ l) (c + 3 * 4 ^ l) (c + 4 ^ suc l) s2.right a3 (omega arith) (omega arith) s2.high in
    let q0 = quarter M k l c (c + 4 ^ l) s1.left refl a0 s1.low (λ fs u v. local_determined M k l c fs a0 u v) in
    let q1 = quarter M k l (c + 4 ^ l) (c + 2 * 4 ^ l) s2.left (omega arith) a1 s2.low (λ fs u v. local_determined M k l (c + 4 ^ l) fs a1 u v) in
    let q2 = quarter M k l (c + 2 * 4 ^ l) (c + 3 * 4 ^ l) s3.left (omega arith) a2 s3.low (λ fs u v. local_determined M k l (c + 2 * 4 ^ l) fs a2 u v) in
    let q3 = quarter M k l (c + 3 * 4 ^ l) (c + 4 ^ suc l) s3.right (omega arith) a3 s3.high (λ fs u v. local_determined M k l (c + 3 * 4 ^ l) fs a3 u v) in
    four s1.eq s2.eq s3.eq q0 q1 q2 q3

pub local_is_gather : (k L c : ℕ) (es : Forest) → Aligned L c → LocallyRight k L c es → es ≡ gather (member (pixels es)) k L c
local_is_gather k L c es a h = local_determined (member (pixels es)) k L c es a h (λ x p q. refl)

-- fewer than k elements, up to a whole quarter among them, are what the quarter of their own pixels gives
pub few_are_given : (k l d : ℕ) (f : Forest) → Aligned l d → Arranged k (suc l) d (d + 4 ^ l) f → size f < k → f ≡ give k l d (gather (member (pixels f)) k l d)
few_are_given k l d f a h few =
    quarter (member (pixels f)) k l d (d + 4 ^ l) f refl a (record { arranged = h; sparse = sparse_of_small k l f few; marks = λ x p q. refl })
    (λ es u v. local_determined (member (pixels f)) k l d es a u v)

local_is_tree : (panel : Panel) (es : Forest) → LocallyRight panel.k panel.order 0 es → block panel.order 0 es empty ≡ tree panel (member (pixels es))
local_is_tree panel es h = ap (λ (f : Forest). block panel.order 0 f empty) (local_is_gather panel.k panel.order 0 es (aligned_root panel.order) h)

-- the other way: only a block above the pixels has k elements
level_of_many : (k l c : ℕ) (es : Forest) → 2 ≤ k → LocallyRight k l c es → k ≤ size es → 1 ≤ l
level_of_many k zero c es h r p = absurd (omega (arith, size_in_range k 0 c (c + 4 ^ 0) es r.arranged))
level_of_many k (suc l) c es h r p = omega arith

-- elements of a block of level l + 1, between from and to
pub record Row (k l from to : ℕ) (f : Forest) : Type 0 where
  pub arranged : Arranged k (suc l) from to f
  pub sparse : Sparse k l f

pub row_join : (k l from d to : ℕ) {f g : Forest} → Aligned l d → Row k l from d f → Row k l d to g → Row k l from to (f ⧺ g)
row_join k l from d to {f} {g} a u v =
    record {
      arranged = arranged_join k (suc l) from d to f g u.arranged v.arranged;
      sparse = sparse_join k (suc l) l from d to f g a u.arranged v.arranged u.sparse v.sparse;
    }

-- what a quarter with right elements gives
pub given_row : (k l d e : ℕ) (es : Forest) → 2 ≤ k → e ≡ d + 4 ^ l → Aligned l d → LocallyRight k l d es → Row k l d e (give k l d es)
given_row k l d e es h q a r =
    give_case (Row k l d e) k l d es
    (λ p. record {
      arranged = rw q (arranged_lift k l (suc l) d (d + 4 ^ l) es (omega arith) r.arranged);
      sparse = sparse_of_small k l es p;
    })
    (λ p. record {
      arranged = (omega arith, omega arith, level_of_many k l d es h r p, p, a, r.sparse, r.arranged, omega arith);
      sparse = sparse_of_small k l (block l d es empty) (omega arith);
    })

pub gather_is_local : (M : ℕ → Bool) (k L c : ℕ) → 2 ≤ k → Aligned L c → LocallyRight k L c (gather M k L c)
unfolding gather
gather_is_local M k zero c h a =
    record {
      arranged = cond_case (Arranged k 0 c (c + 4 ^ 0)) (M c) (pixel c empty) empty (λ t. (omega arith, omega arith)) (λ t. omega arith);
      sparse = sparse_of_small k 0 (cond (M c) (pixel c empty) empty) (cond_case (λ (f : Forest). size f < k) (M c) (pixel c empty) empty (λ t. omega arith) (λ t. omega arith));
    }
gather_is_local M k (suc l) c h a =
    let a0 : Aligned l c = aligned_down l c a in
    let a1 : Aligned l (c + 4 ^ l) = aligned_next l c a0 in
    let a2 : Aligned l (c + 2 * 4 ^ l) = aligned_plus l c 2 a0 in
    let a3 : Aligned l (c + 3 * 4 ^ l) = aligned_plus l c 3 a0 in
    let g0 = given_row k l c (c + 4 ^ l) _ h refl a0 (gather_is_local M k l c h a0) in
    let g1 = given_row k l (c + 4 ^ l) (c + 2 * 4 ^ l) _ h (omega arith) a1 (gather_is_local M k l (c + 4 ^ l) h a1) in
    let g2 = given_row k l (c + 2 * 4 ^ l) (c + 3 * 4 ^ l) _ h (omega arith) a2 (gather_is_local M k l (c + 2 * 4 ^ l) h a2) in
    let g3 = given_row k l (c + 3 * 4 ^ l) (c + 4 ^ suc l) _ h (omega arith) a3 (gather_is_local M k l (c + 3 * 4 ^ l) h a3) in
    let r = row_join k l c (c + 4 ^ l) (c + 4 ^ suc l) a1 g0 (row_join k l (c + 4 ^ l) (c + 2 * 4 ^ l) (c + 4 ^ suc l) a2 g1
    (row_join k l (c + 2 * 4 ^ l) (c + 3 * 4 ^ l) (c + 4 ^ suc l) a3 g2 g3)) in
    record { arranged = r.arranged; sparse = r.sparse }

-- a forest is the tree of its own pixels exactly when it is the root with elements that are right
pub tree_exactly_local : (panel : Panel) (f : Forest) → 2 ≤ panel.k
    → (f ≡ tree panel (member (pixels f))) ↔ ((es : Forest) × (f ≡ block panel.order 0 es empty) × LocallyRight panel.k panel.order 0 es)
tree_exactly_local panel f h = (to, back)
  where
    to : f ≡ tree panel (member (pixels f)) → (es : Forest) × (f ≡ block panel.order 0 es empty) × LocallyRight panel.k panel.order 0 es
    to e = (gather (member (pixels f)) panel.k panel.order 0, e, gather_is_local (member (pixels f)) panel.k panel.order 0 h (aligned_root panel.order))

    back : (es : Forest) × (f ≡ block panel.order 0 es empty) × LocallyRight panel.k panel.order 0 es → f ≡ tree panel (member (pixels f))
    back (es, e, r) =
        let p : pixels f ≡ pixels es = ap pixels e ∙ append-nil (pixels es) in
        e ∙ local_is_tree panel es r ∙ ap (λ (l : List ℕ). tree panel (member l)) (sym p)
