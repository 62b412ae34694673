-- Laws of forests, of the choice that a quarter makes, and the one induction over gather.
use Prim.Native.Nat.{ℕ, zero, suc, ◌+◌, ◌*◌, ◌^◌, ◌≤◌, ◌<◌}
use native.Mathlib.Omega.{arith}
use mathlib.Core.Path.{◌≡◌, refl, ap, subst, sym}
use mathlib.Core.Bool.{Bool, true, false, not, cond}
use mathlib.Core.Logic.{⊎_elim}
use mathlib.Core.List.Memᴰ
use mathlib.Core.List.{◌∷◌, ◌++◌, append_assoc, Memᴰ}
use lib.Dec.{T, ltb, ltb→lt, nltb→le}
use lib.ListN.{length, length-append}
use borrow.Author.Tests.{lt-ltb, le-ltb}
use Rattle.pktree.specs.Elements.{ForestOf, Forest, empty, pixel, block, block_at, ◌⧺◌, size, give, gather}
use Rattle.pktree.specs.Tree.{BlockOf, block_of, blocks, pixels}

pub size_join : {A : Type 0} (f g : ForestOf A) → size (f ⧺ g) ≡ size f + size g
size_join empty g = omega arith
size_join (pixel c f) g = omega (arith, size_join f g)
size_join (block_at u i c es f) g = omega (arith, size_join f g)

-- the number of blocks, by recursion
abbrev pub block_count : {A : Type 0} → ForestOf A → ℕ
block_count empty = 0
block_count (pixel c f) = block_count f
block_count (block_at u i c es f) = suc (block_count es + block_count f)

pub length_blocks : (f : Forest) → length (blocks f) ≡ block_count f
length_blocks empty = refl
length_blocks (pixel c f) = length_blocks f
length_blocks (block_at u i c es f) = omega (arith, length-append (blocks es) (blocks f), length_blocks es, length_blocks f)

pub block_count_join : {A : Type 0} (f g : ForestOf A) → block_count (f ⧺ g) ≡ block_count f + block_count g
block_count_join empty g = omega arith
block_count_join (pixel c f) g = block_count_join f g
block_count_join (block_at u i c es f) g = omega (arith, block_count_join f g)

pub pixels_join : {A : Type 0} (f g : ForestOf A) → pixels (f ⧺ g) ≡ pixels f ++ pixels g
pixels_join empty g = refl
pixels_join (pixel c f) g = rw (pixels_join f g)
pixels_join (block_at u i c es f) g = rw (pixels_join f g) (sym (append_assoc (pixels es) (pixels f) (pixels g)))

pub blocks_join : (f g : Forest) → blocks (f ⧺ g) ≡ blocks f ++ blocks g
blocks_join empty g = refl
blocks_join (pixel c f) g = blocks_join f g
blocks_join (block_at u i c es f) g = rw (blocks_join f g, append_assoc (blocks es) (blocks f) (blocks g))

-- a block of elements of which the first is a block is that one, or inside it, or of those after it
pub block_cases : {b : BlockOf} {goal : Type 0} {i c : ℕ} (es f : Forest) → Memᴰ b (block_of i c es ∷ (blocks es ++ blocks f))
    → (b ≡ block_of i c es → goal) → (Memᴰ b (blocks es) → goal) → (Memᴰ b (blocks f) → goal) → goal
block_cases es f m it inside after = ⊎_elim it (λ t. ⊎_elim inside after (Memᴰ.append_cases (blocks es) t)) (Memᴰ.cases_cons m)

pub join_assoc : {A : Type 0} (f g h : ForestOf A) → (f ⧺ g) ⧺ h ≡ f ⧺ (g ⧺ h)
join_assoc empty g h = refl
join_assoc (pixel c f) g h = ap (pixel c) (join_assoc f g h)
join_assoc (block_at u i c es f) g h = ap (block_at u i c es) (join_assoc f g h)

pub join_empty : {A : Type 0} (f : ForestOf A) → f ⧺ empty ≡ f
join_empty empty = refl
join_empty (pixel c f) = ap (pixel c) (join_empty f)
join_empty (block_at u i c es f) = ap (block_at u i c es) (join_empty f)

-- by cases on a test
pub cond_case : (P : Forest → Type 0) (b : Bool) (f g : Forest) → (T b → P f) → (T (not b) → P g) → P (cond b f g)
cond_case P true f g p q = p tt
cond_case P false f g p q = q tt

pub give_case : (P : Forest → Type 0) (k i c : ℕ) (f : Forest) → (size f < k → P f) → (k ≤ size f → P (block i c f empty)) → P (give k i c f)
give_case P k i c f p q = cond_case P (ltb (size f) k) f (block i c f empty) (λ t. p (ltb→lt (size f) k t)) (λ t. q (nltb→le (size f) k t))

pub give_itself : (k i c : ℕ) (f : Forest) → k ≤ size f → give k i c f ≡ block i c f empty
give_itself k i c f h = rw (le-ltb (size f) k h)

pub give_elements : (k i c : ℕ) (f : Forest) → size f < k → give k i c f ≡ f
give_elements k i c f h = rw (lt-ltb (size f) k h)

-- what holds of a marked or unmarked pixel, of neighbours together, of a larger block and of a block made one element, holds of gather
module _ (marked : ℕ → Bool) (k : ℕ) (Q : ℕ → ℕ → ℕ → Forest → Type 0)
    (leaf : (c : ℕ) → Q 0 c (suc c) (cond (marked c) (pixel c empty) empty))
    (lift : (i a b : ℕ) (f : Forest) → Q i a b f → Q (suc i) a b f)
    (join : (i a b d : ℕ) (f g : Forest) → Q i a b f → Q i b d g → Q i a d (f ⧺ g))
    (pack : (i c : ℕ) → k ≤ size (gather marked k i c) → Q i c (c + 4 ^ i) (gather marked k i c) → Q (suc i) c (c + 4 ^ i) (block i c (gather marked k i c) empty)) where
  given : (i c : ℕ) → Q i c (c + 4 ^ i) (gather marked k i c) → Q (suc i) c (c + 4 ^ i) (give k i c (gather marked k i c))
  given i c h = give_case (Q (suc i) c (c + 4 ^ i)) k i c (gather marked k i c) (λ l. lift i c (c + 4 ^ i) (gather marked k i c) h) (λ l. pack i c l h)

  quarter : (i a b : ℕ) → a + 4 ^ i ≡ b → Q i a (a + 4 ^ i) (gather marked k i a) → Q (suc i) a b (give k i a (gather marked k i a))
  quarter i a b e h = subst (λ (n : ℕ). Q (suc i) a n (give k i a (gather marked k i a))) e (given i a h)

  pub gather_induction : (i c : ℕ) → Q i c (c + 4 ^ i) (gather marked k i c)
  unfolding gather
  gather_induction zero c = subst (λ (n : ℕ). Q 0 c n (gather marked k 0 c)) (omega arith) (leaf c)
  gather_induction (suc i) c =
      join (suc i) c (c + 4 ^ i) (c + 4 ^ suc i) _ _ (given i c (gather_induction i c))
      (join (suc i) (c + 4 ^ i) (c + 2 * 4 ^ i) (c + 4 ^ suc i) _ _
      (quarter i (c + 4 ^ i) (c + 2 * 4 ^ i) (omega arith) (gather_induction i (c + 4 ^ i)))
      (join (suc i) (c + 2 * 4 ^ i) (c + 3 * 4 ^ i) (c + 4 ^ suc i) _ _
      (quarter i (c + 2 * 4 ^ i) (c + 3 * 4 ^ i) (omega arith) (gather_induction i (c + 2 * 4 ^ i)))
      (quarter i (c + 3 * 4 ^ i) (c + 4 ^ suc i) (omega arith) (gather_induction i (c + 3 * 4 ^ i)))))
