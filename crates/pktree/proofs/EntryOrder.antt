-- The entries of a tree ascend by code, at equal code the higher level first; those of level 0 are the pixels.
use Prim.Native.Nat.{ℕ, suc, ◌+◌, ◌^◌, ◌≤◌, ◌<◌}
use native.Mathlib.Omega.{arith}
use mathlib.Core.Path.{◌≡◌, refl, ap, ap₂, ◌∙◌}
use mathlib.Core.Bool.{Bool, true, false, cond}
use mathlib.Core.List.{List, [], ◌∷◌, ◌++◌, append_assoc}
use lib.Dec.{eqb}
use lib.ListN.{length, length-append}
use borrow.Author.Tests.{ne_eqb}
use Rattle.pktree.specs.Lists.{Every}
use Rattle.pktree.specs.Panel.{Panel, Valid}
use Rattle.pktree.specs.Elements.{Forest, empty, pixel, block_at, ◌⧺◌, gather}
use Rattle.pktree.specs.Tree.{tree, blocks, pixels}
use Rattle.pktree.specs.Entries.{Entry, entry, entries, pixel_entries}
use Rattle.pktree.proofs.Alignment.{pow_pos, aligned_root}
use Rattle.pktree.proofs.Arranged.{Arranged, arranged_le}
use Rattle.pktree.proofs.LocalLaw.{gather_is_local}

-- each entry follows the one before it, the first one that of level j and code d: at a higher code, or at the same and a lower level
abbrev pub InOrder : ℕ → ℕ → List Entry → Type 0
InOrder j d [] = Unit {0}
InOrder j d (e ∷ l) = (d ≤ e.code) × (e.code ≤ d → e.level < j) × InOrder e.level e.code l

in_order : (k n from to : ℕ) (f : Forest) (j d : ℕ) (rest : List Entry) → Arranged k n from to f → d ≤ from → d < to → (from ≤ d → (n ≤ j) × (1 ≤ j))
    → ((j' d' : ℕ) → d' < to → InOrder j' d' rest) → InOrder j d (entries f ++ rest)
in_order k n from to empty j d rest g p q t r = r j d q
in_order k n from to (pixel c f) j d rest g p q t r = (
  omega arith,
  (λ h. (t (omega arith)).1),
  in_order k n (suc c) to f 0 c rest g.1 (omega arith) (arranged_le k n (suc c) to f g.1) (λ h. absurd (omega arith)) r,
)
in_order k n from to (block_at u i c es f) j d rest g p q t r =
    let it_first : InOrder j d (entry i c ∷ ((entries es ++ entries f) ++ rest)) = (
      omega arith,
      (λ h. let u = t (omega arith) in omega arith),
      rw (append_assoc (entries es) (entries f) rest)
          (in_order k i c (c + 4 ^ i) es i c (entries f ++ rest) g.6 (omega arith) (omega (arith, pow_pos i)) (λ h. (omega arith, g.2))
          (λ j' d' h. in_order k n (c + 4 ^ i) to f j' d' rest g.7 (omega arith) (omega (arith, arranged_le k n (c + 4 ^ i) to f g.7)) (λ v. absurd (omega arith)) r)),
    ) in
    it_first

module _ (panel : Panel) (M : ℕ → Bool) (valid : Valid panel) where
  elements_arranged : Arranged panel.k panel.order 0 (0 + 4 ^ panel.order) (gather M panel.k panel.order 0)
  elements_arranged = (gather_is_local M panel.k panel.order 0 valid.k_from (aligned_root panel.order)).arranged

  pub entries_in_order : InOrder (suc panel.order) 0 (entries (tree panel M))
  entries_in_order = (
    omega arith,
    (λ p. omega arith),
    in_order panel.k panel.order 0 (0 + 4 ^ panel.order) (gather M panel.k panel.order 0) panel.order 0 [] elements_arranged
        (omega arith) (omega (arith, pow_pos panel.order)) (λ p. (omega arith, valid.order_from)) (λ j d p. tt),
  )

kept_join : (b : Bool) (c : ℕ) (l r : List ℕ) → cond b (c ∷ (l ++ r)) (l ++ r) ≡ cond b (c ∷ l) l ++ r
kept_join true c l r = refl
kept_join false c l r = refl

-- each block comes before what is inside it, so joined elements have their entries joined
pub entries_join : (f g : Forest) → entries (f ⧺ g) ≡ entries f ++ entries g
entries_join empty g = refl
entries_join (pixel c f) g = rw (entries_join f g)
entries_join (block_at u i c es f) g = rw (entries_join f g, append_assoc (entries es) (entries f) (entries g))

pub pixel_entries_join : (a b : List Entry) → pixel_entries (a ++ b) ≡ pixel_entries a ++ pixel_entries b
pixel_entries_join [] b = refl
pixel_entries_join (e ∷ a) b =
    ap (λ (l : List ℕ). cond (eqb e.level 0) (e.code ∷ l) l) (pixel_entries_join a b)
    ∙ kept_join (eqb e.level 0) e.code (pixel_entries a) (pixel_entries b)

pixel_entries_arranged : (k n from to : ℕ) (f : Forest) → Arranged k n from to f → pixel_entries (entries f) ≡ pixels f
pixel_entries_arranged k n from to empty g = refl
pixel_entries_arranged k n from to (pixel c f) g = ap (λ (l : List ℕ). c ∷ l) (pixel_entries_arranged k n (suc c) to f g.1)
pixel_entries_arranged k n from to (block_at u i c es f) g =
    rw (ne_eqb i 0 (omega arith))
    (pixel_entries_join (entries es) (entries f)
    ∙ ap₂ ◌++◌ (pixel_entries_arranged k i c (c + 4 ^ i) es g.6) (pixel_entries_arranged k n (c + 4 ^ i) to f g.7))

pub pixel_entries_of_tree : (panel : Panel) (M : ℕ → Bool) → Valid panel → pixel_entries (entries (tree panel M)) ≡ pixels (tree panel M)
pixel_entries_of_tree panel M valid =
    rw (ne_eqb panel.order 0 (omega (arith, valid.order_from)))
    (pixel_entries_join (entries (gather M panel.k panel.order 0)) []
    ∙ ap (λ (u : List ℕ). u ++ [])
    (pixel_entries_arranged panel.k panel.order 0 (0 + 4 ^ panel.order) (gather M panel.k panel.order 0) (elements_arranged panel M valid)))

-- 01: the number of entries is pixels plus blocks, root included
pub number_of_entries : (f : Forest) → length (entries f) ≡ length (pixels f) + length (blocks f)
number_of_entries empty = refl
number_of_entries (pixel c f) = omega (arith, number_of_entries f)
number_of_entries (block_at u i c es f) =
    omega (
      arith,
      number_of_entries es,
      number_of_entries f,
      length-append (entries es) (entries f),
      length-append (pixels es) (pixels f),
      length-append (blocks es) (blocks f),
    )

-- codes below `to`, levels up to `top`
abbrev pub EntryWithin : ℕ → ℕ → Entry → Type 0
EntryWithin to top e = (e.code < to) × (e.level ≤ top)

pub every_join : {A : Type 0} (P : A → Type 0) (l r : List A) → Every P l → Every P r → Every P (l ++ r)
every_join P [] r p q = q
every_join P (a ∷ l) r p q = (p.0, every_join P l r p.1 q)

within_lift : (to to' top top' : ℕ) (l : List Entry) → to ≤ to' → top ≤ top' → Every (EntryWithin to top) l → Every (EntryWithin to' top') l
within_lift to to' top top' [] h g p = tt
within_lift to to' top top' (e ∷ l) h g p = ((omega arith, omega arith), within_lift to to' top top' l h g p.1)

entries_arranged_within : (k n from to : ℕ) (f : Forest) → Arranged k n from to f → Every (EntryWithin to n) (entries f)
entries_arranged_within k n from to empty g = tt
entries_arranged_within k n from to (pixel c f) g = ((arranged_le k n (suc c) to f g.1, omega arith), entries_arranged_within k n (suc c) to f g.1)
entries_arranged_within k n from to (block_at u i c es f) g =
    let e : c + 4 ^ i ≤ to = arranged_le k n (c + 4 ^ i) to f g.7 in (
      (omega (arith, pow_pos i), omega arith),
      every_join (EntryWithin to n) (entries es) (entries f)
          (within_lift (c + 4 ^ i) to i n (entries es) e (omega arith) (entries_arranged_within k i c (c + 4 ^ i) es g.6))
          (entries_arranged_within k n (c + 4 ^ i) to f g.7),
    )

pub entries_within : (panel : Panel) (M : ℕ → Bool) → Valid panel → Every (EntryWithin (4 ^ panel.order) panel.order) (entries (tree panel M))
entries_within panel M valid =
    let inner : List Entry = entries (gather M panel.k panel.order 0) in (
      (pow_pos panel.order, omega arith),
      every_join (EntryWithin (4 ^ panel.order) panel.order) inner []
          (within_lift (0 + 4 ^ panel.order) (4 ^ panel.order) panel.order panel.order inner (omega arith) (omega arith)
          (entries_arranged_within panel.k panel.order 0 (0 + 4 ^ panel.order) (gather M panel.k panel.order 0) (elements_arranged panel M valid))) tt,
    )
