-- Elements that stand in right blocks, joined and taken apart, and one block among them as a block in its slot.
use Prim.Native.Nat.{ℕ, zero, suc, ◌-◌, ◌≤◌, ◌<◌}
use native.Mathlib.Omega.{arith}
use mathlib.Core.Path.{◌≡◌, refl, ap₂, sym, ◌∙◌}
use mathlib.Core.Bool.{true, ◌&&◌, and_assoc}
use mathlib.Core.List.{List, [], append-nil}
use borrow.Author.Tests.{le-leb, leb-true}
use Rattle.elements.specs.Element.{tag_slots}
use Rattle.pktree.specs.Elements.{ForestOf, empty, pixel, ◌⧺◌, size, block_at}
use Rattle.pktree.proofs.LocalTest.{heads, slot_test, inside_test, both}
use Rattle.store.specs.Placed.{Placed, slots_of}
use Rattle.store.proofs.Standing.{every_left, every_right, every_join}
use Rattle.store.proofs.PlacedJoin.{slots_join, stands_join, stands_parts}
use Rattle.store.proofs.BlockNumbers.{tree_numbers_join, tree_numbers_parts}
use Rattle.traversal.specs.declared.Claim.{Claim}
use Rattle.traversal.specs.Walk.{Limits, StandsRight, BlockAt}

inside_join : {A : Type 0} (k : ℕ) (f g : ForestOf A) → inside_test k (f ⧺ g) ≡ inside_test k f && inside_test k g
inside_join k empty g = refl
inside_join k (pixel c f) g = inside_join k f g
inside_join k (block_at v zero c es f) g = refl
inside_join k (block_at v (suc i) c es f) g = rw (inside_join k f g, and_assoc, and_assoc, and_assoc)

module _ {limits : Limits} {words : List ℕ} where
  pub right_join : (a b : Placed) → StandsRight limits words a → StandsRight limits words b → StandsRight limits words (a ⧺ b)
  right_join a b p q =
      record {
        stands = stands_join limits.layout.width words a b p.stands q.stands;
        right = inside_join limits.k a b ∙ ap₂ ◌&&◌ p.right q.right;
        inside = rw (slots_join a b) (every_join _ (slots_of a) (slots_of b) p.inside q.inside);
        numbers = tree_numbers_join limits.layout.width words a b p.numbers q.numbers;
      }

  pub right_parts : (a b : Placed) → StandsRight limits words (a ⧺ b) → StandsRight limits words a × StandsRight limits words b
  right_parts a b h =
      let s = stands_parts limits.layout.width words a b h.stands in
      let r = both (inside_test limits.k a) (inside_test limits.k b) (sym (inside_join limits.k a b) ∙ h.right) in
      let i = rw (slots_join a b) at h.inside in
      let n = tree_numbers_parts limits.layout.width words a b h.numbers in (
        record { stands = s.0; right = r.0; inside = every_left _ (slots_of a) (slots_of b) i; numbers = n.0 },
        record { stands = s.1; right = r.1; inside = every_right _ (slots_of a) (slots_of b) i; numbers = n.1 },
      )

  pub right_nothing : StandsRight limits words empty
  right_nothing = record { stands = tt; right = refl; inside = tt; numbers = tt }

  pub right_pixel : (c : ℕ) → StandsRight limits words (pixel c empty)
  right_pixel c = record { stands = tt; right = refl; inside = tt; numbers = tt }

-- a block among elements, as an element names it
abbrev pub child : Limits → ℕ → ℕ → ℕ → Claim
child limits s i c = record { block = record { slot = s; level = i; code = c }; least = limits.k }

-- the test of a block inside, by its level
record InsideBlock (k i c : ℕ) (es : Placed) : Type 0 where
  level_from : 1 ≤ i
  many : k ≤ size es
  passes : slot_test k (i - 1) c (heads es) ≡ true
  right : inside_test k es ≡ true

inside_block : (k s i c : ℕ) (es : Placed) → InsideBlock k i c es → inside_test k (block_at s i c es empty) ≡ true
inside_block k s zero c es h = absurd (omega (arith, h.level_from))
inside_block k s (suc i) c es h =
    let e : suc i - 1 ≡ i = omega arith in
    rw (le-leb k (size es) h.many, rw e at h.passes, h.right)

block_inside : (k s i c : ℕ) (es : Placed) → inside_test k (block_at s i c es empty) ≡ true → InsideBlock k i c es
block_inside k s zero c es h = absurd (let z : ◌≡◌ {A = ℕ} 0 1 = cc in omega arith)
block_inside k s (suc i) c es h =
    let e : suc i - 1 ≡ i = omega arith in
    let p = both _ _ h in
    let q = both _ _ p.1 in
    let r = both _ _ q.1 in
    record { level_from = omega arith; many = leb-true k (size es) p.0; passes = rw e q.0; right = r.0 }

module _ {limits : Limits} {words : List ℕ} where
  pub block_right : (s i c : ℕ) (es : Placed) → s < limits.layout.slots → s < tag_slots → 1 ≤ i → BlockAt limits words (child limits s i c) es
      → StandsRight limits words (block_at s i c es empty)
  block_right s i c es below small low b =
      record {
        stands = (small, b.says, b.elements.stands, tt);
        right = inside_block limits.k s i c es (record { level_from = low; many = b.many; passes = b.passes; right = b.elements.right });
        inside = (below, rw (append-nil (slots_of es)) b.elements.inside);
        numbers = (b.number, b.elements.numbers, tt);
      }

  pub right_block : (s i c : ℕ) (es : Placed) → StandsRight limits words (block_at s i c es empty)
      → (s < limits.layout.slots) × (1 ≤ i) × BlockAt limits words (child limits s i c) es
  right_block s i c es h =
      let b = block_inside limits.k s i c es h.right in (
        h.inside.0,
        b.level_from,
        record {
          says = h.stands.1;
          many = b.many;
          passes = b.passes;
          elements = record { stands = h.stands.2; right = b.right; inside = every_left _ (slots_of es) [] h.inside.1; numbers = h.numbers.1 };
          number = h.numbers.0;
        },
      )
