-- A walk over the elements of a block in its opened slot: what element i is, and what has been passed once it is done.
use Prim.Native.Nat.{ℕ, ◌+◌, ◌≤◌, ◌<◌}
use native.Mathlib.Omega.{arith}
use mathlib.Core.Path.{◌≡◌, refl, ap, subst, sym, ◌∙◌}
use mathlib.Core.List.{List}
use Rattle.pktree.specs.Elements.{Forest, ◌⧺◌, size, block_at, empty, pixel, unlabelled}
use Rattle.pktree.proofs.Forests.{join_assoc, join_empty, size_join}
use Rattle.measures.specs.Slot.{slot_part}
use Rattle.elements.specs.declared.Element.{Element}
use Rattle.elements.specs.declared.Element.TheVariants.{Pixel}
use Rattle.elements.specs.Element.{element_at, named}
use Rattle.store.specs.Placed.{Placed}
use Rattle.store.proofs.BlockView.{BlockView, ChildView, element_pixel, element_block, child_view}
use Rattle.store.proofs.OpenedSlot.{SlotOpened}

-- the one element that the words of an element say
pub data OneElement (k width slots : ℕ) (words : List ℕ) (level code : ℕ) : Element → Placed → Type 0 where
  is_pixel_lem : (c : ℕ) → OneElement k width slots words level code (Pixel c) (pixel c empty)
  is_block : (s i c : ℕ) (fs : Placed) → ChildView k width slots words level code s i c fs
      → OneElement k width slots words level code (named s i c) (block_at s i c fs empty)

-- the first i elements are done, and this holds of them
pub record Passed (Done : Forest → Type 0) (es : Placed) (i : ℕ) : Type 0 where
  pub past : Placed
  pub left : Placed
  pub is : es ≡ past ⧺ left
  pub many : size past ≡ i
  pub done : Done (unlabelled past)

pub none_passed : (Done : Forest → Type 0) (es : Placed) → Done empty → Passed Done es 0
none_passed Done es d = record { past = empty; left = es; is = refl; many = refl; done = d }

module _ {k width slots : ℕ} {words : List ℕ} {slot level code : ℕ} {es : Placed} {count i : ℕ} {Done : Forest → Type 0} (opened : SlotOpened width words slot level code count)
    (view : BlockView k width slots words slot level code es) (p : Passed Done es i) where
  size_is : size es ≡ count
  size_is = sym view.says.count_is ∙ opened.header.count_is

  pub all_passed : count ≤ i → Done (unlabelled es)
  all_passed h = go p.left p.is
    where
      go : (left : Placed) → es ≡ p.past ⧺ left → Done (unlabelled es)
      go empty e = rw (e, join_empty p.past) p.done
      go (pixel c b) e = absurd (omega (arith, h, size_is, p.many, ap size e, size_join p.past (pixel c b)))
      go (block_at s j c fs b) e = absurd (omega (arith, h, size_is, p.many, ap size e, size_join p.past (block_at s j c fs b)))

  -- element i is looked at: of the elements before it and it holds what the walk makes of what held before
  pub one_more_passed : {Then : Forest → Type 0} → i < count
      → ((f g h : Placed) → es ≡ (f ⧺ g) ⧺ h → OneElement k width slots words level code (element_at (slot_part width words slot) i) g → Done (unlabelled f) → Then (unlabelled (f ⧺ g)))
      → Passed Then es (i + 1)
  one_more_passed {Then} below turn = go p.left p.is
    where
      add : (element : Element) (g h : Placed) → size g ≡ 1 → es ≡ p.past ⧺ (g ⧺ h) → element_at (slot_part width words slot) (size p.past) ≡ element
          → OneElement k width slots words level code element g → Passed Then es (i + 1)
      add element g h one e at is =
          let e' : es ≡ (p.past ⧺ g) ⧺ h = e ∙ sym (join_assoc p.past g h) in
          let at' : element_at (slot_part width words slot) i ≡ element = rw (← p.many) at in
          record {
            past = p.past ⧺ g;
            left = h;
            is = e';
            many = omega (arith, p.many, size_join p.past g);
            done = turn p.past g h e' (subst (λ (x : Element). OneElement k width slots words level code x g) (sym at') is) p.done;
          }

      go : (left : Placed) → es ≡ p.past ⧺ left → Passed Then es (i + 1)
      go empty e = absurd (omega (arith, size_is, p.many, ap size (e ∙ join_empty p.past)))
      go (pixel c b) e =
          add (Pixel c) (pixel c empty) b refl e (element_pixel (slot_part width words slot) level code es p.past b view.says c e) (is_pixel_lem c)
      go (block_at s j c fs b) e =
          let child = child_view k width slots words slot level code es p.past s j c fs b view e in
          add (named s j c) (block_at s j c fs empty) b refl e
          (element_block (slot_part width words slot) level code es p.past b view.says s j c fs e child.small) (is_block s j c fs child)
