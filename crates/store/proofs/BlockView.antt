-- A block of a sound store as the walks see it: what its slot says, and that all inside it is right. Each element is seen by its words.
use Prim.Native.Nat.{ℕ, zero, suc, ◌+◌, ◌*◌, ◌/◌, ◌%◌, ◌^◌, ◌≤◌, ◌<◌}
use native.Mathlib.Omega.{arith}
use native.Mathlib.Nat.{pow-le-pow_right, le_trans}
use mathlib.Core.Path.{◌≡◌, refl, ap, ap₂, subst, sym, ◌∙◌}
use mathlib.Core.List.{List}
use lib.ListN.{length, get_or, take, length-take}
use lib.Seq.{get_or-drop, get_or-take, get_or-append-add}
use Rattle.pktree.specs.Lists.{Every}
use Rattle.pktree.specs.Panel.{Aligned}
use Rattle.pktree.specs.Elements.{ForestOf, empty, pixel, ◌⧺◌, size, block_at}
use Rattle.pktree.specs.Tree.{pixels}
use Rattle.pktree.proofs.Alignment.{aligned_root}
use Rattle.pktree.proofs.Arranged.{Arranged, LocallyRight, arranged_le}
use Rattle.pktree.proofs.Forests.{size_join}
use Rattle.elements.specs.declared.Element.TheVariants.{Pixel}
use Rattle.measures.specs.Sizes.{slot_count, slot_width, sizes_of}
use Rattle.measures.specs.Slot.{slot_part, element_part, element_index, slot_head, number_word}
use Rattle.elements.specs.Element.{element_of, element_at, tag_slots, named}
use Rattle.store.specs.Placed.{Placed, slots_of}
use Rattle.store.specs.Numbers.{Numbered}
use Rattle.store.specs.Sound.{Sound}
use Rattle.store.proofs.Standing.{element_words, SlotSays, Stands, every_left, every_right}
use Rattle.store.proofs.PlacedJoin.{slots_join, words_join, length_element_words, stands_parts}
use Rattle.store.proofs.SoundView.{SoundView}
use Rattle.store.proofs.BlockNumbers.{TreeNumbers, tree_numbers_parts, own_whole, block_number, tree_numbered}

-- element i of some elements
pub data SplitAt (es : Placed) (i : ℕ) : Type 0 where
  at_pixel : (a : Placed) (c : ℕ) (b : Placed) → es ≡ a ⧺ pixel c b → size a ≡ i → SplitAt es i
  at_block : (a : Placed) (s j c : ℕ) (fs b : Placed) → es ≡ a ⧺ block_at s j c fs b → size a ≡ i → SplitAt es i

pub split_at : (es : Placed) (i : ℕ) → i < size es → SplitAt es i
split_at empty i h = absurd (omega arith)
split_at (pixel c t) zero h = at_pixel empty c t refl refl
split_at (pixel c t) (suc i) h = push (split_at t i (omega arith))
  where
    push : SplitAt t i → SplitAt (pixel c t) (suc i)
    push (at_pixel a d b e n) = at_pixel (pixel c a) d b (ap (pixel c) e) (ap suc n)
    push (at_block a s j d fs b e n) = at_block (pixel c a) s j d fs b (ap (pixel c) e) (ap suc n)
split_at (block_at s j c fs t) zero h = at_block empty s j c fs t refl refl
split_at (block_at s j c fs t) (suc i) h = push (split_at t i (omega arith))
  where
    push : SplitAt t i → SplitAt (block_at s j c fs t) (suc i)
    push (at_pixel a d b e n) = at_pixel (block_at s j c fs a) d b (ap (block_at s j c fs) e) (ap suc n)
    push (at_block a s' j' d gs b e n) = at_block (block_at s j c fs a) s' j' d gs b (ap (block_at s j c fs) e) (ap suc n)

-- the words of a slot are those of its elements
pub element_word : (part : List ℕ) (level code : ℕ) (es : Placed) → SlotSays part level code es → (j : ℕ) → j < 2 * size es
    → get_or part (slot_head + j) 0 ≡ get_or (element_words es) j 0
element_word part level code es says j h =
    sym (get_or-drop slot_head part j 0) ∙ sym (get_or-take (2 * size es) (element_part part) j 0 h)
    ∙ ap (λ (l : List ℕ). get_or l j 0) says.elements_are

-- the slot is long enough for what it says
pub elements_lie : (part : List ℕ) (level code : ℕ) (es : Placed) → SlotSays part level code es → slot_head ≤ length part → element_index (size es) ≤ length part
elements_lie part level code es says h =
    let l : length (take (2 * size es) (element_part part)) ≡ 2 * size es = ap length says.elements_are ∙ length_element_words es in
    omega (arith, length-take (2 * size es) (element_part part), lib.ListN.length-drop slot_head part)

-- the words of the element after a
words_after : (a b : Placed) (j : ℕ) → get_or (element_words (a ⧺ b)) (2 * size a + j) 0 ≡ get_or (element_words b) j 0
words_after a b j =
    ap₂ (λ (l : List ℕ) (n : ℕ). get_or l (n + j) 0) (words_join a b) (sym (length_element_words a)) ∙ get_or-append-add (element_words a) (element_words b) j 0

module _ (part : List ℕ) (level code : ℕ) (es a b : Placed) (says : SlotSays part level code es) where
  -- the element that follows a is decoded as it is
  pub element_pixel : (c : ℕ) → es ≡ a ⧺ pixel c b → element_at part (size a) ≡ Pixel c
  element_pixel c e =
      let n : ℕ = size a in
      let s : size es ≡ n + suc (size b) = ap size e ∙ size_join a (pixel c b) in
      let w : (j : ℕ) → j < 2 → get_or part (element_index n + j) 0 ≡ get_or (element_words (pixel c b)) j 0 =
      λ j h. ap (λ (m : ℕ). get_or part m 0) (omega arith) ∙ element_word part level code es says (2 * n + j) (omega arith)
      ∙ ap (λ (t : Placed). get_or (element_words t) (2 * n + j) 0) e ∙ words_after a (pixel c b) j in
      ap₂ element_of (ap (λ (m : ℕ). get_or part m 0) (omega arith) ∙ w 0 (omega arith)) (w 1 (omega arith))

  pub element_block : (s j c : ℕ) (fs : Placed) → es ≡ a ⧺ block_at s j c fs b → s < tag_slots → element_at part (size a) ≡ named s j c
  element_block s j c fs e small =
      let n : ℕ = size a in
      let z : size es ≡ n + suc (size b) = ap size e ∙ size_join a (block_at s j c fs b) in
      let w : (i : ℕ) → i < 2 → get_or part (element_index n + i) 0 ≡ get_or (element_words (block_at s j c fs b)) i 0 =
      λ i h. ap (λ (m : ℕ). get_or part m 0) (omega arith) ∙ element_word part level code es says (2 * n + i) (omega arith)
      ∙ ap (λ (t : Placed). get_or (element_words t) (2 * n + i) 0) e ∙ words_after a (block_at s j c fs b) i in
      let tl : (s + j * tag_slots) / tag_slots ≡ j = omega arith in
      let ts : (s + j * tag_slots) % tag_slots ≡ s = omega arith in
      ap₂ element_of (ap (λ (m : ℕ). get_or part m 0) (omega arith) ∙ w 0 (omega arith)) (w 1 (omega arith)) ∙ ap₂ (λ (u v : ℕ). named u v c) ts tl

-- a block in its slot, right inside, within the slots and within 32-bit codes
pub record BlockView (k width slots : ℕ) (words : List ℕ) (slot level code : ℕ) (es : Placed) : Type 0 where
  pub slot_below : slot < slots
  pub says : SlotSays (slot_part width words slot) level code es
  pub stands : Stands width words es
  pub right : LocallyRight k level code es
  pub aligned : Aligned level code
  pub level_from : 1 ≤ level
  pub level_to : level ≤ 16
  pub ends : code + 4 ^ level ≤ 4 ^ 16
  pub inside : Every (λ s. s < slots) (slots_of es)
  -- its number is that of its pixels, and so inside it
  pub number : number_word (slot_part width words slot) ≡ length (pixels es)
  pub numbers : TreeNumbers width words es

-- what an arranged block among elements is
pub record ArrangedBlock {A : Type 0} (k n from to i c : ℕ) (fs : ForestOf A) : Type 0 where
  pub starts : from ≤ c
  pub ends : c + 4 ^ i ≤ to
  pub below : i < n
  pub level_from : 1 ≤ i
  pub many : k ≤ size fs
  pub aligned : Aligned i c
  pub right : LocallyRight k i c fs

-- in a wider range
from_lower : {A : Type 0} {k n from lo to i c : ℕ} {fs : ForestOf A} → from ≤ lo → ArrangedBlock k n lo to i c fs → ArrangedBlock k n from to i c fs
from_lower p r =
    record { starts = omega (arith, r.starts); ends = r.ends; below = r.below; level_from = r.level_from; many = r.many; aligned = r.aligned; right = r.right }

pub arranged_block : {A : Type 0} (label : A) (k n from to i c : ℕ) (a fs b : ForestOf A) → Arranged k n from to (a ⧺ block_at label i c fs b) → ArrangedBlock k n from to i c fs
arranged_block label k n from to i c empty fs b h =
    record {
      starts = h.0;
      ends = arranged_le k n (c + 4 ^ i) to b h.7;
      below = h.1;
      level_from = h.2;
      many = h.3;
      aligned = h.4;
      right = record { arranged = h.6; sparse = h.5 };
    }
arranged_block label k n from to i c (pixel d a) fs b h = from_lower (omega (arith, h.0)) (arranged_block label k n (suc d) to i c a fs b h.1)
arranged_block label k n from to i c (block_at v j d gs a) fs b h = from_lower (omega (arith, h.0)) (arranged_block label k n (d + 4 ^ j) to i c a fs b h.7)

-- the block that an element names
pub record ChildView (k width slots : ℕ) (words : List ℕ) (level code s i c : ℕ) (fs : Placed) : Type 0 where
  pub view : BlockView k width slots words s i c fs
  pub small : s < tag_slots
  pub below : i < level
  pub starts : code ≤ c
  pub ends : c + 4 ^ i ≤ code + 4 ^ level
  pub many : k ≤ size fs

pub child_view : (k width slots : ℕ) (words : List ℕ) (slot level code : ℕ) (es a : Placed) (s i c : ℕ) (fs b : Placed)
    → BlockView k width slots words slot level code es → es ≡ a ⧺ block_at s i c fs b → ChildView k width slots words level code s i c fs
child_view k width slots words slot level code es a s i c fs b v e =
    let r = arranged_block s k level code (code + 4 ^ level) i c a fs b
    (subst (Arranged k level code (code + 4 ^ level)) e v.right.arranged) in
    let h = (stands_parts width words a (block_at s i c fs b) (subst (Stands width words) e v.stands)).1 in
    let m = (tree_numbers_parts width words a (block_at s i c fs b) (subst (TreeNumbers width words) e v.numbers)).1 in
    let l : Every (λ t. t < slots) (slots_of (block_at s i c fs b)) =
    every_right _ (slots_of a) (slots_of (block_at s i c fs b))
    (subst (Every (λ t. t < slots)) (ap slots_of e ∙ slots_join a (block_at s i c fs b)) v.inside) in
    record {
      view = record {
        slot_below = l.0;
        says = h.1;
        stands = h.2;
        right = r.right;
        aligned = r.aligned;
        level_from = r.level_from;
        level_to = omega (arith, r.below, v.level_to);
        ends = le_trans r.ends v.ends;
        inside = every_left _ (slots_of fs) (slots_of b) l.1;
        number = m.0;
        numbers = m.1;
      };
      small = h.0;
      below = r.below;
      starts = r.starts;
      ends = r.ends;
      many = r.many;
    }

-- the root of a sound store
pub root_view : (words : List ℕ) (placed es : Placed) → Sound words placed → SoundView words placed es
    → BlockView (sizes_of words).k (slot_width (sizes_of words).k) (slot_count (sizes_of words).k (sizes_of words).most) words 0 (sizes_of words).order 0 es
root_view words placed es sound v =
    let k : ℕ = (sizes_of words).k in
    let order : ℕ = (sizes_of words).order in
    let numbered = subst (Numbered (slot_width k) (slot_count k (sizes_of words).most) words) v.same_pixels sound.numbered in
    record {
      slot_below = omega (arith, v.few);
      says = v.says;
      stands = v.stands;
      right = v.right;
      aligned = aligned_root (sizes_of words).order;
      level_from = sound.usable.valid.panel.order_from;
      level_to = sound.usable.valid.panel.order_to;
      ends = le_trans (omega arith) (pow-le-pow_right {n = 4} (omega arith) sound.usable.valid.panel.order_to);
      inside = v.inside;
      number = block_number k v.says (own_whole 0 (0 + 4 ^ order) es) refl v.right.arranged sound.usable.valid.panel.order_from (numbered.each 0 (omega (arith, v.few)));
      numbers = tree_numbered k (slot_width k) words order es numbered (own_whole 0 (0 + 4 ^ order) es) v.right.arranged v.stands v.inside;
    }
