-- What a look at a block of a sound store says of the block's elements: where the code stands among them.
use Prim.Native.Nat.{ℕ, zero, suc, ◌+◌, ◌-◌, ◌/◌, ◌^◌, ◌≤◌, ◌<◌}
use native.Mathlib.Omega.{arith}
use native.Mathlib.Nat.{lt_of_not-le}
use mathlib.Core.Path.{◌≡◌, refl, ap, subst, sym, ◌∙◌}
use mathlib.Core.Bool.{Bool, true, false}
use mathlib.Core.List.{List}
use lib.ListN.{get_or}
use Rattle.morton.specs.CommonLevel.{CommonLevel}
use Rattle.morton.proofs.Blocks.{block_up}
use Rattle.pktree.specs.Elements.{empty, pixel, ◌⧺◌, size, block_at}
use Rattle.pktree.proofs.Alignment.{pow_pos}
use Rattle.pktree.proofs.Windows.{within_multiple}
use Rattle.pktree.proofs.Arranged.{Arranged, arranged_upper, arranged_join}
use Rattle.pktree.proofs.Absurd.{zero_is_not_one}
use Rattle.pktree.proofs.Forests.{join_assoc, size_join}
use Rattle.measures.specs.Slot.{slot_part, element_index}
use Rattle.elements.specs.Element.{element_of, element_at, named}
use Rattle.elements.specs.Splice.{code_at, PlaceOf}
use Rattle.elements.specs.declared.Element.{Element}
use Rattle.elements.specs.declared.Element.TheVariants.{Pixel, Block}
use Rattle.store.specs.Placed.{Placed}
use Rattle.store.proofs.BlockView.{SplitAt, at_pixel, at_block, split_at, element_pixel, element_block, BlockView, ChildView, child_view}
use Rattle.descent.specs.Located.{EndsBefore, OwnPixel, BetweenElements, LookedHere, InnerBlock, PlaceIn}
use Rattle.descent.proofs.Cutting.{arranged_parts}

abbrev element_code : Element → ℕ
element_code (Pixel c) = c
element_code (Block block) = block.code

-- the slot and the level of a block's element
abbrev element_slot : Element → ℕ
element_slot (Pixel c) = 0
element_slot (Block block) = block.slot

abbrev element_level : Element → ℕ
element_level (Pixel c) = 0
element_level (Block block) = block.level

-- an element's code is its first word
code_of_element_lem : (part : List ℕ) (i : ℕ) {e : Element} → element_at part i ≡ e → code_at part i ≡ element_code e
code_of_element_lem part i h = go (get_or part (element_index i + 1) 0) ∙ ap element_code h
  where
    go : (tag : ℕ) → code_at part i ≡ element_code (element_of (code_at part i) tag)
    go zero = refl
    go (suc tag) = refl

-- a place that is not the first comes after another
suc_pred : (n : ℕ) → (n ≡ 0 → ⊥) → suc (n - 1) ≡ n
suc_pred n h = omega arith

-- what is known where code has decoded the element before the code's place
module _ {part : List ℕ} {count code : ℕ} (place : ℕ) (element : Element) (at : PlaceOf part count code place) (some : place ≡ 0 → ⊥)
    (decoded : element ≡ element_at part (place - 1)) where
  next : suc (place - 1) ≡ place
  next = suc_pred place some

  -- it ends before the code
  between : EndsBefore element code → BetweenElements part count code place
  between ends' =
      let ends : EndsBefore (element_at part (place - 1)) code = rw decoded at ends' in
      record { place_of = at; ends = λ i e. let last : place - 1 ≡ i = omega arith in rw last at ends }

  pub own_pixel : (c : ℕ) → element ≡ Pixel c → code_at part (place - 1) ≡ code → OwnPixel part count code (place - 1)
  own_pixel c is own =
      let e : element_at part (place - 1) ≡ Pixel c = sym decoded ∙ is in
      record { within = omega (arith, at.within, next); pixel = e ∙ ap Pixel (sym (code_of_element_lem part (place - 1) e) ∙ own); above = rw next at }

  pub after_pixel : (c : ℕ) → element ≡ Pixel c → (code_at part (place - 1) ≡ code → ⊥) → BetweenElements part count code place
  after_pixel c is other = between (rw is (λ q. other (code_of_element_lem part (place - 1) (sym decoded ∙ is) ∙ q)))

-- the same of a block, by the level from which on it and the code share a block
module _ {part : List ℕ} {count code : ℕ} (s i c level : ℕ) (common : CommonLevel c code level) (place : ℕ) (element : Element)
    (at : PlaceOf part count code place) (some : place ≡ 0 → ⊥) (decoded : element ≡ element_at part (place - 1)) (is : element ≡ named s i c) where
  pub after_block : i < level → BetweenElements part count code place
  after_block low = between place element at some decoded (rw is (λ q. omega (arith, common.least i q)))

  pub in_block : level ≤ i → InnerBlock part count code (place - 1) s i c
  in_block high =
      let next : suc (place - 1) ≡ place = suc_pred place some in
      record { within = omega (arith, at.within, next); block = sym decoded ∙ is; holds = block_up _ _ high common.common; above = rw next at }

-- the element at this place is a block that holds the code
pub record EntersBlock (code place s i c : ℕ) (es : Placed) : Type 0 where
  pub before : Placed
  pub inside : Placed
  pub after : Placed
  pub is : es ≡ before ⧺ block_at s i c inside after
  pub place_is : size before ≡ place
  pub holds : (c ≤ code) × (code < c + 4 ^ i)

-- a block whose range holds the code
module _ {k width slots : ℕ} {words : List ℕ} {slot level from : ℕ} {es : Placed} (view : BlockView k width slots words slot level from es)
    {code : ℕ} (starts : from ≤ code) (ends : code < from + 4 ^ level) where
  abbrev part : List ℕ
  part = slot_part width words slot

  abbrev to : ℕ
  to = from + 4 ^ level

  abbrev count : ℕ
  count = size es

  inner_view : (a : Placed) (s i c : ℕ) (fs b : Placed) → es ≡ a ⧺ block_at s i c fs b → ChildView k width slots words level from s i c fs
  inner_view a s i c fs b e = child_view k width slots words slot level from es a s i c fs b view e

  -- the words name the elements one by one
  named_pixel : (a : Placed) (c : ℕ) (b : Placed) (place : ℕ) → es ≡ a ⧺ pixel c b → size a ≡ place → element_at part place ≡ Pixel c
  named_pixel a c b place e n = rw n at (element_pixel part level from es a b view.says c e)

  named_block : (a : Placed) (s i c : ℕ) (fs b : Placed) (place : ℕ) → es ≡ a ⧺ block_at s i c fs b → size a ≡ place → element_at part place ≡ named s i c
  named_block a s i c fs b place e n = rw n at (element_block part level from es a b view.says s i c fs e (inner_view a s i c fs b e).small)

  parts : (a b : Placed) → es ≡ a ⧺ b → (mid : ℕ) × Arranged k level from mid a × Arranged k level mid to b
  parts a b e = arranged_parts k level from to a b (subst (Arranged k level from to) e view.right.arranged)

  -- what follows the code's place starts above the code
  above_place : (a b : Placed) (place mid : ℕ) → es ≡ a ⧺ b → size a ≡ place → PlaceOf part count code place
      → Arranged k level mid to b → Arranged k level (suc code) to b
  above_place a empty place mid e n p h = ends
  above_place a (pixel c b) place mid e n p h =
      (omega (arith, p.after (omega (arith, ap size e, size_join a (pixel c b))), code_of_element_lem part place (named_pixel a c b place e n)), h.1)
  above_place a (block_at s i c fs b) place mid e n p h = (
    omega (arith, p.after (omega (arith, ap size e, size_join a (block_at s i c fs b))), code_of_element_lem part place (named_block a s i c fs b place e n)),
    h.1,
    h.2,
    h.3,
    h.4,
    h.5,
    h.6,
    h.7,
  )

  looked_between : (place : ℕ) → BetweenElements part count code place → PlaceIn k level from code to place false es
  looked_between zero h =
      record {
        before = empty;
        after = es;
        place_is = refl;
        below = starts;
        above = above_place empty es 0 from refl refl h.place_of view.right.arranged;
        is = ((λ e. zero_is_not_one (cc)), (λ e. refl));
      }
  looked_between (suc i) h = go (split_at es i h.place_of.within)
    where
      -- the elements up to the place end at the code or before
      up_to : (a last b : Placed) (mid : ℕ) → es ≡ a ⧺ (last ⧺ b) → size last ≡ 1 → size a ≡ i
          → Arranged k level from code (a ⧺ last) → Arranged k level mid to b → PlaceIn k level from code to (suc i) false es
      up_to a last b mid e one n low high =
          let cut : es ≡ (a ⧺ last) ⧺ b = e ∙ sym (join_assoc a last b) in
          let m : size (a ⧺ last) ≡ suc i = omega (arith, size_join a last) in
          record {
            before = a ⧺ last;
            after = b;
            place_is = m;
            below = low;
            above = above_place (a ⧺ last) b (suc i) mid cut m h.place_of high;
            is = ((λ q. zero_is_not_one (cc)), (λ q. cut));
          }

      go : SplitAt es i → PlaceIn k level from code to (suc i) false es
      go (at_pixel a c b e n) =
          let named : element_at part i ≡ Pixel c = named_pixel a c b i e n in
          let (mid, low, high) = parts a (pixel c b) e in
          let starts_below : c ≤ code = rw (code_of_element_lem part i named) at (h.place_of.before i refl) in
          let other : c ≡ code → ⊥ = rw named at (h.ends i refl) in
          up_to a (pixel c empty) b (suc c) e refl n (arranged_join k level from mid code a (pixel c empty) low (high.0, omega arith)) high.1
      go (at_block a s j c fs b e n) =
          let named : element_at part i ≡ named s j c = named_block a s j c fs b i e n in
          let (mid, low, high) = parts a (block_at s j c fs b) e in
          let starts_below : c ≤ code = rw (code_of_element_lem part i named) at (h.place_of.before i refl) in
          let other : c / 4 ^ j ≡ code / 4 ^ j → ⊥ = rw named at (h.ends i refl) in
          let ends_below : c + 4 ^ j < suc code = lt_of_not-le (λ t. other (sym ((within_multiple (4 ^ j) c code (pow_pos j) high.4).0 (starts_below, t)))) in
          up_to a (block_at s j c fs empty) b (c + 4 ^ j) e refl n
          (arranged_join k level from mid code a (block_at s j c fs empty) low
          (high.0, high.1, high.2, high.3, high.4, high.5, high.6, omega arith))
          high.7

  looked_own : (place : ℕ) → OwnPixel part count code place → PlaceIn k level from code to place true es
  looked_own place h = go (split_at es place h.within)
    where
      go : SplitAt es place → PlaceIn k level from code to place true es
      go (at_pixel a c b e n) =
          let own : c ≡ code = cc (named_pixel a c b place e n, h.pixel) in
          let (mid, low, high) = parts a (pixel c b) e in
          record {
            before = a;
            after = b;
            place_is = n;
            below = arranged_upper k level from mid code a (omega arith) low;
            above = rw own at high.1;
            is = ((λ t. rw own at e), (λ t. zero_is_not_one (cc)));
          }
      go (at_block a s j c fs b e n) = zero_is_not_one (cc (named_block a s j c fs b place e n, h.pixel))

  pub looked_here : (place : ℕ) (marked : Bool) → LookedHere part count code place marked → PlaceIn k level from code to place marked es
  looked_here place true h = looked_own place h
  looked_here place false h = looked_between place h

  pub looked_inner : {place s i c : ℕ} → InnerBlock part count code place s i c → EntersBlock code place s i c es
  looked_inner {place} {s} {i} {c} h = go (split_at es place h.within)
    where
      go : SplitAt es place → EntersBlock code place s i c es
      go (at_pixel a d b e n) = zero_is_not_one (cc (named_pixel a d b place e n, h.block))
      go (at_block a t j d fs b e n) =
          let same : named t j d ≡ named s i c = sym (named_block a t j d fs b place e n) ∙ h.block in
          let e' : es ≡ a ⧺ block_at s i c fs b = cc (ap element_slot same, ap element_level same, ap element_code same, e) in
          record {
            before = a;
            inside = fs;
            after = b;
            is = e';
            place_is = n;
            holds = (within_multiple (4 ^ i) c code (pow_pos i) (inner_view a s i c fs b e').view.aligned).1 (sym h.holds);
          }
