-- The one law of walks: what a walk makes of the elements of a block, one after another, whatever it carries.
use Prim.Native.Nat.{ℕ, ◌+◌, ◌≤◌, ◌<◌}
use native.Mathlib.Omega.{arith}
use mathlib.Core.Path.{◌≡◌, ap, subst, ◌∙◌}
use mathlib.Core.List.{List}
use lib.ListN.{length}
use Rattle.pktree.specs.Elements.{Forest, empty, pixel, block, ◌⧺◌, unlabelled}
use Rattle.pktree.proofs.Unlabelled.{unlabelled_join}
use Rattle.measures.specs.declared.sizes.Layout.{Layout}
use Rattle.measures.specs.Layout.{LayoutFits, level_above_root}
use Rattle.measures.specs.Slot.{slot_part, element_index}
use Rattle.elements.specs.Element.{element_at, named}
use Rattle.store.specs.Placed.{Placed}
use Rattle.store.specs.Opening.{CannotOpen, damaged}
use Rattle.elements.specs.declared.Element.{Element}
use Rattle.elements.specs.declared.Element.TheVariants.{Pixel}
use Rattle.store.specs.declared.Damaged.{Damaged}
use Rattle.std.specs.Prelude.{Result, Ok}
use Rattle.store.proofs.BlockView.{BlockView, ChildView}
use Rattle.store.proofs.OpenedSlot.{opened_not_shut, view_opens}
use Rattle.store.proofs.PassedElements.{OneElement, is_pixel_lem, is_block, Passed, none_passed, one_more_passed, all_passed}
use Rattle.walks.specs.Entered.{SlotEntered, Entered}

-- W s f t: from s, the walk over the elements f comes to t. A walk goes on where it was.
pub record Walk {S : Type 0} (W : S → Forest → S → Type 0) : Type 0 where
  pub none : (s : S) → W s empty s
  pub join : {s t u : S} {f g : Forest} → W s f t → W t g u → W s (f ⧺ g) u

-- the block in this slot was walked, and all inside it
pub record BlockWalked {S : Type 0} (W : S → Forest → S → Type 0) (layout : Layout) (words : List ℕ) (above slot level code : ℕ) (s t : S) : Type 0 where
  pub right : (k : ℕ) (es : Placed) → level < above → BlockView k layout.width layout.slots words slot level code es → W s (block level code (unlabelled es) empty) t

-- the elements of the block in this slot were walked
pub record InsideWalked {S : Type 0} (W : S → Forest → S → Type 0) (layout : Layout) (words : List ℕ) (above slot level code : ℕ) (s t : S) : Type 0 where
  pub right : (k : ℕ) (es : Placed) → level < above → BlockView k layout.width layout.slots words slot level code es → W s (unlabelled es) t

-- an element of a block of this level was walked
pub record ElementWalked {S : Type 0} (W : S → Forest → S → Type 0) (layout : Layout) (words : List ℕ) (level : ℕ) (element : Element) (s t : S) : Type 0 where
  pub right : {k code : ℕ} {g : Placed} → level ≤ 16 → OneElement k layout.width layout.slots words level code element g → W s (unlabelled g) t

-- an element of a block of this level that leaves a walk no way on: of one of a sound store this does not hold
pub record ElementBroken (Holds : Forest → Type 0) (layout : Layout) (words : List ℕ) (level : ℕ) (element : Element) : Type 0 where
  pub right : {k code : ℕ} {g : Placed} → OneElement k layout.width layout.slots words level code element g → Holds (unlabelled g) → ⊥

-- the loop over the elements of the block in an entered slot: the first i of them took the walk from s to t
pub record InLoop {S : Type 0} (W : S → Forest → S → Type 0) (layout : Layout) (words : List ℕ) (above slot level code count : ℕ) (part : List ℕ) (i : ℕ) (s t : S) : Type 0 where
  pub slot_entered : SlotEntered layout words above slot level code count
  pub part_is : part ≡ slot_part layout.width words slot
  pub laid : element_index count ≤ length part
  pub at : i ≤ count
  pub passed : (k : ℕ) (es : Placed) → BlockView k layout.width layout.slots words slot level code es → Passed (λ f. W s f t) es i

pub entered_low : {layout : Layout} {words : List ℕ} {above slot level code : ℕ} {o : Result ℕ Damaged} {count : ℕ} → o ≡ Ok count → Entered layout words above slot level code o
    → above ≤ level_above_root → level ≤ 16
entered_low e h top = omega (arith, (h.entered _ e).level_below)

pub entered_below : {layout : Layout} {words : List ℕ} {above slot level code : ℕ} {o : Result ℕ Damaged} {count : ℕ} → o ≡ Ok count → Entered layout words above slot level code o
    → slot < layout.slots
entered_below e h = (h.entered _ e).slot_below

-- a block that is not entered is none of a sound store
pub never_barred : {layout : Layout} {words : List ℕ} {above slot level code : ℕ} {o : Result ℕ Damaged} {k : ℕ} {es : Placed} → o ≡ damaged → Entered layout words above slot level code o
    → LayoutFits layout words → level < above → BlockView k layout.width layout.slots words slot level code es → ⊥
never_barred e h fits low view = view_opens fits view (record { shut = h.barred e view.slot_below low })

module _ {S : Type 0} {W : S → Forest → S → Type 0} {layout : Layout} {words : List ℕ} {level : ℕ} {s t : S} where
  pub walked_pixel : {element : Element} {c : ℕ} → element ≡ Pixel c → W s (pixel c empty) t → ElementWalked W layout words level element s t
  walked_pixel {c = c} e w = rw e (record { right = one })
    where
      one : {k code : ℕ} {g : Placed} → level ≤ 16 → OneElement k layout.width layout.slots words level code (Pixel c) g → W s (unlabelled g) t
      one low (is_pixel_lem c) = w

  pub walked_child : {element : Element} {slot inner code : ℕ} → element ≡ named slot inner code
      → ((k at : ℕ) (fs : Placed) → level ≤ 16 → ChildView k layout.width layout.slots words level at slot inner code fs → W s (block inner code (unlabelled fs) empty) t)
      → ElementWalked W layout words level element s t
  walked_child {slot = slot} {inner = inner} {code = code} e w = rw e (record { right = one })
    where
      one : {k at : ℕ} {g : Placed} → level ≤ 16 → OneElement k layout.width layout.slots words level at (named slot inner code) g → W s (unlabelled g) t
      one {at = at} low (is_block x j c fs child) = w _ at fs low child

  pub walked_block : {element : Element} {slot inner code : ℕ} → element ≡ named slot inner code → BlockWalked W layout words level slot inner code s t
      → ElementWalked W layout words level element s t
  walked_block e b = walked_child e (λ k at fs low child. b.right k fs child.below child.view)

pub broken_child : {Holds : Forest → Type 0} {layout : Layout} {words : List ℕ} {level : ℕ} {element : Element} {slot inner code : ℕ} → element ≡ named slot inner code
    → ((k at : ℕ) (fs : Placed) → ChildView k layout.width layout.slots words level at slot inner code fs → Holds (block inner code (unlabelled fs) empty) → ⊥)
    → ElementBroken Holds layout words level element
broken_child {Holds} {layout} {words} {level} {slot = slot} {inner = inner} {code = code} e never = rw e (record { right = one })
  where
    one : {k at : ℕ} {g : Placed} → OneElement k layout.width layout.slots words level at (named slot inner code) g → Holds (unlabelled g) → ⊥
    one {at = at} (is_block x j c fs child) = never _ at fs child

module _ {S : Type 0} {W : S → Forest → S → Type 0} {layout : Layout} {words : List ℕ} {above slot level code : ℕ} where
  pub not_entered : {o : Result ℕ Damaged} {s t : S} → o ≡ damaged → Entered layout words above slot level code o → LayoutFits layout words
      → BlockWalked W layout words above slot level code s t
  not_entered e h fits = record { right = λ k es low view. absurd (never_barred e h fits low view) }

  pub loop_begins : {o : Result ℕ Damaged} {count : ℕ} {part : List ℕ} {s : S} → o ≡ Ok count → Entered layout words above slot level code o
      → part ≡ slot_part layout.width words slot → Walk W → InLoop W layout words above slot level code count part 0 s s
  loop_begins {s = s} e h p walk =
      let o = h.entered _ e in
      record {
        slot_entered = o;
        part_is = p;
        laid = omega (arith, o.header.laid, ap length p);
        at = omega arith;
        passed = λ k es view. none_passed _ es (walk.none s);
      }

  module _ {count : ℕ} {part : List ℕ} {i : ℕ} {s t : S} (to : InLoop W layout words above slot level code count part i s t) where
    module _ {element : Element} {u now : S} (below : i < count) (is : element ≡ element_at part i) (is-now : now ≡ u) (walk : Walk W) where
      pub loop_turns : ElementWalked W layout words level element t u → InLoop W layout words above slot level code count part (i + 1) s now
      loop_turns one =
          let o = to.slot_entered in
          let e : element ≡ element_at (slot_part layout.width words slot) i = rw to.part_is at is in
          record {
            slot_entered = o;
            part_is = to.part_is;
            laid = to.laid;
            at = omega arith;
            passed = λ k es view.
                one_more_passed (record { header = o.header }) view (to.passed k es view) below (λ f g h d x past.
                rw (is-now, unlabelled_join f g) (walk.join past (one.right view.level_to (rw (← e) at x))));
          }

      pub turns_pixel : {c : ℕ} → element ≡ Pixel c → W t (pixel c empty) u → InLoop W layout words above slot level code count part (i + 1) s now
      turns_pixel e w = loop_turns (walked_pixel e w)

      pub turns_block : {x inner c : ℕ} → element ≡ named x inner c → BlockWalked W layout words level x inner c t u
          → InLoop W layout words above slot level code count part (i + 1) s now
      turns_block e w = loop_turns (walked_block e w)

    -- a walk that stops at an element has met no sound store
    pub loop_breaks : (Holds Then : Forest → Type 0) {element : Element} → i < count → element ≡ element_at part i
        → ((f g h : Forest) → W s f t → Holds ((f ⧺ g) ⧺ h) → Then g) → ElementBroken Then layout words level element
        → (k : ℕ) (es : Placed) → BlockView k layout.width layout.slots words slot level code es → Holds (unlabelled es) → ⊥
    loop_breaks Holds Then {element} below is then broken k es view holds =
        let e : element ≡ element_at (slot_part layout.width words slot) i = rw to.part_is at is in
        let p : Passed (λ f. ⊥) es (i + 1) =
        one_more_passed (record { header = to.slot_entered.header }) view (to.passed k es view) below (λ f g h d x past.
        broken.right (rw (← e) at x)
        (then (unlabelled f) (unlabelled g) (unlabelled h) past (subst Holds (ap unlabelled d ∙ unlabelled_join (f ⧺ g) h ∙ ap (λ (a : Forest). a ⧺ unlabelled h) (unlabelled_join f g)) holds))) in
        p.done

    -- what is made of the elements is made of the block
    pub loop_ends : {r : S} → count ≤ i → ((f : Forest) → W s f t → W r (block level code f empty) t) → BlockWalked W layout words above slot level code r t
    loop_ends end opens = record { right = λ k es low view. opens (unlabelled es) (all_passed (record { header = to.slot_entered.header }) view (to.passed k es view) end) }

    pub loop_inside : count ≤ i → InsideWalked W layout words above slot level code s t
    loop_inside end = record { right = λ k es low view. all_passed (record { header = to.slot_entered.header }) view (to.passed k es view) end }

    pub loop_open : CannotOpen layout.width words slot level code → ⊥
    loop_open shut = opened_not_shut (record { header = to.slot_entered.header }) shut
