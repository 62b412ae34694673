-- 02, P8: THE LAW OF THE SMALLEST BLOCK: every pixel of a panel has one, and is marked exactly when it is an element of it.
use Prim.Native.Nat.{ℕ, zero, suc, ◌+◌, ◌^◌, ◌≤◌, ◌<◌}
use native.Mathlib.Omega.{arith}
use native.Mathlib.Decide.{dec_lt}
use mathlib.Core.Path.{◌≡◌, refl, ap, subst, subst₂, sym, ◌∙◌}
use mathlib.Core.Bool.{Bool, true, false, and-eq-true_iff}
use mathlib.Core.Logic.{◌⊎◌, inl, inr, ◌↔◌}
use mathlib.Core.List.Memᴰ
use mathlib.Core.List.{List, [], ◌∷◌, Memᴰ}
use lib.Dec.{leb, ltb}
use lib.ListN.{length}
use borrow.Author.Tests.{leb-true, ltb-true}
use Rattle.pktree.specs.Lists.{select}
use Rattle.pktree.specs.Panel.{Panel, Valid, OnPanel, Block}
use Rattle.pktree.specs.PixelSet.{member}
use Rattle.pktree.specs.Elements.{Forest, empty, pixel, block_at, ◌⧺◌, size, gather}
use Rattle.pktree.specs.Tree.{Instantiated, BlockOf, block_of, blocks, pixels}
use Rattle.pktree.specs.SmallestBlock.{Contains, Smallest, pixel_elements, IsElement, HasSmallest}
use Rattle.pktree.specs.Window.{holds_pixel, opened_by_pixel}
use Rattle.pktree.proofs.Alignment.{pow_pos, block_code, block_code_aligned, block_code_le, block_code_lt, block_code_unique, block_inside}
use Rattle.pktree.proofs.Arranged.{Arranged, arranged_le, member_append, member_after, member_before}
use Rattle.pktree.proofs.Forests.{blocks_join, block_cases}
use Rattle.pktree.proofs.LocalLaw.{gather_is_local}
use Rattle.pktree.proofs.Pixels.{pixels_of_gather, member_of_marked}
use Rattle.pktree.proofs.InTree.{block_ends, gather_has_many}

-- blocks inside a block of a forest are the forest's
pub inner_blocks : {i c : ℕ} {es : Forest} {b : BlockOf} (f : Forest) → Memᴰ (block_of i c es) (blocks f) → Memᴰ b (blocks es) → Memᴰ b (blocks f)
inner_blocks empty m n = absurd (Memᴰ.not-nil m)
inner_blocks (pixel d f) m n = inner_blocks f m n
inner_blocks {b = b} (block_at u j d fs f) m n =
    Memᴰ.tail (block_cases fs f m
    (λ e. Memᴰ.append_left (blocks f) (subst (λ (g : Forest). Memᴰ b (blocks g)) (ap (λ (a : BlockOf). a.elements) e) n))
    (λ t. Memᴰ.append_left (blocks f) (inner_blocks fs t n))
    (λ t. Memᴰ.append_right (blocks fs) (inner_blocks f t n)))

-- blocks lie where their elements do
blocks_between : {i c : ℕ} {es : Forest} (k n from to : ℕ) (f : Forest) → Arranged k n from to f → Memᴰ (block_of i c es) (blocks f) → (from ≤ c) × (c + 4 ^ i ≤ to)
blocks_between k n from to empty h m = absurd (Memᴰ.not-nil m)
blocks_between k n from to (pixel d f) h m = let r = blocks_between k n (suc d) to f h.1 m in (omega (arith, r.0), r.1)
blocks_between k n from to (block_at u j d fs f) h m =
    let ends : d + 4 ^ j ≤ to = arranged_le k n (d + 4 ^ j) to f h.7 in
    block_cases fs f m
    (λ e. rw (ap (λ (a : BlockOf). a.level) e, ap (λ (a : BlockOf). a.code) e) (h.0, ends))
    (λ t. let r = blocks_between k j d (d + 4 ^ j) fs h.6 t in (omega (arith, r.0), omega (arith, r.1, ends)))
    (λ t. let r = blocks_between k n (d + 4 ^ j) to f h.7 t in (omega (arith, r.0), r.1))

-- no block among these elements, nor inside one, contains the pixel
abbrev pub NoneContains : ℕ → Forest → Type 0
NoneContains x f = (i c : ℕ) (es : Forest) → Memᴰ (block_of i c es) (blocks f) → Contains i c x → ⊥

-- blocks that end before the pixel, or begin after it, do not contain it
pub none_before : {x : ℕ} (k n from to : ℕ) (f : Forest) → Arranged k n from to f → to ≤ x → NoneContains x f
none_before k n from to f h p i c es m inside = absurd (omega (arith, (blocks_between k n from to f h m).1, inside.1))

pub none_after : {x : ℕ} (k n from to : ℕ) (f : Forest) → Arranged k n from to f → x < from → NoneContains x f
none_after k n from to f h p i c es m inside = absurd (omega (arith, (blocks_between k n from to f h m).0, inside.0))

pub none_join : {x : ℕ} (f g : Forest) → NoneContains x f → NoneContains x g → NoneContains x (f ⧺ g)
none_join {x} f g u v i c es m inside = go (Memᴰ.append_cases (blocks f) (rw (blocks_join f g) at m))
  where
    go : Memᴰ (block_of i c es) (blocks f) ⊎ Memᴰ (block_of i c es) (blocks g) → ⊥
    go (inl a) = u i c es a inside
    go (inr b) = v i c es b inside

-- and ask opens none of them
pub none_opened : (x : ℕ) (f : Forest) → NoneContains x f → opened_by_pixel x f ≡ 0
none_opened x f none = go (blocks f) (λ b m. fails b (holds_pixel x b) refl (none b.level b.code b.elements m))
  where
    fails : (b : BlockOf) (t : Bool) → holds_pixel x b ≡ t → (Contains b.level b.code x → ⊥) → holds_pixel x b ≡ false
    fails b true e away =
        let h = (and-eq-true_iff (leb b.code x) (ltb x (b.code + 4 ^ b.level))).0 e in
        absurd (away (leb-true b.code x h.0, ltb-true x (b.code + 4 ^ b.level) h.1))
    fails b false e away = e

    go : (l : List BlockOf) → ((b : BlockOf) → Memᴰ b l → holds_pixel x b ≡ false) → length (select (holds_pixel x) l) ≡ 0
    go [] h = refl
    go (b ∷ l) h = rw (h b (Memᴰ.head refl)) (go l (λ c m. h c (Memᴰ.tail m)))

pub same_truth : (a b : Bool) → (a ≡ true) ↔ (b ≡ true) → a ≡ b
same_truth true b h = sym (h.0 refl)
same_truth false true h = h.1 refl
same_truth false false h = refl

-- such a pixel is marked only as an element
element_or_unmarked : (x k n from to : ℕ) (f : Forest) → Arranged k n from to f → NoneContains x f → member (pixel_elements f) x ≡ member (pixels f) x
element_or_unmarked x k n from to empty h none = refl
element_or_unmarked x k n from to (pixel c f) h none = rw (element_or_unmarked x k n (suc c) to f h.1 none)
element_or_unmarked x k n from to (block_at u i c es f) h none =
    element_or_unmarked x k n (c + 4 ^ i) to f h.7 (λ j d fs m. none j d fs (Memᴰ.tail (Memᴰ.append_right (blocks es) m)))
    ∙ sym (member_append (pixels es) (pixels f) x ∙ rw (outside (dec_lt x c)))
  where
    after : Dec (x < c + 4 ^ i) → (x < c → ⊥) → member (pixels es) x ≡ false
    after (yes q) p = absurd (none i c es (Memᴰ.head refl) (omega arith, q))
    after (no q) p = member_before k i c (c + 4 ^ i) es x h.6 (omega arith)

    outside : Dec (x < c) → member (pixels es) x ≡ false
    outside (yes p) = member_after k i c (c + 4 ^ i) es x h.6 p
    outside (no p) = after (dec_lt x (c + 4 ^ i)) p

module _ (panel : Panel) (marked : ℕ → Bool) (x : ℕ) where
  -- no block inside the smallest one contains the pixel
  none_inside : {level block : ℕ} → Smallest panel marked x level block → NoneContains x (gather marked panel.k level block)
  none_inside {level} {block} s i c es m inside =
      let h = (gather_has_many marked panel.k level block s.instantiated.of_panel.aligned).only i c es m in
      let there : Instantiated panel marked i c = record {
        of_panel = record {
          low = omega (arith, s.instantiated.of_panel.low);
          aligned = h.aligned;
          corner = omega (arith, pow_pos i, h.ends, block_ends s.instantiated.of_panel);
        };
        enough = inr h.enough;
      } in
      absurd (omega (arith, h.below, s.least i c there inside))

  -- the law, as an equation of tests; other crates rest on `element_exactly`
  pub marked_as_element : {level block : ℕ} → 2 ≤ panel.k → Smallest panel marked x level block → marked x ≡ member (pixel_elements (gather marked panel.k level block)) x
  marked_as_element {level} {block} k_from s =
      let b = s.instantiated.of_panel in
      let all : member (pixels (gather marked panel.k level block)) x ≡ marked x =
      ap (λ (l : List ℕ). member l x) (pixels_of_gather marked panel.k level block) ∙ member_of_marked marked (4 ^ level) block x s.contains.0 s.contains.1 in
      sym (element_or_unmarked x panel.k level block (block + 4 ^ level) (gather marked panel.k level block)
      (gather_is_local marked panel.k level block k_from b.aligned).arranged (none_inside s) ∙ all)

  -- the other way: an instantiated block that contains the pixel, where none inside it does, is the smallest
  pub smallest_if_none_inside : {level block : ℕ} → Instantiated panel marked level block → Contains level block x
      → NoneContains x (gather marked panel.k level block) → Smallest panel marked x level block
  smallest_if_none_inside {level} {block} it inside none =
      record { instantiated = it; contains = inside; least = λ i c there h. least i c there h (dec_lt i level) }
    where
      many : (i c : ℕ) → Instantiated panel marked i c → i < level → panel.k ≤ size (gather marked panel.k i c)
      many i c there p = go there.enough
        where
          go : (i ≡ panel.order) ⊎ (panel.k ≤ size (gather marked panel.k i c)) → panel.k ≤ size (gather marked panel.k i c)
          go (inl e) = absurd (omega (arith, it.of_panel.low))
          go (inr n) = n

      least : (i c : ℕ) → Instantiated panel marked i c → Contains i c x → Dec (i < level) → level ≤ i
      least i c there h (no p) = omega arith
      least i c there h (yes p) =
          let lies = block_inside i level x block (omega arith) it.of_panel.aligned inside.0 inside.1 in
          let e : block_code i x ≡ c = block_code_unique i x c there.of_panel.aligned h.0 h.1 in
          absurd (none i c (gather marked panel.k i c)
          ((gather_has_many marked panel.k level block it.of_panel.aligned).all i c (gather marked panel.k i c)
          (record { below = p; aligned = there.of_panel.aligned; starts = omega (arith, lies.0); ends = omega (arith, lies.1); enough = many i c there p; elements = refl }))
          h)

  -- there is only one
  pub one_smallest : {i c j d : ℕ} → Smallest panel marked x i c → Smallest panel marked x j d → (j ≡ i) × (d ≡ c)
  one_smallest {i} {c} {j} {d} s t =
      let e : j ≡ i = omega (arith, s.least j d t.instantiated t.contains, t.least i c s.instantiated s.contains) in
      let p : block_code i x ≡ c = block_code_unique i x c s.instantiated.of_panel.aligned s.contains.0 s.contains.1 in
      let q : block_code j x ≡ d = block_code_unique j x d t.instantiated.of_panel.aligned t.contains.0 t.contains.1 in
      (e, cc)

  -- the block of this level that contains the pixel
  around : (i : ℕ) → OnPanel panel x → i ≤ panel.order → Block panel i (block_code i x)
  around i on p = record { low = p; aligned = block_code_aligned i x; corner = omega (arith, block_code_le i x) }

  -- no block of a lower level around the pixel is instantiated
  NoneBelow : ℕ → Type 0
  NoneBelow i = (j : ℕ) → j < i → Instantiated panel marked j (block_code j x) → ⊥

  lowest_is_smallest : (i : ℕ) → Instantiated panel marked i (block_code i x) → NoneBelow i → Smallest panel marked x i (block_code i x)
  unfolding NoneBelow
  lowest_is_smallest i it none =
      record { instantiated = it; contains = (block_code_le i x, block_code_lt i x); least = λ j d there h. least j d there h (dec_lt j i) }
    where
      least : (j d : ℕ) → Instantiated panel marked j d → Contains j d x → Dec (j < i) → i ≤ j
      least j d there h (no p) = omega arith
      least j d there h (yes p) =
          let e : block_code j x ≡ d = block_code_unique j x d there.of_panel.aligned h.0 h.1 in
          absurd (none j p (rw e there))

  -- from the pixels up, the root at last
  climb : OnPanel panel x → (n i : ℕ) → i + n ≡ panel.order → NoneBelow i → (level : ℕ) × Smallest panel marked x level (block_code level x)
  unfolding NoneBelow
  climb on zero i e none =
      (i, lowest_is_smallest i (record { of_panel = around i on (omega arith); enough = inl (omega arith) }) none)
  climb on (suc n) i e none = go (dec_lt (size (gather marked panel.k i (block_code i x))) panel.k) (climb on n (suc i) (omega arith))
    where
      none_here : size (gather marked panel.k i (block_code i x)) < panel.k → Instantiated panel marked i (block_code i x) → ⊥
      none_here p it = few it.enough
        where
          few : (i ≡ panel.order) ⊎ (panel.k ≤ size (gather marked panel.k i (block_code i x))) → ⊥
          few (inl q) = absurd (omega arith)
          few (inr q) = absurd (omega arith)

      none_to : size (gather marked panel.k i (block_code i x)) < panel.k → NoneBelow (suc i)
      none_to p j q it = below (dec_lt j i)
        where
          below : Dec (j < i) → ⊥
          below (yes r) = none j r it
          below (no r) = let s : j ≡ i = omega arith in none_here p (rw s at it)

      go : Dec (size (gather marked panel.k i (block_code i x)) < panel.k) → (NoneBelow (suc i) → (level : ℕ) × Smallest panel marked x level (block_code level x))
          → (level : ℕ) × Smallest panel marked x level (block_code level x)
      go (yes p) higher = higher (none_to p)
      go (no p) higher = (i, lowest_is_smallest i (record { of_panel = around i on (omega arith); enough = inr (omega arith) }) none)

  pub has_smallest : Valid panel → OnPanel panel x → HasSmallest panel marked x
  unfolding NoneBelow
  has_smallest valid on =
      let (level, s) = climb on panel.order 0 (omega arith) (λ j p. absurd (omega arith)) in
      let e = marked_as_element valid.k_from s in
      record { level = level; block = block_code level x; smallest = s; only = λ i c t. one_smallest s t; law = rw e ((λ t. t), (λ t. t)) }

  -- the law of `HasSmallest`, of whichever block is the smallest
  pub element_exactly : {level block : ℕ} → Valid panel → Smallest panel marked x level block → (marked x ≡ true) ↔ IsElement panel marked x level block
  element_exactly {level} {block} valid s =
      let h = has_smallest valid (omega (arith, block_ends s.instantiated.of_panel, s.contains.1)) in
      let same = h.only level block s in
      subst₂ (λ (i c : ℕ). (marked x ≡ true) ↔ IsElement panel marked x i c) (sym same.0) (sym same.1) h.law
