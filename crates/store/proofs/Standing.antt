-- The laws of reading: what is read stands slot by slot in the words (found), what stands so is read (complete),
-- words that agree on the slots of a tree hold the same tree (frame) and read the same (agreeing-reads-same). Other proofs use these, not the
-- reading's text.
use Prim.Native.Nat.{ℕ, zero, suc, ◌+◌, ◌*◌, ◌/◌, ◌%◌, ◌^◌, ◌≤◌, ◌<◌, max}
use native.Mathlib.Omega.{arith}
use mathlib.Core.Path.{◌≡◌, refl, ap, ap₂, subst, sym, ◌∙◌}
use mathlib.Core.Bool.{Bool, true, false, ◌&&◌, cond}
use mathlib.Core.Option.{Option, none, some}
use mathlib.Core.List.{List, [], ◌∷◌, ◌++◌}
use lib.Dec.{eqb}
use lib.ListN.{take, drop, take-append-drop}
use borrow.Author.Tests.{eq-eqb, eqb-true}
use Rattle.elements.specs.Element.{block_tag, tag_level, tag_slot, tag_slots}
use Rattle.pktree.specs.Lists.{Every}
use Rattle.pktree.specs.Elements.{ForestOf, empty, pixel, size, block_at}
use Rattle.pktree.proofs.Arranged.{Arranged}
use Rattle.pktree.proofs.Absurd.{zero_is_not_one}
use Rattle.measures.specs.Slot.{slot_part, level_word, code_word, count_word, element_part}
use Rattle.store.specs.Placed.{Placed, slots_of}
use Rattle.store.specs.Reading.{pixel_before, block_before, read_elements, block_in, read_slot}

-- the words of elements
abbrev pub element_words : Placed → List ℕ
element_words empty = []
element_words (pixel c t) = c ∷ 0 ∷ element_words t
element_words (block_at s i c es t) = c ∷ block_tag s i ∷ element_words t

-- a slot's words say this level, code and elements
pub record SlotSays (part : List ℕ) (level code : ℕ) (es : Placed) : Type 0 where
  pub level_is : level_word part ≡ level
  pub code_is : code_word part ≡ code
  pub count_is : count_word part ≡ size es
  pub elements_are : take (2 * size es) (element_part part) ≡ element_words es

-- the blocks of t stand in their slots
abbrev pub Stands : ℕ → List ℕ → Placed → Type 0
Stands width words empty = Unit {0}
Stands width words (pixel c t) = Stands width words t
Stands width words (block_at s i c es t) = (s < tag_slots) × SlotSays (slot_part width words s) i c es × Stands width words es × Stands width words t

-- how many blocks stand around one another
abbrev pub depth : {A : Type 0} → ForestOf A → ℕ
depth empty = 0
depth (pixel c f) = depth f
depth (block_at v i c es f) = max (suc (depth es)) (depth f)

-- levels fall, so a block of level n has fewer than n blocks around one another inside it
pub depth_below_level : {A : Type 0} (k n from to : ℕ) (f : ForestOf A) → 1 ≤ n → Arranged k n from to f → depth f < n
depth_below_level k n from to empty h a = omega arith
depth_below_level k n from to (pixel c f) h a = depth_below_level k n (suc c) to f h a.1
depth_below_level k n from to (block_at v i c es f) h a =
    omega (arith, depth_below_level k i c (c + 4 ^ i) es a.2 a.6, depth_below_level k n (c + 4 ^ i) to f h a.7)

-- from the slots to the reading
tag_level_lem : (s i : ℕ) → s < tag_slots → (s + i * tag_slots) / tag_slots ≡ i
tag_level_lem s i h = omega arith

tag_slot_lem : (s i : ℕ) → s < tag_slots → (s + i * tag_slots) % tag_slots ≡ s
tag_slot_lem s i h = omega arith

slot_is_read : (read : ℕ → Option Placed) (s : ℕ) (part : List ℕ) (i c : ℕ) (es : Placed) → SlotSays part i c es
    → ((rest : List ℕ) → read_elements read (size es) (element_words es ++ rest) ≡ some es)
    → block_in s part (read_elements read (count_word part) (element_part part)) ≡ some (block_at s i c es empty)
slot_is_read read s part i c es h g =
    let n : ℕ = size es in
    let d : element_part part ≡ element_words es ++ drop (2 * n) (element_part part) =
    sym (take-append-drop (2 * n) (element_part part)) ∙ ap (λ (a : List ℕ). a ++ drop (2 * n) (element_part part)) h.elements_are in
    let e : read_elements read (count_word part) (element_part part) ≡ some es =
    ap₂ (read_elements read) h.count_is d ∙ g (drop (2 * n) (element_part part)) in
    rw (e, h.level_is, h.code_is)

block_is_read : (s i c : ℕ) (es t : Placed) → block_before i c (some (block_at s i c es empty)) (some t) ≡ some (block_at s i c es t)
block_is_read s i c es t = rw (eq-eqb i i refl, eq-eqb c c refl)

pub complete : (width : ℕ) (words : List ℕ) (d : ℕ) (t : Placed) (rest : List ℕ) → Stands width words t → depth t ≤ d
    → read_elements (read_slot width words d) (size t) (element_words t ++ rest) ≡ some t
unfolding read_slot
complete width words d empty rest h b = refl
complete width words d (pixel c t) rest h b = ap (pixel_before c) (complete width words d t rest h b)
complete width words zero (block_at s i c es t) rest h b = absurd (omega arith)
complete width words (suc d) (block_at s i c es t) rest h b =
    rw (tag_level_lem s i h.0, tag_slot_lem s i h.0)
    (ap₂ (block_before i c)
    (slot_is_read (read_slot width words d) s (slot_part width words s) i c es h.1 (λ u. complete width words d es u h.2 (omega arith)))
    (complete width words (suc d) t rest h.3 (omega arith))
    ∙ block_is_read s i c es t)

-- one block, as the root is
pub complete_slot : (width : ℕ) (words : List ℕ) (d s i c : ℕ) (es : Placed) → SlotSays (slot_part width words s) i c es → Stands width words es
    → depth es ≤ d → read_slot width words (suc d) s ≡ some (block_at s i c es empty)
unfolding read_slot
complete_slot width words d s i c es h g b = slot_is_read (read_slot width words d) s (slot_part width words s) i c es h (λ u. complete width words d es u g b)

-- from the reading to the slots
-- what a slot that can be read holds
pub record FoundSlot (width : ℕ) (words : List ℕ) (d s : ℕ) (u : Placed) : Type 0 where
  pub level : ℕ
  pub code : ℕ
  pub elements : Placed
  pub is : u ≡ block_at s level code elements empty
  pub says : SlotSays (slot_part width words s) level code elements
  pub stands : Stands width words elements
  pub shallow : suc (depth elements) ≤ d

record FoundElements (width : ℕ) (words : List ℕ) (d n : ℕ) (ws : List ℕ) (t : Placed) : Type 0 where
  count : size t ≡ n
  names : take (2 * n) ws ≡ element_words t
  stands : Stands width words t
  shallow : depth t ≤ d

two_more : (n a v : ℕ) (ws : List ℕ) → take (2 * suc n) (a ∷ v ∷ ws) ≡ a ∷ v ∷ take (2 * n) ws
two_more n a v ws = let e : 2 * suc n ≡ suc (suc (2 * n)) = omega arith in rw e

tag_again : (tag : ℕ) → block_tag (tag_slot tag) (tag_level tag) ≡ suc tag
tag_again tag = omega arith

-- an element whose block is refused for its header would read as nothing
header_agrees : (i c level code : ℕ) (b : Bool) (x t : Placed) → (eqb i level && eqb c code) ≡ b → cond b (some x) none ≡ some t
    → (i ≡ level) × (c ≡ code) × (x ≡ t)
header_agrees i c level code true x t e f = go (eqb i level) refl (eqb c code) refl
  where
    go : (p : Bool) → eqb i level ≡ p → (q : Bool) → eqb c code ≡ q → (i ≡ level) × (c ≡ code) × (x ≡ t)
    go true p true q = (eqb-true i level p, eqb-true c code q, (cc))
    go true p false q = zero_is_not_one (cc)
    go false p true q = zero_is_not_one (cc)
    go false p false q = zero_is_not_one (cc)
header_agrees i c level code false x t e f = zero_is_not_one (cc)

module _ (width : ℕ) (words : List ℕ) (d : ℕ) (one : (s : ℕ) (u : Placed) → read_slot width words d s ≡ some u → FoundSlot width words d s u) where
  found_elements : (n : ℕ) (ws : List ℕ) (t : Placed) → read_elements (read_slot width words d) n ws ≡ some t → FoundElements width words d n ws t
  found_elements zero ws t e =
      let z : empty ≡ t = cc in
      subst (λ (u : Placed). FoundElements width words d 0 ws u) z (record { count = refl; names = refl; stands = tt; shallow = omega arith })
  found_elements (suc n) [] t e = zero_is_not_one (cc)
  found_elements (suc n) (a ∷ []) t e = zero_is_not_one (cc)
  found_elements (suc n) (c ∷ zero ∷ ws) t e = go (read_elements (read_slot width words d) n ws) refl (found_elements n ws)
    where
      go : (o : Option Placed) → read_elements (read_slot width words d) n ws ≡ o
          → ((u : Placed) → read_elements (read_slot width words d) n ws ≡ some u → FoundElements width words d n ws u)
          → FoundElements width words d (suc n) (c ∷ 0 ∷ ws) t
      go none q ih = zero_is_not_one (cc)
      go (some u) q ih =
          let z : pixel c u ≡ t = cc in
          let r = ih u q in
          subst (λ (x : Placed). FoundElements width words d (suc n) (c ∷ 0 ∷ ws) x) z
          (record {
            count = ap suc r.count;
            names = two_more n c 0 ws ∙ ap (λ (l : List ℕ). c ∷ 0 ∷ l) r.names;
            stands = r.stands;
            shallow = r.shallow;
          })
  found_elements (suc n) (c ∷ suc tag ∷ ws) t e =
      go (read_slot width words d (tag_slot tag)) refl (read_elements (read_slot width words d) n ws) refl (found_elements n ws)
    where
      go : (p : Option Placed) → read_slot width words d (tag_slot tag) ≡ p → (o : Option Placed) → read_elements (read_slot width words d) n ws ≡ o
          → ((u : Placed) → read_elements (read_slot width words d) n ws ≡ some u → FoundElements width words d n ws u)
          → FoundElements width words d (suc n) (c ∷ suc tag ∷ ws) t
      go none y o q ih = zero_is_not_one (cc)
      go (some empty) y o q ih = zero_is_not_one (cc)
      go (some (pixel b x)) y o q ih = zero_is_not_one (cc)
      go (some (block_at s i b es x)) y none q ih = zero_is_not_one (cc)
      go (some (block_at s i b es x)) y (some u) q ih =
          let f = one (tag_slot tag) (block_at s i b es x) y in
          let r = ih u q in
          let z : cond (eqb i (tag_level tag) && eqb b c) (some (block_at s i b es u)) none ≡ some t = cc in
          let (ei, ec, et) = header_agrees i b (tag_level tag) c _ (block_at s i b es u) t refl z in
          let g : block_at (tag_slot tag) (tag_level tag) c f.elements u ≡ t = cc f.is in
          let gi : f.level ≡ tag_level tag = cc f.is in
          let gc : f.code ≡ c = cc f.is in
          subst (λ (v : Placed). FoundElements width words d (suc n) (c ∷ suc tag ∷ ws) v) g
          (record {
            count = ap suc r.count;
            names = two_more n c (suc tag) ws ∙ ap₂ (λ (v : ℕ) (l : List ℕ). c ∷ v ∷ l) (sym (tag_again tag)) r.names;
            stands = (
              omega arith,
              subst (λ (v : ℕ). SlotSays (slot_part width words (tag_slot tag)) (tag_level tag) v f.elements) gc
                  (subst (λ (v : ℕ). SlotSays (slot_part width words (tag_slot tag)) v f.code f.elements) gi f.says),
              f.stands,
              r.stands,
            );
            shallow = omega (arith, f.shallow, r.shallow);
          })

pub found : (width : ℕ) (words : List ℕ) (d s : ℕ) (u : Placed) → read_slot width words d s ≡ some u → FoundSlot width words d s u
unfolding read_slot
found width words zero s u e = zero_is_not_one (cc)
found width words (suc d) s u e =
    go (read_elements (read_slot width words d) (count_word (slot_part width words s)) (element_part (slot_part width words s))) refl
    (found_elements width words d (found width words d))
  where
    part : List ℕ
    part = slot_part width words s

    go : (o : Option Placed) → read_elements (read_slot width words d) (count_word part) (element_part part) ≡ o
        → ((n : ℕ) (ws : List ℕ) (t : Placed) → read_elements (read_slot width words d) n ws ≡ some t → FoundElements width words d n ws t)
        → FoundSlot width words (suc d) s u
    go none q g = zero_is_not_one (cc)
    go (some es) q g =
        let r = g (count_word part) (element_part part) es q in
        let z : u ≡ block_at s (level_word part) (code_word part) es empty = cc in
        record {
          level = level_word part;
          code = code_word part;
          elements = es;
          is = z;
          says = record {
            level_is = refl;
            code_is = refl;
            count_is = sym r.count;
            elements_are = subst (λ (n : ℕ). take (2 * n) (element_part part) ≡ element_words es) (sym r.count) r.names;
          };
          stands = r.stands;
          shallow = omega (arith, r.shallow);
        }

-- words that agree on the slots of a tree
pub every_left : (P : ℕ → Type 0) (a b : List ℕ) → Every P (a ++ b) → Every P a
every_left P [] b h = tt
every_left P (x ∷ a) b h = (h.0, every_left P a b h.1)

pub every_right : (P : ℕ → Type 0) (a b : List ℕ) → Every P (a ++ b) → Every P b
every_right P [] b h = h
every_right P (x ∷ a) b h = every_right P a b h.1

pub every_join : (P : ℕ → Type 0) (a b : List ℕ) → Every P a → Every P b → Every P (a ++ b)
every_join P [] b p q = q
every_join P (x ∷ a) b p q = (p.0, every_join P a b p.1 q)

pub frame : (width : ℕ) (words words' : List ℕ) (t : Placed) → Every (λ s. slot_part width words s ≡ slot_part width words' s) (slots_of t)
    → Stands width words t → Stands width words' t
frame width words words' empty e h = tt
frame width words words' (pixel c t) e h = frame width words words' t e h
frame width words words' (block_at s i c es t) e h = (
  h.0,
  subst (λ (p : List ℕ). SlotSays p i c es) e.0 h.1,
  frame width words words' es (every_left _ (slots_of es) (slots_of t) e.1) h.2,
  frame width words words' t (every_right _ (slots_of es) (slots_of t) e.1) h.3,
)

-- a store that agrees on the slots of the tree that is read reads the same
pub agreeing_reads_same : (width : ℕ) (words words' : List ℕ) (d s : ℕ) (t : Placed) → read_slot width words d s ≡ some t
    → Every (λ s. slot_part width words s ≡ slot_part width words' s) (slots_of t) → read_slot width words' d s ≡ some t
agreeing_reads_same width words words' zero s t r e = let f = found width words zero s t r in absurd (omega (arith, f.shallow))
agreeing_reads_same width words words' (suc d) s t r e =
    let f = found width words (suc d) s t r in
    let agree : Every (λ s. slot_part width words s ≡ slot_part width words' s) (s ∷ (slots_of f.elements ++ [])) =
    subst (λ (u : Placed). Every (λ s. slot_part width words s ≡ slot_part width words' s) (slots_of u)) f.is e in
    complete_slot width words' d s f.level f.code f.elements
    (subst (λ (p : List ℕ). SlotSays p f.level f.code f.elements) agree.0 f.says)
    (frame width words words' f.elements (every_left _ (slots_of f.elements) [] agree.1) f.stands) (omega (arith, f.shallow))
    ∙ ap some (sym f.is)
