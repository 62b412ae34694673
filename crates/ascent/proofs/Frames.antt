-- The blocks of the way around the one that is changed: they are right, and stand in their slots.
use Prim.Native.Nat.{ℕ, ◌+◌, ◌^◌, ◌≤◌, ◌<◌, zero, suc}
use mathlib.Core.Path.{◌≡◌, refl, ap, ap₂, subst, sym, ◌∙◌}
use mathlib.Core.Logic.{◌⊎◌, inl, inr}
use mathlib.Core.List.{List, [], ◌∷◌, ◌++◌}
use Rattle.pktree.specs.Panel.{Aligned}
use Rattle.pktree.specs.Elements.{◌⧺◌, size, block_at, empty}
use Rattle.pktree.proofs.Arranged.{Arranged, LocallyRight, arranged_le}
use Rattle.measures.specs.Slot.{slot_part}
use Rattle.elements.specs.Element.{tag_slots}
use Rattle.store.specs.Placed.{Placed, slots_of}
use Rattle.store.proofs.Standing.{SlotSays, Stands}
use Rattle.descent.specs.Way.{Frame, plug}
use native.Mathlib.Omega.{arith}
use Rattle.pktree.specs.Tree.{pixels}
use Rattle.pktree.proofs.Forests.{size_join, pixels_join}
use Rattle.pktree.proofs.Edits.{keep_block}

-- a block of level i and code d, in whatever slot, stands right between the elements of a block of the way
pub record FrameRight (k m : ℕ) (f : Frame) (i d : ℕ) : Type 0 where
  pub was : ℕ
  pub old : Placed
  pub right : LocallyRight k f.level f.code (f.before ⧺ block_at was i d old f.after)
  pub aligned : Aligned f.level f.code
  pub enough : (f.level ≡ m) ⊎ (k ≤ size (f.before ⧺ block_at was i d old f.after))
  pub low : Arranged k f.level f.code d f.before
  pub under : i < f.level
  pub one : 1 ≤ i
  pub inner : Aligned i d
  pub high : Arranged k f.level (d + 4 ^ i) (f.code + 4 ^ f.level) f.after

-- so all the way up to the root
abbrev pub FramesRight : ℕ → ℕ → List Frame → ℕ → ℕ → Type 0
FramesRight k m [] i d = (i ≡ m) × (d ≡ 0)
FramesRight k m (f ∷ way) i d = FrameRight k m f i d × FramesRight k m way f.level f.code

-- every block of the way names the next one; the root is in slot 0
abbrev pub FramesStand : ℕ → List ℕ → List Frame → ℕ → ℕ → ℕ → Type 0
FramesStand width words [] s i d = s ≡ 0
FramesStand width words (f ∷ way) s i d =
    (s < tag_slots) × SlotSays (slot_part width words f.slot) f.level f.code (f.before ⧺ block_at s i d empty f.after)
    × Stands width words f.before × Stands width words f.after × FramesStand width words way f.slot f.level f.code

-- the root stands in slot 0
pub record RootStands (width : ℕ) (words : List ℕ) (m : ℕ) (es : Placed) : Type 0 where
  pub says : SlotSays (slot_part width words 0) m 0 es
  pub stands : Stands width words es

-- the slots of the way: each frame's own and those beside it
abbrev pub way_slots : List Frame → List ℕ
way_slots [] = []
way_slots (f ∷ way) = f.slot ∷ (slots_of f.before ++ (slots_of f.after ++ way_slots way))

-- The blocks around the one that is changed: what is right of them, and that the tree is right again once the changed block is.
-- the elements of the root, with these in the block at the end of the way
abbrev pub root_elements : List Frame → ℕ → ℕ → ℕ → Placed → Placed
root_elements [] s i d es = es
root_elements (f ∷ way) s i d es = root_elements way f.slot f.level f.code (f.before ⧺ block_at s i d es f.after)

abbrev pub root_slot : List Frame → ℕ → ℕ
root_slot [] s = s
root_slot (f ∷ way) s = root_slot way f.slot

pub plug_root : (k m : ℕ) (way : List Frame) (s i d : ℕ) (es : Placed) → FramesRight k m way i d
    → plug way s i d es ≡ block_at (root_slot way s) m 0 (root_elements way s i d es) empty
plug_root k m [] s i d es h = ap₂ (λ (l c : ℕ). block_at s l c es empty) h.0 h.1
plug_root k m (f ∷ way) s i d es h = plug_root k m way f.slot f.level f.code (f.before ⧺ block_at s i d es f.after) h.1

-- contents of the same pixels
pub plug_pixels : (way : List Frame) (s level code : ℕ) (es fs : Placed) → pixels es ≡ pixels fs
    → pixels (plug way s level code es) ≡ pixels (plug way s level code fs)
plug_pixels [] s level code es fs e = ap (λ (l : List ℕ). l ++ []) e
plug_pixels (f ∷ way) s level code es fs e =
    plug_pixels way f.slot f.level f.code (f.before ⧺ block_at s level code es f.after) (f.before ⧺ block_at s level code fs f.after)
    (pixels_join f.before (block_at s level code es f.after)
    ∙ ap (λ (l : List ℕ). pixels f.before ++ (l ++ pixels f.after)) e
    ∙ sym (pixels_join f.before (block_at s level code fs f.after)))

pub frames_level : (k m : ℕ) (way : List Frame) (i d : ℕ) → FramesRight k m way i d → i ≤ m
frames_level k m [] i d h = omega arith
frames_level k m (f ∷ way) i d h = omega (arith, frames_level k m way f.level f.code h.1, h.0.under)

-- x lies in every block of the way
pub frame_holds : (k m : ℕ) (f : Frame) (i d x : ℕ) → FrameRight k m f i d → d ≤ x → x < d + 4 ^ i → (f.code ≤ x) × (x < f.code + 4 ^ f.level)
frame_holds k m f i d x h lo hi = (
  omega (arith, arranged_le k f.level f.code d f.before h.low),
  omega (arith, arranged_le k f.level (d + 4 ^ i) (f.code + 4 ^ f.level) f.after h.high),
)

-- as many elements, whatever the block holds
size_same : (a b f g : Placed) (s t i d : ℕ) → size (a ⧺ block_at s i d f b) ≡ size (a ⧺ block_at t i d g b)
size_same a b f g s t i d = size_join a (block_at s i d f b) ∙ sym (size_join a (block_at t i d g b))

level_above : (i l : ℕ) → i < l → (n : ℕ) × (l ≡ suc n)
level_above i zero h = absurd (omega arith)
level_above i (suc n) h = (n, refl)

-- a block that is right and has k elements, or is the root, makes the whole right
pub whole_right : (k m : ℕ) (way : List Frame) (s i d x : ℕ) (es : Placed) → 2 ≤ k → FramesRight k m way i d → d ≤ x → x < d + 4 ^ i
    → LocallyRight k i d es → (i ≡ m) ⊎ (k ≤ size es) → LocallyRight k m 0 (root_elements way s i d es)
whole_right k m [] s i d x es h2 h lo hi r e = subst (λ (c : ℕ). LocallyRight k m c es) h.1 (subst (λ (l : ℕ). LocallyRight k l d es) h.0 r)
whole_right k m (f ∷ way) s i d x es h2 h lo hi r (inl e) = absurd (omega (arith, frames_level k m way f.level f.code h.1, h.0.under))
whole_right k m (f ∷ way) s i d x es h2 h lo hi r (inr e) =
    let g = h.0 in
    let in_f = frame_holds k m f i d x g lo hi in
    let (n, l) = level_above i f.level g.under in
    whole_right k m way f.slot f.level f.code x (f.before ⧺ block_at s i d es f.after) h2 h.1 in_f.0 in_f.1
    (kept n l g)
    (more g.enough)
  where
    kept : (n : ℕ) → f.level ≡ suc n → FrameRight k m f i d → LocallyRight k f.level f.code (f.before ⧺ block_at s i d es f.after)
    kept n l g =
        let in_f = frame_holds k m f i d x g lo hi in
        subst (λ (j : ℕ). LocallyRight k j f.code (f.before ⧺ block_at s i d es f.after)) (sym l)
        (keep_block k n f.code x h2 (subst (λ (j : ℕ). Aligned j f.code) l g.aligned) in_f.0 (subst (λ (j : ℕ). x < f.code + 4 ^ j) l in_f.1) g.was _
        f.before f.after g.old i d refl (subst (λ (j : ℕ). LocallyRight k j f.code (f.before ⧺ block_at g.was i d g.old f.after)) l g.right)
        (subst (λ (j : ℕ). Arranged k j f.code d f.before) l g.low) (subst (λ (j : ℕ). i < j) l g.under) g.inner lo hi
        (subst (λ (j : ℕ). Arranged k j (d + 4 ^ i) (f.code + 4 ^ j) f.after) l g.high) s es g.one e r)

    more : (f.level ≡ m) ⊎ (k ≤ size (f.before ⧺ block_at h.0.was i d h.0.old f.after)) → (f.level ≡ m) ⊎ (k ≤ size (f.before ⧺ block_at s i d es f.after))
    more (inl q) = inl q
    more (inr q) = inr (omega (arith, size_same f.before f.after es h.0.old s h.0.was i d))
