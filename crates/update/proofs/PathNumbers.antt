-- The numbers of the path's blocks changed by one are right for the set to come: the changed pixel lies in these blocks and in no other.
use Prim.Native.Nat.{ℕ, suc, ◌+◌, ◌-◌, ◌^◌, ◌≤◌, ◌<◌}
use native.Mathlib.Omega.{arith}
use native.Mathlib.Decide.{dec_le}
use mathlib.Core.Path.{◌≡◌, refl, ap, ap₂, sym, ◌∙◌}
use mathlib.Core.Logic.{◌⊎◌, inl, inr}
use mathlib.Core.List.{List, [], ◌∷◌, ◌++◌}
use lib.ListN.{length}
use Rattle.pktree.specs.Lists.{Every}
use Rattle.pktree.specs.Elements.{empty, pixel, block_at}
use Rattle.pktree.proofs.Arranged.{Arranged, arranged_le}
use Rattle.measures.specs.Sizes.{largest_most}
use Rattle.measures.specs.declared.sizes.Layout.{Layout}
use Rattle.measures.specs.Slot.{slot_part, level_word, code_word, number_word}
use Rattle.store.specs.Placed.{Placed, slots_of}
use Rattle.freeslots.specs.FreeSlots.{FreeSlots, occurrences}
use Rattle.store.specs.Sound.{SlotsShared}
use Rattle.store.specs.Numbers.{number_between, number_in, NumberRight, Numbered}
use Rattle.store.proofs.Standing.{Stands, every_join}
use Rattle.freeslots.proofs.FreeChains.{occurrences_join}
use Rattle.store.proofs.SlotTotals.{every_occurs}
use Rattle.store.proofs.BlockNumbers.{chain_levels}
use Rattle.store.proofs.NumbersBetween.{number_few}
use Rattle.descent.specs.Way.{Frame}
use Rattle.descent.specs.declared.Passed.{Passed}
use Rattle.descent.specs.Located.{PathNames}
use Rattle.ascent.proofs.Frames.{FramesRight, FramesStand, way_slots, frame_holds}
use Rattle.renumbering.specs.Renumber.{path_slots, PathRenumbered}

-- the slots of the way's own blocks, and of those beside them
abbrev pub frame_slots : List Frame → List ℕ
frame_slots [] = []
frame_slots (f ∷ way) = f.slot ∷ frame_slots way

abbrev beside_slots : List Frame → List ℕ
beside_slots [] = []
beside_slots (f ∷ way) = slots_of f.before ++ (slots_of f.after ++ beside_slots way)

way_slots_lem : (t : ℕ) (way : List Frame) → occurrences t (way_slots way) ≡ occurrences t (frame_slots way) + occurrences t (beside_slots way)
way_slots_lem t [] = refl
way_slots_lem t (f ∷ way) =
    let u : List ℕ = slots_of f.before in
    let v : List ℕ = slots_of f.after in
    omega (
      arith,
      way_slots_lem t way,
      occurrences_join t (f.slot ∷ []) (u ++ (v ++ way_slots way)),
      occurrences_join t u (v ++ way_slots way),
      occurrences_join t v (way_slots way),
      occurrences_join t (f.slot ∷ []) (frame_slots way),
      occurrences_join t u (v ++ beside_slots way),
      occurrences_join t v (beside_slots way),
    )

pub path_is : (passed : List Passed) (way : List Frame) → PathNames passed way → path_slots passed (length way) ≡ frame_slots way
path_is passed [] h = refl
path_is passed (f ∷ way) h = ap₂ ◌∷◌ (ap (λ (p : Passed). p.slot) h.0) (path_is passed way h.1)

-- a code lies in the block that a slot says, or beside it
abbrev InBlock : ℕ → List ℕ → Type 0
InBlock x part = (code_word part ≤ x) × (x < code_word part + 4 ^ level_word part)

abbrev Beside : ℕ → List ℕ → Type 0
Beside x part = (x < code_word part) ⊎ (code_word part + 4 ^ level_word part ≤ x)

module _ (k x width : ℕ) (words : List ℕ) where
  beside_below : (n lo hi : ℕ) (f : Placed) → Arranged k n lo hi f → Stands width words f → hi ≤ x → Every (λ t. Beside x (slot_part width words t)) (slots_of f)
  beside_below n lo hi empty h st p = tt
  beside_below n lo hi (pixel c t) h st p = beside_below n (suc c) hi t h.1 st p
  beside_below n lo hi (block_at s i c es t) h st p =
      let e = arranged_le k n (c + 4 ^ i) hi t h.7 in (
        inr (rw (st.1.level_is, st.1.code_is) (omega arith)),
        every_join _ (slots_of es) (slots_of t) (beside_below i c (c + 4 ^ i) es h.6 st.2 (omega arith)) (beside_below n (c + 4 ^ i) hi t h.7 st.3 p),
      )

  beside_above : (n lo hi : ℕ) (f : Placed) → Arranged k n lo hi f → Stands width words f → x < lo → Every (λ t. Beside x (slot_part width words t)) (slots_of f)
  beside_above n lo hi empty h st p = tt
  beside_above n lo hi (pixel c t) h st p = beside_above n (suc c) hi t h.1 st (omega (arith, h.0))
  beside_above n lo hi (block_at s i c es t) h st p = (
    inl (rw st.1.code_is (omega (arith, h.0))),
    every_join _ (slots_of es) (slots_of t) (beside_above i c (c + 4 ^ i) es h.6 st.2 (omega (arith, h.0))) (beside_above n (c + 4 ^ i) hi t h.7 st.3 (omega (arith, h.0))),
  )

  frames_hold : (m : ℕ) (way : List Frame) (s i d : ℕ) → FramesRight k m way i d → FramesStand width words way s i d → d ≤ x → x < d + 4 ^ i
      → Every (λ t. InBlock x (slot_part width words t)) (frame_slots way)
  frames_hold m [] s i d h st lo hi = tt
  frames_hold m (f ∷ way) s i d h st lo hi =
      let in_f = frame_holds k m f i d x h.0 lo hi in
      (rw (st.1.level_is, st.1.code_is) in_f, frames_hold m way f.slot f.level f.code h.1 st.4 in_f.0 in_f.1)

  frames_beside : (m : ℕ) (way : List Frame) (s i d : ℕ) → FramesRight k m way i d → FramesStand width words way s i d → d ≤ x → x < d + 4 ^ i
      → Every (λ t. Beside x (slot_part width words t)) (beside_slots way)
  frames_beside m [] s i d h st lo hi = tt
  frames_beside m (f ∷ way) s i d h st lo hi =
      let in_f = frame_holds k m f i d x h.0 lo hi in
      every_join _ (slots_of f.before) (slots_of f.after ++ beside_slots way) (beside_below f.level f.code d f.before h.0.low st.2 lo)
      (every_join _ (slots_of f.after) (beside_slots way) (beside_above f.level (d + 4 ^ i) (f.code + 4 ^ f.level) f.after h.0.high st.3 hi)
      (frames_beside m way f.slot f.level f.code h.1 st.4 in_f.0 in_f.1))

-- how the numbers of the two sets differ
pub record PixelChange (x : ℕ) (was target : List ℕ) (removed inserted : ℕ) : Type 0 where
  pub inside : (from to : ℕ) → from ≤ x → x < to → (removed ≤ number_between from to was) × (number_between from to target ≡ number_between from to was - removed + inserted)
  pub outside : (from to : ℕ) → (x < from) ⊎ (to ≤ x) → number_between from to target ≡ number_between from to was

pub path_numbered : (k m : ℕ) (way : List Frame) (a b : Placed) {layout : Layout} {x s i d removed inserted : ℕ} {before after was target free : List ℕ}
    → Numbered layout.width layout.slots before was → length was ≤ largest_most → PixelChange x was target removed inserted
    → FramesRight k m way i d → FramesStand layout.width before way s i d → d ≤ x → x < d + 4 ^ i
    → level_word (slot_part layout.width before s) ≡ i → code_word (slot_part layout.width before s) ≡ d
    → Arranged k i d x a → Stands layout.width before a → Arranged k i (suc x) (d + 4 ^ i) b → Stands layout.width before b
    → FreeSlots layout.width before free → SlotsShared layout.slots (way_slots way ++ (s ∷ (slots_of a ++ slots_of b))) free
    → PathRenumbered layout (s ∷ frame_slots way) removed inserted before after → Numbered layout.width layout.slots after target
path_numbered k m way a b {layout} {x} {s} {i} {d} {removed} {inserted} {before} {after} {was} {target} {free} numbered few one right stand lo hi level_is code_is low sa high sb chain shared r =
    record { each = λ t below. go t below (dec_le 1 (occurrences t (s ∷ frame_slots way))) (dec_le 1 (occurrences t free)) }
  where
    width : ℕ
    width = layout.width

    on_path : Every (λ t. InBlock x (slot_part width before t)) (s ∷ frame_slots way)
    on_path = (rw (level_is, code_is) (lo, hi), frames_hold k x width before m way s i d right stand lo hi)

    off_path : Every (λ t. Beside x (slot_part width before t)) (beside_slots way ++ (slots_of a ++ slots_of b))
    off_path =
        every_join _ (beside_slots way) (slots_of a ++ slots_of b) (frames_beside k x width before m way s i d right stand lo hi)
        (every_join _ (slots_of a) (slots_of b) (beside_below k x width before i d x a low sa (omega arith)) (beside_above k x width before i (suc x) (d + 4 ^ i) b high sb (omega arith)))

    counts : (t : ℕ) → t < layout.slots → occurrences t (s ∷ frame_slots way) + (occurrences t (beside_slots way ++ (slots_of a ++ slots_of b)) + occurrences t free) ≡ 1
    counts t below =
        omega (
          arith,
          shared.once t below,
          occurrences_join t (way_slots way ++ (s ∷ (slots_of a ++ slots_of b))) free,
          occurrences_join t (way_slots way) (s ∷ (slots_of a ++ slots_of b)),
          occurrences_join t (s ∷ []) (slots_of a ++ slots_of b),
          occurrences_join t (s ∷ []) (frame_slots way),
          occurrences_join t (beside_slots way) (slots_of a ++ slots_of b),
          way_slots_lem t way,
        )

    go : (t : ℕ) → t < layout.slots → Dec (1 ≤ occurrences t (s ∷ frame_slots way)) → Dec (1 ≤ occurrences t free) → NumberRight target (slot_part width after t)
    go t below (yes p) f up =
        let same = r.same t in
        let level : ℕ = level_word (slot_part width before t) in
        let code : ℕ = code_word (slot_part width before t) in
        let holds : InBlock x (slot_part width before t) = every_occurs (λ u. InBlock x (slot_part width before u)) t (s ∷ frame_slots way) on_path p in
        let was_right : number_word (slot_part width before t) ≡ number_in was level code = numbered.each t below (omega (arith, same.level_is)) in
        let change = one.inside code (code + 4 ^ level) holds.0 holds.1 in
        let now = (r.on_path t (omega (arith, counts t below))).says (omega (arith, was_right, number_few code (code + 4 ^ level) was)) (omega (arith, was_right, change.0)) in
        now ∙ omega (arith, was_right, change.1) ∙ sym (ap₂ (number_in target) same.level_is same.code_is)
    go t below (no p) (yes f) up =
        let free-level = every_occurs (λ u. level_word (slot_part width before u) ≡ 0) t free (chain_levels width before _ free chain) f in
        absurd (omega (arith, up, free-level, (r.same t).level_is))
    go t below (no p) (no f) up =
        let e = r.off_path t (omega arith) in
        let level : ℕ = level_word (slot_part width before t) in
        let code : ℕ = code_word (slot_part width before t) in
        let beside = every_occurs (λ u. Beside x (slot_part width before u)) t (beside_slots way ++ (slots_of a ++ slots_of b)) off_path (omega (arith, counts t below)) in
        rw e (numbered.each t below (omega (arith, up, (r.same t).level_is)) ∙ sym (one.outside code (code + 4 ^ level) beside))
