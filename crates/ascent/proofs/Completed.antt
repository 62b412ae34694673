-- The change has come to rest: the store is that of a register again.
use Prim.Native.Nat.{ℕ, ◌+◌, ◌^◌, ◌≤◌, ◌<◌}
use mathlib.Core.Path.{◌≡◌, ap, sym, ◌∙◌}
use mathlib.Core.List.{List, ◌∷◌, [], ◌++◌, append-nil}
use Rattle.pktree.specs.Tree.{pixels}
use Rattle.pktree.proofs.Arranged.{LocallyRight}
use Rattle.measures.specs.Slot.{slot_part}
use Rattle.store.specs.Placed.{Placed, slots_of}
use Rattle.freeslots.specs.FreeSlots.{occurrences}
use Rattle.store.specs.Numbers.{Numbered}
use Rattle.store.specs.Sound.{SlotsShared}
use Rattle.store.proofs.Standing.{SlotSays, Stands}
use Rattle.ascent.proofs.Pending.{Setting, width_in, slots_in}
use native.Mathlib.Omega.{arith}
use mathlib.Core.Logic.{◌⊎◌}
use Rattle.pktree.specs.Elements.{size, block_at, empty}
use Rattle.freeslots.proofs.FreeChains.{occurrences_join}
use Rattle.store.proofs.SlotsLeft.{SlotsLeft}
use Rattle.descent.specs.Way.{Frame, plug}
use Rattle.ascent.proofs.Frames.{RootStands, FramesRight, way_slots, FramesStand, root_elements, root_slot, plug_root, whole_right}
use Rattle.ascent.proofs.SlotCounts.{plug_slots, shared_moves}
use Rattle.ascent.proofs.FramesStand.{root_stands}

pub record Completed (σ : Setting) (words : List ℕ) : Type 0 where
  pub es : Placed
  pub free : List ℕ
  pub root : RootStands (width_in σ) words σ.m es
  pub right : LocallyRight σ.k σ.m 0 es
  pub free_chain : SlotsLeft (width_in σ) (slots_in σ) words free
  pub shared : SlotsShared (slots_in σ) (0 ∷ slots_of es) free
  pub pixels_are : pixels es ≡ σ.target
  pub numbered : Numbered (width_in σ) (slots_in σ) words σ.target

-- Where the block at the end of the way is right, the change has come to rest.
-- the block at the end of the way is right, with k elements or as the root, and all stands
pub record AtRest (σ : Setting) (words : List ℕ) (way : List Frame) (s level code : ℕ) (es : Placed) (free : List ℕ) : Type 0 where
  pub frames_right : FramesRight σ.k σ.m way level code
  pub frames_stand : FramesStand (width_in σ) words way s level code
  pub above : code ≤ σ.x
  pub below : σ.x < code + 4 ^ level
  pub says : SlotSays (slot_part (width_in σ) words s) level code es
  pub stands : Stands (width_in σ) words es
  pub right : LocallyRight σ.k level code es
  pub enough : (level ≡ σ.m) ⊎ (σ.k ≤ size es)
  pub free_chain : SlotsLeft (width_in σ) (slots_in σ) words free
  pub shared : SlotsShared (slots_in σ) (way_slots way ++ (s ∷ slots_of es)) free
  pub pixels_are : pixels (plug way s level code es) ≡ σ.target
  pub numbered : Numbered (width_in σ) (slots_in σ) words σ.target

root_in_slot_0 : (width : ℕ) (words : List ℕ) (way : List Frame) (s i d : ℕ) → FramesStand width words way s i d → root_slot way s ≡ 0
root_in_slot_0 width words [] s i d h = h
root_in_slot_0 width words (f ∷ way) s i d h = root_in_slot_0 width words way f.slot f.level f.code h.4

pub completed : {σ : Setting} {words : List ℕ} {way : List Frame} {s level code : ℕ} {es : Placed} {free : List ℕ} → AtRest σ words way s level code es free → Completed σ words
completed {σ} {words} {way} {s} {level} {code} {es} {free} h =
    let root : Placed = root_elements way s level code es in
    let e : plug way s level code es ≡ block_at 0 σ.m 0 root empty =
    plug_root σ.k σ.m way s level code es h.frames_right
    ∙ ap (λ (t : ℕ). block_at t σ.m 0 root empty) (root_in_slot_0 (width_in σ) words way s level code h.frames_stand) in
    record {
      es = root;
      free = free;
      root = root_stands σ.k σ.m (width_in σ) words way s level code es h.frames_right h.frames_stand h.says h.stands;
      right = whole_right σ.k σ.m way s level code σ.x es σ.k_from h.frames_right h.above h.below h.right h.enough;
      free_chain = h.free_chain;
      shared = shared_moves (slots_in σ) (way_slots way ++ (s ∷ slots_of es)) free (0 ∷ slots_of root) free h.shared
          (λ t. omega (
            arith,
            plug_slots t way s level code es,
            ap (λ (p : Placed). occurrences t (slots_of p)) e,
            ap (λ (l : List ℕ). occurrences t (0 ∷ l)) (append-nil (slots_of root)),
            occurrences_join t (way_slots way ++ (s ∷ slots_of es)) free,
            occurrences_join t (way_slots way) (s ∷ slots_of es),
            occurrences_join t (0 ∷ slots_of root) free,
          ));
      pixels_are = sym (append-nil (pixels root)) ∙ ap (λ (p : Placed). pixels p) (sym e) ∙ h.pixels_are;
      numbered = h.numbered;
    }
