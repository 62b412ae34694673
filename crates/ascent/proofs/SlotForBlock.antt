-- A slot is free for a block that is to be formed.
use Prim.Native.Nat.{ℕ, suc, ◌≤◌, ◌<◌}
use native.Mathlib.Omega.{arith}
use mathlib.Core.Path.{◌≡◌, ap, subst, sym, ◌∙◌}
use mathlib.Core.Logic.{◌⊎◌}
use mathlib.Core.List.{List, [], ◌∷◌, ◌++◌, append-nil}
use lib.ListN.{length}
use Rattle.pktree.specs.Elements.{size, ◌⧺◌, block_at, empty}
use Rattle.pktree.specs.Tree.{pixels}
use Rattle.pktree.proofs.Forests.{block_count, block_count_join}
use Rattle.pktree.proofs.Arranged.{LocallyRight}
use Rattle.measures.specs.Sizes.{slot_count}
use Rattle.store.specs.Placed.{Placed, slots_of}
use Rattle.store.specs.Sound.{SlotsShared}
use Rattle.store.proofs.PlacedJoin.{slots_are_blocks}
use Rattle.store.proofs.SoundView.{slots_suffice}
use Rattle.store.proofs.SlotTotals.{shared_length}
use Rattle.freeslots.proofs.FreeChains.{occurrences_join}
use Rattle.descent.specs.Way.{Frame, plug}
use Rattle.ascent.proofs.Frames.{way_slots, root_elements, root_slot, plug_root, plug_pixels, whole_right}
use Rattle.ascent.proofs.Pending.{Setting, slots_in, Around}
use Rattle.ascent.proofs.Around.{holds_x}
use Rattle.ascent.proofs.SlotCounts.{plug_slots, shared_moves}

-- where fewer blocks stand than there are slots, one is free
pub some_free : (n : ℕ) (used free : List ℕ) → SlotsShared n used free → length used < n → free ≡ [] → ⊥
some_free n used free h few e = omega (arith, shared_length h, ap length e)

-- the blocks of a plugged tree
plug_blocks : (way : List Frame) (s i d : ℕ) (es fs : Placed) → block_count fs ≡ suc (block_count es)
    → block_count (plug way s i d fs) ≡ suc (block_count (plug way s i d es))
plug_blocks [] s i d es fs e = omega arith
plug_blocks (f ∷ way) s i d es fs e =
    plug_blocks way f.slot f.level f.code (f.before ⧺ block_at s i d es f.after) (f.before ⧺ block_at s i d fs f.after)
    (omega (
      arith,
      block_count_join f.before (block_at s i d es f.after),
      block_count_join f.before (block_at s i d fs f.after),
    ))

-- one block more makes a right tree of at most N pixels: so a slot for it is free
pub slot_for_block : {σ : Setting} {words : List ℕ} {way : List Frame} {s level code : ℕ} {es fs : Placed} {free : List ℕ} → Around σ words way s level code es free
    → LocallyRight σ.k level code fs → (level ≡ σ.m) ⊎ (σ.k ≤ size fs) → block_count fs ≡ suc (block_count es) → pixels fs ≡ pixels es → free ≡ [] → ⊥
slot_for_block {σ} {words} {way} {s} {level} {code} {es} {fs} {free} o right enough one same e =
    let root : Placed = root_elements way s level code fs in
    let q : plug way s level code fs ≡ block_at (root_slot way s) σ.m 0 root empty = plug_root σ.k σ.m way s level code fs o.frames_right in
    let w : LocallyRight σ.k σ.m 0 root = whole_right σ.k σ.m way s level code σ.x fs σ.k_from o.frames_right (holds_x o).0 (holds_x o).1 right enough in
    let p : pixels root ≡ σ.target = sym (append-nil (pixels root)) ∙ ap pixels (sym q) ∙ plug_pixels way s level code fs es same ∙ o.pixels_are in
    let b : suc (block_count root) ≤ slot_count σ.k σ.most =
    slots_suffice σ.k σ.m σ.most root σ.k_from σ.most_from w (subst (λ (l : List ℕ). length l ≤ σ.most) (sym p) σ.few) in
    let u : List ℕ = slots_of (plug way s level code es) in
    let moved : SlotsShared (slots_in σ) u free = shared_moves (slots_in σ) (way_slots way ++ (s ∷ slots_of es)) free u free o.shared
    (λ t. omega (
      arith,
      plug_slots t way s level code es,
      occurrences_join t u free,
      occurrences_join t (way_slots way ++ (s ∷ slots_of es)) free,
      occurrences_join t (way_slots way) (s ∷ slots_of es),
    )) in
    some_free (slots_in σ) u free moved
    (omega (
      arith,
      slots_are_blocks (plug way s level code es),
      plug_blocks way s level code es fs one,
      ap block_count q,
      σ.slots_is,
    ))
    e
