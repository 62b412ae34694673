-- The way down a sound store: every block on it is seen as the walks see blocks, and the path names its frames.
use Prim.Native.Nat.{ℕ, ◌≤◌, ◌<◌}
use native.Mathlib.Omega.{arith}
use mathlib.Core.Path.{◌≡◌, refl}
use mathlib.Core.List.{List, [], ◌∷◌}
use lib.ListN.{length, set}
use lib.Seq.{get_or-set_same, get_or-set_other}
use Rattle.pktree.specs.Elements.{size, ◌⧺◌, block_at}
use Rattle.measures.specs.Sizes.{slot_count, slot_width, sizes_of}
use Rattle.store.specs.Placed.{Placed}
use Rattle.store.specs.Sound.{Sound}
use Rattle.store.proofs.SoundView.{sound_view}
use Rattle.store.proofs.BlockView.{BlockView, ChildView, child_view, root_view}
use Rattle.descent.specs.Way.{Frame, plug}
use Rattle.descent.specs.declared.Passed.{Passed}
use Rattle.descent.specs.Located.{PathNames, nowhere}

-- a block of a sound store, and a block among its elements
abbrev pub Seen : List ℕ → ℕ → ℕ → ℕ → Placed → Type 0
Seen words slot level code es = BlockView (sizes_of words).k (slot_width (sizes_of words).k) (slot_count (sizes_of words).k (sizes_of words).most) words slot level code es

abbrev pub SeenInside : List ℕ → ℕ → ℕ → ℕ → ℕ → ℕ → Placed → Type 0
SeenInside words outer-level outer-code slot level code es =
    ChildView (sizes_of words).k (slot_width (sizes_of words).k) (slot_count (sizes_of words).k (sizes_of words).most) words outer-level outer-code slot level code es

-- the elements of a frame's block
abbrev pub around : Frame → ℕ → ℕ → ℕ → Placed → Placed
around f slot level code es = f.before ⧺ block_at slot level code es f.after

pub seen_inside : (words : List ℕ) (f : Frame) (slot level code : ℕ) (es : Placed) → Seen words f.slot f.level f.code (around f slot level code es)
    → SeenInside words f.level f.code slot level code es
seen_inside words f slot level code es v =
    child_view _ _ _ words f.slot f.level f.code (around f slot level code es) f.before slot level code es f.after v refl

-- the block at the end of the way; with a shorter way and the frame's elements it says so of each frame
pub seen_on_way : {words : List ℕ} {placed : Placed} → Sound words placed
    → (way : List Frame) (slot level code : ℕ) (es : Placed) → placed ≡ plug way slot level code es → Seen words slot level code es
seen_on_way {words} {placed} sound [] slot level code es whole =
    let (root, v) = sound_view words placed sound in
    let s : slot ≡ 0 = cc v.is in
    let l : level ≡ (sizes_of words).order = cc v.is in
    let c : code ≡ 0 = cc v.is in
    let e : es ≡ root = cc v.is in
    rw (s, l, c, e) (root_view words placed root sound v)
seen_on_way {words} sound (f ∷ way) slot level code es whole =
    (seen_inside words f slot level code es (seen_on_way sound way f.slot f.level f.code (around f slot level code es) whole)).view

-- a step down writes behind the names that are there
names_stay : (passed : List Passed) (d : ℕ) (here : Passed) (way : List Frame) → length way ≤ d → PathNames passed way → PathNames (set passed d here) way
names_stay passed d here [] h names = tt
names_stay passed d here (f ∷ way) h names =
    (rw (get_or-set_other passed d (length way) here nowhere (λ e. omega arith)) names.0, names_stay passed d here way (omega arith) names.1)

pub names_more : (passed : List Passed) (f : Frame) (way : List Frame) (d p : ℕ) → d ≡ length way → d < length passed → size f.before ≡ p
    → PathNames passed way → PathNames (set passed d (record { slot = f.slot; place = p })) (f ∷ way)
names_more passed f way d p e long q names = (
  rw (← e, q) (get_or-set_same passed d (record { slot = f.slot; place = p }) nowhere long),
  names_stay passed d (record { slot = f.slot; place = p }) way (omega arith) names,
)
