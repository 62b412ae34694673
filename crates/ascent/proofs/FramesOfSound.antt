-- On a sound store the blocks of the way to a block are right, and stand in their slots.
use Prim.Native.Nat.{ℕ, suc, ◌+◌, ◌^◌, ◌≤◌}
use mathlib.Core.Path.{◌≡◌, refl}
use mathlib.Core.Logic.{◌⊎◌, inl, inr}
use mathlib.Core.List.{List, [], ◌∷◌}
use Rattle.pktree.specs.Elements.{empty, pixel, ◌⧺◌, size, block_at}
use Rattle.pktree.proofs.Arranged.{Arranged}
use Rattle.measures.specs.Sizes.{slot_width, slot_count, sizes_of}
use Rattle.store.specs.Placed.{Placed}
use Rattle.store.specs.Sound.{Sound}
use Rattle.store.proofs.PlacedJoin.{stands_parts}
use Rattle.store.proofs.SoundView.{sound_view}
use Rattle.store.proofs.BlockView.{BlockView, child_view, root_view}
use Rattle.descent.specs.Way.{Frame, plug}
use Rattle.ascent.proofs.Frames.{FramesRight, FramesStand}
use Rattle.ascent.proofs.FramesStand.{says_any}

-- arranged elements around a block
pub around_block : (s k n from to i c : ℕ) (a fs b : Placed) → Arranged k n from to (a ⧺ block_at s i c fs b) → Arranged k n from c a × Arranged k n (c + 4 ^ i) to b
around_block s k n from to i c empty fs b h = (h.0, h.7)
around_block s k n from to i c (pixel e a) fs b h = let r = around_block s k n (suc e) to i c a fs b h.1 in ((h.0, r.0), r.1)
around_block s k n from to i c (block_at v j e gs a) fs b h =
    let r = around_block s k n (e + 4 ^ j) to i c a fs b h.7 in
    ((h.0, h.1, h.2, h.3, h.4, h.5, h.6, r.0), r.1)

module _ (words : List ℕ) (placed : Placed) (sound : Sound words placed) where
  abbrev k : ℕ
  k = (sizes_of words).k

  abbrev m : ℕ
  m = (sizes_of words).order

  abbrev width : ℕ
  width = slot_width (sizes_of words).k

  -- the block at the end of a way, and all blocks of the way
  pub record OnWay (way : List Frame) (s i d : ℕ) (es : Placed) : Type 0 where
    pub view : BlockView k width (slot_count (sizes_of words).k (sizes_of words).most) words s i d es
    pub enough : (i ≡ m) ⊎ (k ≤ size es)
    pub right : FramesRight k m way i d
    pub stand : FramesStand width words way s i d

  pub on_way : (way : List Frame) (s i d : ℕ) (es : Placed) → placed ≡ plug way s i d es → OnWay way s i d es
  on_way [] s i d es whole =
      let (root, v) = sound_view words placed sound in
      let e0 : s ≡ 0 = cc v.is in
      let e1 : i ≡ m = cc v.is in
      let e2 : d ≡ 0 = cc v.is in
      let e3 : es ≡ root = cc v.is in
      record { view = rw (e0, e1, e2, e3) (root_view words placed root sound v); enough = inl e1; right = (e1, e2); stand = e0 }
  on_way (f ∷ way) s i d es whole =
      let outer : Placed = f.before ⧺ block_at s i d es f.after in
      let o = on_way way f.slot f.level f.code outer whole in
      let child = child_view k width _ words f.slot f.level f.code outer f.before s i d es f.after o.view refl in
      let parts = around_block s k f.level f.code (f.code + 4 ^ f.level) i d f.before es f.after o.view.right.arranged in
      let st = stands_parts width words f.before (block_at s i d es f.after) o.view.stands in
      record {
        view = child.view;
        enough = inr child.many;
        right = (
          record {
            was = s;
            old = es;
            right = o.view.right;
            aligned = o.view.aligned;
            enough = o.enough;
            low = parts.0;
            under = child.below;
            one = child.view.level_from;
            inner = child.view.aligned;
            high = parts.1;
          },
          o.right,
        );
        stand = (
          child.small,
          says_any _ f.level f.code s i d f.before es empty f.after o.view.says,
          st.0,
          st.1.3,
          o.stand,
        );
      }
