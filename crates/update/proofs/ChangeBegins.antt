-- A change begins: a pixel put between two elements of the smallest block that holds it, or taken out there, is pending in that block.
use Prim.Native.Nat.{ℕ, ◌+◌, ◌-◌, ◌*◌, ◌≤◌}
use native.Mathlib.Omega.{arith}
use mathlib.Core.Path.{◌≡◌, refl, ap, subst, sym, ◌∙◌}
use mathlib.Core.Logic.{◌⊎◌, inl, inr}
use mathlib.Core.List.{List, [], ◌∷◌, ◌++◌}
use lib.Dec.{eqb}
use lib.ListN.{length, length-append}
use Rattle.pktree.specs.Elements.{pixel, ◌⧺◌, size}
use Rattle.pktree.specs.Tree.{pixels}
use Rattle.pktree.proofs.Forests.{size_join}
use Rattle.pktree.proofs.Arranged.{quarter_level, LocallyRight}
use Rattle.pktree.proofs.Regroup.{Disturbed}
use Rattle.measures.specs.Sizes.{slot_width, slot_count, sizes_of, UsableStore}
use Rattle.measures.specs.Layout.{layout_of}
use Rattle.measures.specs.Slot.{slot_part}
use Rattle.store.specs.Placed.{Placed, slots_of}
use Rattle.freeslots.specs.FreeSlots.{occurrences}
use Rattle.store.specs.Sound.{SlotsShared, Sound}
use Rattle.store.proofs.Standing.{SlotSays, Stands}
use Rattle.store.proofs.PlacedJoin.{slots_join, stands_join, stands_parts}
use Rattle.freeslots.proofs.FreeChains.{occurrences_join}
use Rattle.store.proofs.SlotsLeft.{slots_left}
use Rattle.descent.specs.declared.Located.{Located}
use Rattle.descent.specs.declared.Passed.{Passed}
use Rattle.descent.specs.Way.{plug}
use Rattle.descent.specs.Located.{LocatedIn}
use Rattle.ascent.proofs.FramesOfSound.{OnWay, on_way}
use Rattle.ascent.proofs.Frames.{way_slots}
use Rattle.ascent.proofs.SlotCounts.{plug_slots, shared_moves}
use Rattle.ascent.proofs.HandUp.{right_size}
use Rattle.ascent.proofs.Pending.{Setting}
use Rattle.propagate.specs.Propagate.{PendingAt}
use Rattle.update.specs.Changed.{OnePixel, comes, goes, CountAllows}
use Rattle.renumbering.specs.Renumber.{path_slots, PathRenumbered}
use Rattle.update.proofs.SameBlocks.{says_same, stands_same, frames_same, left_same}
use Rattle.update.proofs.PathNumbers.{frame_slots, path_is, PixelChange, path_numbered}
use Rattle.update.proofs.Disturbing.{disturbed_if_right, put_disturbs, taken_right}
use Rattle.update.proofs.PixelsAt.{between_pixels, pixels_at, AtMostPixel, pixel_changed, at_most_pixel, same_slots}

-- the setting of a change at x on a store, for the set to come
abbrev pub setting_of : (words : List ℕ) → UsableStore words → (x : ℕ) (target : List ℕ) → length target ≤ (sizes_of words).most → Setting
setting_of words usable x target few =
    record {
      layout = layout_of (sizes_of words);
      k = (sizes_of words).k;
      m = (sizes_of words).order;
      most = (sizes_of words).most;
      x = x;
      target = target;
      k_from = usable.valid.panel.k_from;
      k_to = usable.valid.panel.k_to;
      m_to = usable.valid.panel.order_to;
      most_from = usable.valid.most_from;
      most_to = usable.valid.most_to;
      few = few;
      width_is = refl;
      slots_is = refl;
    }

-- the numbers of the path are changed and the change is pending: where so many pixels of the code stood in the set, so many are to stand
pub record Begins (words : List ℕ) (usable : UsableStore words) (mid set : List ℕ) (code : ℕ) (path : List Passed) (located : Located) (out coming : ℕ) : Type 0 where
  pub left : List ℕ
  pub right : List ℕ
  pub set_was : set ≡ left ++ (pixels (pixels_at out code) ++ right)
  pub few : length (left ++ (pixels (pixels_at coming code) ++ right)) ≤ (sizes_of words).most
  pub pending : PendingAt (setting_of words usable code (left ++ (pixels (pixels_at coming code) ++ right)) few) mid path located.depth located.block.slot located.place
      out coming (code ∷ 0 ∷ [])

module _ (words : List ℕ) (placed : Placed) (sound : Sound words placed) (code : ℕ) {path : List Passed} (located : Located) (h : LocatedIn words placed code path located) where
  abbrev k : ℕ
  k = (sizes_of words).k

  abbrev width : ℕ
  width = slot_width (sizes_of words).k

  abbrev a : Placed
  a = h.place.before

  abbrev b : Placed
  b = h.place.after

  there : OnWay words placed sound h.way located.block.slot located.block.level located.block.code h.es
  there = on_way words placed sound h.way located.block.slot located.block.level located.block.code h.es h.whole

  -- the numbers of the blocks of the path were changed
  abbrev pub Along : ℕ → ℕ → List ℕ → Type 0
  Along out coming mid = PathRenumbered (layout_of (sizes_of words)) (located.block.slot ∷ path_slots path located.depth) out coming words mid

  begins : (out coming : ℕ) (mid : List ℕ) → Along out coming mid → AtMostPixel code out × AtMostPixel code coming → h.es ≡ a ⧺ (pixels_at out code ⧺ b)
      → Disturbed k (quarter_level located.block.level) located.block.code code (a ⧺ (pixels_at coming code ⧺ b))
      → (size (pixels_at coming code) ≡ 0 → LocallyRight k located.block.level located.block.code (a ⧺ (pixels_at coming code ⧺ b)))
      → length (pixels placed) + coming ≤ out + (sizes_of words).most
      → Begins words sound.usable mid (pixels placed) code path located out coming
  begins out coming mid along (o, n) e disturbed right-if-none room =
      let old : Placed = pixels_at out code in
      let new : Placed = pixels_at coming code in
      let (l, r, pix) = between_pixels h.way a b in
      let target : List ℕ = l ++ (pixels new ++ r) in
      let whole : placed ≡ plug h.way located.block.slot located.block.level located.block.code (a ⧺ (old ⧺ b)) =
      h.whole ∙ ap (plug h.way located.block.slot located.block.level located.block.code) e in
      let was : pixels placed ≡ l ++ (pixels old ++ r) = ap pixels whole ∙ pix located.block.slot located.block.level located.block.code old in
      let stands = stands_parts width words a (old ⧺ b) (subst (Stands width words) e there.view.stands) in
      let fit : size (a ⧺ (old ⧺ b)) ≤ 4 * (k - 1) =
      subst (λ (t : Placed). size t ≤ 4 * (k - 1)) e
      (right_size k located.block.level located.block.code h.es sound.usable.valid.panel.k_from there.view.aligned there.view.right) in
      let way_along : PathRenumbered (layout_of (sizes_of words)) (located.block.slot ∷ frame_slots h.way) out coming words mid =
      subst (λ (p : List ℕ). PathRenumbered (layout_of (sizes_of words)) (located.block.slot ∷ p) out coming words mid) (ap (path_slots path) h.depth ∙ path_is path h.way h.names) along in
      let same = along.same in
      let shared : SlotsShared (slot_count k (sizes_of words).most) (way_slots h.way ++ (located.block.slot ∷ slots_of (a ⧺ (new ⧺ b)))) sound.free =
      shared_moves (slot_count k (sizes_of words).most) (slots_of placed) sound.free (way_slots h.way ++ (located.block.slot ∷ slots_of (a ⧺ (new ⧺ b)))) sound.free sound.shared
      (λ t. omega (
        arith,
        ap (λ (u : Placed). occurrences t (slots_of u)) whole,
        plug_slots t h.way located.block.slot located.block.level located.block.code (a ⧺ (old ⧺ b)),
        ap (λ (l : List ℕ). occurrences t (located.block.slot ∷ l)) (same_slots code a b out coming o n),
        occurrences_join t (slots_of placed) sound.free,
        occurrences_join t (way_slots h.way ++ (located.block.slot ∷ slots_of (a ⧺ (new ⧺ b)))) sound.free,
        occurrences_join t (way_slots h.way) (located.block.slot ∷ slots_of (a ⧺ (new ⧺ b))),
      )) in
      let two_slots : slots_of (a ⧺ (new ⧺ b)) ≡ slots_of a ++ slots_of b =
      slots_join a (new ⧺ b) ∙ ap (λ (l : List ℕ). slots_of a ++ l) (slots_join new b ∙ ap (λ (l : List ℕ). l ++ slots_of b) n.slots) in
      let after_stands : Stands width words b = (stands_parts width words old b stands.1).1 in
      record {
        left = l;
        right = r;
        set_was = was;
        few = omega (
          arith,
          ap length was,
          length-append l (pixels old ++ r),
          length-append (pixels old) r,
          length-append l (pixels new ++ r),
          length-append (pixels new) r,
          o.count_is,
          n.count_is,
        );
        pending = record {
          way = h.way;
          level = located.block.level;
          code = located.block.code;
          a = a;
          old = old;
          new = new;
          b = b;
          free = sound.free;
          depth_is = h.depth;
          names = h.names;
          place_is = h.place.place_is;
          removed_is = o.size_is;
          inserted_is = n.size_is;
          scratch_is = n.named;
          pending = record {
            around = record {
              frames_right = there.right;
              frames_stand = frames_same width words mid same h.way located.block.slot located.block.level located.block.code there.stand;
              stands = stands_same width words mid same (a ⧺ (new ⧺ b)) (stands_join width words a (new ⧺ b) stands.0 (stands_join width words new b (n.stands width words) after_stands));
              level_from = there.view.level_from;
              disturbed = disturbed;
              fits = omega (
                arith,
                sound.usable.valid.panel.k_from,
                n.one,
                n.size_is,
                size_join a (new ⧺ b),
                size_join new b,
                size_join a (old ⧺ b),
                size_join old b,
              );
              some = some_left there.enough;
              free_chain = left_same width words mid same along.head (slots_left sound.shared sound.chain sound.counted);
              shared = shared;
              pixels_are = pix located.block.slot located.block.level located.block.code new;
              numbered = path_numbered k (sizes_of words).order h.way a b sound.numbered (omega (arith, sound.fits, sound.usable.valid.most_to))
                  (subst (λ (u : List ℕ). PixelChange code u target out coming) (sym was) (pixel_changed code l r out coming o n)) there.right there.stand h.holds.0 h.holds.1
                  there.view.says.level_is there.view.says.code_is h.place.below stands.0 h.place.above after_stands sound.chain
                  (subst (λ (u : List ℕ). SlotsShared (slot_count k (sizes_of words).most) (way_slots h.way ++ (located.block.slot ∷ u)) sound.free) two_slots shared) way_along;
            };
            says = says_same width words mid same located.block.slot located.block.level located.block.code (a ⧺ (old ⧺ b))
                (subst (SlotSays (slot_part width words located.block.slot) located.block.level located.block.code) e there.view.says);
            was_fit = fit;
            right_if_none_inserted = right-if-none;
          };
        };
      }
    where
      some_left : (located.block.level ≡ (sizes_of words).order) ⊎ (k ≤ size h.es) → (located.block.level ≡ (sizes_of words).order) ⊎ (1 ≤ size (a ⧺ (pixels_at coming code ⧺ b)))
      some_left (inl q) = inl q
      some_left (inr q) =
          inr (omega (
            arith,
            sound.usable.valid.panel.k_from,
            o.one,
            o.size_is,
            ap size e,
            size_join a (pixels_at coming code ⧺ b),
            size_join (pixels_at coming code) b,
            size_join a (pixels_at out code ⧺ b),
            size_join (pixels_at out code) b,
          ))

  -- the pixel is to be put in, with room for it, or to be taken out
  pub change_begins : {out coming : ℕ} (one : OnePixel out coming) {mid : List ℕ} → Along out coming mid → located.marked ≡ eqb out 1 → CountAllows one (length (pixels placed)) (sizes_of words).most
      → Begins words sound.usable mid (pixels placed) code path located out coming
  change_begins comes {mid} along absent room =
      let e : h.es ≡ a ⧺ b = h.place.is.1 absent in
      begins 0 1 mid along (at_most_pixel code comes) e
      (put_disturbs k located.block.code code sound.usable.valid.panel.k_from h.holds.0 located.block.level a b
      there.view.level_from there.view.aligned h.holds.1 (subst (LocallyRight k located.block.level located.block.code) e there.view.right)
      h.place.below h.place.above)
      (λ none. absurd (omega arith))
      (omega arith)
  change_begins goes {mid} along present counted =
      let e : h.es ≡ a ⧺ pixel code b = h.place.is.0 present in
      let right : LocallyRight k located.block.level located.block.code (a ⧺ b) =
      taken_right k located.block.code code sound.usable.valid.panel.k_from h.holds.0 located.block.level a b
      there.view.level_from there.view.aligned h.holds.1 (subst (LocallyRight k located.block.level located.block.code) e there.view.right)
      h.place.below h.place.above in
      begins 1 0 mid along (at_most_pixel code goes) e
      (disturbed_if_right k located.block.code code sound.usable.valid.panel.k_from h.holds.0 located.block.level (a ⧺ b)
      there.view.level_from there.view.aligned h.holds.1 right)
      (λ none. right)
      (omega (arith, sound.fits))
