-- A change ends: the store on which it came to rest holds the set to come, and that is the set with one pixel more or less.
use Prim.Native.Nat.{ℕ, suc, ◌-◌, ◌≤◌}
use native.Mathlib.Omega.{arith}
use mathlib.Core.Path.{◌≡◌, refl, ap, subst, sym, ◌∙◌}
use mathlib.Core.Bool.{Bool, true, false, not}
use mathlib.Core.Option.{some}
use Rattle.std.specs.Prelude.{Result, Ok, Err}
use Rattle.store.specs.declared.Damaged as store
use mathlib.Core.List.{List, ◌∷◌, ◌++◌, append-nil}
use lib.Dec.{eqb}
use lib.ListN.{length, take, drop, set, length-set}
use lib.Seq.{drop-set-lt, get_or-set_same}
use Rattle.pktree.specs.PixelSet.{member, Ascending, added, removed}
use Rattle.pktree.specs.Elements.{block_at, empty}
use Rattle.pktree.specs.Tree.{pixels}
use Rattle.pktree.proofs.Unlabelled.{labelled_tree}
use Rattle.pktree.proofs.SetChanges.{added_at_place, removed_at_place}
use Rattle.pktree.proofs.Absurd.{zero_is_not_one}
use Rattle.measures.specs.declared.sizes.Sizes.{Sizes}
use Rattle.measures.specs.Sizes.{panel_of, slot_width, sizes_of, store_words, UsableStore}
use Rattle.measures.specs.declared.sizes.Layout.{Layout}
use Rattle.measures.specs.Layout.{layout_of, LaidOut}
use Rattle.store.specs.Opening.{CannotOpen}
use Rattle.store.specs.Placed.{Placed, slots_of}
use Rattle.store.specs.Reading.{read_slot}
use Rattle.store.specs.Sound.{Holds}
use Rattle.store.proofs.Held.{held_set, held_number}
use Rattle.store.proofs.Standing.{depth_below_level, complete_slot}
use Rattle.store.proofs.SlotsLeft.{blocks_counted}
use Rattle.measures.proofs.SlotWrites.{take_less, word_in_front}
use Rattle.measures.proofs.Usable.{sizes_kept, usable_kept, layout_fits}
use Rattle.descent.specs.declared.Located.{Located}
use Rattle.descent.specs.declared.Passed.{Passed}
use Rattle.descent.specs.Located.{SoundArguments, NoSound, LocatedIn, LocatedRight}
use Rattle.descent.proofs.SmallestLocated.{marked_exactly}
use Rattle.ascent.proofs.Completed.{Completed}
use Rattle.step.specs.declared.Change.{Change}
use Rattle.step.proofs.RegroupEnds.{kept_same}
use Rattle.step.proofs.StepEnds.{kept_then}
use Rattle.step.specs.Step.{Kept}
use Rattle.update.specs.declared.marks.Unchanged.TheVariants.{Already, Disallowed, Damaged}
use Rattle.update.specs.Changed.{OnePixel, comes, goes, exchanged, CanChange, ChangeMeets}
use Rattle.renumbering.specs.Renumber.{path_slots, CanRenumber, PathRenumbered}
use Rattle.propagate.specs.Propagate.{CanPropagate, PropagateMeets}
use Rattle.renumbering.proofs.Renumbering.{fits_renumbered, kept_renumbered}
use Rattle.update.proofs.PixelsAt.{pixels_at, at_most_pixel}
use Rattle.update.proofs.ChangeBegins.{setting_of, change_begins}

module _ (before after : List ℕ) (usable : UsableStore before) (code : ℕ) (target : List ℕ) (few : length target ≤ (sizes_of before).most) (kept : Kept (layout_of (sizes_of before)) before after) where
  abbrev width : ℕ
  width = slot_width (sizes_of before).k

  front : take 4 after ≡ take 4 before
  front = take_less 4 6 before after (omega arith) kept.head

  sizes_stay : sizes_of after ≡ sizes_of before
  sizes_stay = sizes_kept before after front

  module _ (h : Completed (setting_of before usable code target few) after) where
    abbrev placed : Placed
    placed = block_at 0 (sizes_of before).order 0 h.es empty

    same_pixels : pixels placed ≡ target
    same_pixels = append-nil (pixels h.es) ∙ h.pixels_are

    reads_it : read_slot width after (sizes_of before).order 0 ≡ some placed
    reads_it =
        let d : suc ((sizes_of before).order - 1) ≡ (sizes_of before).order = omega (arith, usable.valid.panel) in
        let r = complete_slot width after ((sizes_of before).order - 1) 0 (sizes_of before).order 0 h.es h.root.says h.root.stands
        (omega (arith, depth_below_level (sizes_of before).k (sizes_of before).order 0 _ h.es usable.valid.panel.order_from h.right.arranged)) in
        rw d at r

    holds_target : Holds after target
    holds_target =
        let o : (sizes_of after).order ≡ (sizes_of before).order = word_in_front 4 1 before after (omega arith) front in
        let k : (sizes_of after).k ≡ (sizes_of before).k = word_in_front 4 2 before after (omega arith) front in
        let n : (sizes_of after).most ≡ (sizes_of before).most = word_in_front 4 3 before after (omega arith) front in
        record {
          placed = placed;
          sound = record {
            usable = usable_kept before after front kept.long usable;
            reads = rw (o, k) reads_it;
            is_tree = rw (o, k) (labelled_tree (panel_of (sizes_of before)) 0 h.es usable.valid.panel.k_from h.right);
            fits = rw (n, same_pixels) few;
            free = h.free;
            chain = rw k h.free_chain.chain;
            shared = rw (k, n, append-nil (slots_of h.es)) h.shared;
            counted = rw (append-nil (slots_of h.es)) (blocks_counted h.shared h.free_chain);
            numbered = rw (k, n, same_pixels) h.numbered;
          };
          set_is = same_pixels;
        }

-- the pixel comes or goes at its place in the set
exchanged_there : {out coming : ℕ} (code : ℕ) (one : OnePixel out coming) (left right : List ℕ) {was : List ℕ} → was ≡ left ++ (pixels (pixels_at out code) ++ right)
    → Ascending 0 was → Ascending 0 (left ++ (pixels (pixels_at coming code) ++ right)) → left ++ (pixels (pixels_at coming code) ++ right) ≡ exchanged out code was
exchanged_there code comes left right q before after = sym (added_at_place code 0 left right after) ∙ ap (added code) (sym q)
exchanged_there code goes left right q before after = sym (removed_at_place code 0 left right (rw q at before)) ∙ ap (removed code) (sym q)

-- what is known once the code is looked for in a store to which refusal 3 does not apply
pub record Told (before : List ℕ) (sizes : Sizes) (layout : Layout) (code : ℕ) (allowed : Bool) (out coming : ℕ) : Type 0 where
  pub can : CanChange before sizes code allowed out coming
  pub laid : LaidOut sizes layout

module _ {before : List ℕ} {sizes : Sizes} {layout : Layout} {code out coming : ℕ} {allowed : Bool} (u : Told before sizes layout code allowed out coming) where
  layout_is : layout ≡ layout_of (sizes_of before)
  layout_is = u.laid.is ∙ ap layout_of u.can.given.0.1

  order_is : sizes.order ≡ (sizes_of before).order
  order_is = ap (λ (z : Sizes). z.order) u.can.given.0.1

  most_is : sizes.most ≡ (sizes_of before).most
  most_is = ap (λ (z : Sizes). z.most) u.can.given.0.1

  sound_arguments : {was : List ℕ} (h : Holds before was) → SoundArguments before h.placed layout sizes.order code
  sound_arguments h = record { sound = h.sound; layout_is = layout_is; order_is = order_is; on_panel = u.can.given.1 }

  -- what lies past the formula, by the store's own sizes
  past_kept : {after : List ℕ} → Kept layout before after → drop (store_words (sizes_of before)) after ≡ drop (store_words (sizes_of before)) before
  past_kept {after} kept = (subst (λ (z : Layout). Kept z before after) layout_is kept).past

  -- word 0 is written zero, on a store that holds no set
  damaged_end : {mid : List ℕ} → Kept layout before mid → ((was : List ℕ) → Holds before was → ⊥) → ChangeMeets before (set mid 0 0) code allowed out (Err Damaged)
  damaged_end {mid} kept never =
      record {
        sound = never;
        leaves = get_or-set_same mid 0 0 0 (omega (arith, kept.long, u.can.given.0.0.long));
        closed = λ shut. refl;
        long = length-set mid 0 0 ∙ kept.long;
        past = drop-set-lt (store_words (sizes_of before)) mid 0 0 (omega arith) ∙ past_kept kept;
      }

  -- the descent ends well on a sound store
  pub never_located : NoSound before layout sizes.order code → ChangeMeets before (set before 0 0) code allowed out (Err Damaged)
  never_located never = damaged_end (kept_same _ _ _ refl) (λ was h. never h.placed (sound_arguments h))

  -- at most one pixel goes, and at most one comes
  pub at_most_one : (out ≤ 1) × (coming ≤ 1)
  at_most_one = let (o, n) = at_most_pixel code u.can.one in (o.one, n.one)

  module _ {path : List Passed} {located : Located} (right : LocatedRight before layout sizes.order code path located) where
    found : (was : List ℕ) (h : Holds before was) → LocatedIn before h.placed code path located
    found was h = right.sound h.placed (sound_arguments h)

    -- 02, P8: the pixel is in the set where it was found to be an element of the smallest block, by the law of that block
    as_located : {marked : Bool} → located.marked ≡ marked → (was : List ℕ) → Holds before was → member was code ≡ marked
    as_located e was h = ap (λ (l : List ℕ). member l code) (sym h.set_is) ∙ marked_exactly h.sound (found was h) ∙ e

    -- a store that cannot be opened at its root is told
    opens : CannotOpen (slot_width (sizes_of before).k) before 0 (sizes_of before).order 0 → ⊥
    opens shut = right.opened (rw (ap (λ (z : Layout). z.width) layout_is, order_is) shut)

    -- the slots of the path, as the descent names them
    abbrev along_path : List ℕ
    along_path = located.block.slot ∷ path_slots path located.depth

    pub already_so : located.marked ≡ not (eqb out 1) → ChangeMeets before before code allowed out (Err Already)
    already_so e = record { sound = λ was h. (as_located e was h, refl); leaves = refl; closed = λ shut. absurd (opens shut); long = refl; past = refl }

    pub disallowed : located.marked ≡ eqb out 1 → allowed ≡ false → ChangeMeets before before code allowed out (Err Disallowed)
    disallowed e none = record { sound = λ was h. (as_located e was h, none, refl); leaves = refl; closed = λ shut. absurd (opens shut); long = refl; past = refl }

    -- the numbers of the path can be changed
    pub can_renumber : {r i : ℕ} → r ≤ 1 → i ≤ 1 → CanRenumber layout before located path r i
    can_renumber removed_to inserted_to =
        let b = right.bounds in
        record {
          fits = layout_fits sizes layout before u.can.given.0.0 u.can.given.0.1 u.laid;
          slot_below = b.slot_below;
          deep = omega (arith, b.deep, order_is, u.can.given.0.0.valid.panel.order_to);
          path_below = b.path_below;
          removed_to = removed_to;
          inserted_to = inserted_to;
        }

    module _ {k : ℕ} (k_is : k ≡ sizes.k) where
      abbrev change : Change
      change = record { layout = layout; k = k; code = code }

      k_said : k ≡ (sizes_of before).k
      k_said = k_is ∙ ap (λ (z : Sizes). z.k) u.can.given.0.1

      -- and the change can go up
      pub can_propagate : {r i : ℕ} {lent : List ℕ} → PathRenumbered layout along_path r i before lent → CanPropagate change lent located path out coming
      can_propagate along =
          let v = u.can.given.0.0.valid.panel in
          let r = can_renumber at_most_one.0 at_most_one.1 in
          record {
            fits = fits_renumbered r.fits along;
            k_from = rw k_said v.k_from;
            k_to = rw k_said v.k_to;
            slot_below = r.slot_below;
            deep = r.deep;
            path_below = r.path_below;
            place_to = right.bounds.place_below;
            removed_to = r.removed_to;
            inserted_to = r.inserted_to;
          }

      module _ {lent after : List ℕ} {r : Result (Unit {0}) store.Damaged} (along : PathRenumbered layout along_path out coming before lent) (expected : located.marked ≡ eqb out 1)
          (room : allowed ≡ true) (s : PropagateMeets change located path out coming lent after r) where
        kept_all : Kept layout before after
        kept_all = kept_then (kept_renumbered along) s.kept

        -- the change goes all the way up, and the store holds the set to come
        propagated : (was : List ℕ) → Holds before was → (r ≡ Ok tt) × Holds after (exchanged out code was) × (sizes_of after ≡ sizes_of before)
        propagated was h =
            let one : OnePixel out coming = u.can.one in
            let held = held_number h ∙ ap length (sym h.set_is) in
            let b = change_begins before h.placed h.sound code located (found was h) one
            (subst (λ (z : Layout). PathRenumbered z along_path out coming before lent) layout_is along) expected
            (rw (held, most_is) at (u.can.allows room)) in
            let target : List ℕ = b.left ++ (pixels (pixels_at coming code) ++ b.right) in
            let kept : Kept (layout_of (sizes_of before)) before after = subst (λ (z : Layout). Kept z before after) layout_is kept_all in
            let (told, rest) = s.right (setting_of before h.sound.usable code target b.few) (record { layout_is = layout_is; k_is = k_said; x_is = refl }) b.pending in
            let holds = holds_target before after h.sound.usable code target b.few kept rest in
            let q : was ≡ b.left ++ (pixels (pixels_at out code) ++ b.right) = sym h.set_is ∙ b.set_was in (
              told,
              subst (Holds after) (exchanged_there code one b.left b.right q (held_set h).ascending (held_set holds).ascending) holds,
              sizes_stay before after h.sound.usable code target b.few kept,
            )

        -- all is written
        pub carried_up : ChangeMeets before after code allowed out (Ok tt)
        carried_up =
            record {
              sound = λ was h. (as_located expected was h, room, (propagated was h).1, (propagated was h).2);
              leaves = tt;
              closed = λ shut. absurd (opens shut);
              long = kept_all.long;
              past = past_kept kept_all;
            }

        -- or word 0 is to be written zero, where the change was stopped
        pub stopped : {e : store.Damaged} → r ≡ Err e → ChangeMeets before (set after 0 0) code allowed out (Err Damaged)
        stopped e = damaged_end kept_all (λ was h. zero_is_not_one (cc (e, (propagated was h).0)))
