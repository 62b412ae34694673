-- The walk that writes the entries.
use Rattle.std.proofs.Common.{◌≡◌, ℕ, ◌+◌, ◌-◌, ◌<◌, ◌≤◌, List, [], length, refl, ap, ◌∙◌, inl, inr, ⊎_elim, append-nil, add-one, arith, length-append}
use Rattle.pktree.specs.Elements.{Forest, empty, pixel, block, ◌⧺◌, unlabelled}
use Rattle.pktree.specs.Entries.{entries}
use Rattle.pktree.proofs.Absurd.{zero_is_not_one}
use Rattle.pktree.proofs.EntryOrder.{entries_join}
use Rattle.pktree.proofs.Forests.{block_count_join}
use Rattle.store.specs.declared.Damaged.{Damaged}
use Rattle.store.specs.Opening.{damaged}
use Rattle.store.specs.Placed.{Placed}
use Rattle.store.proofs.PassedElements.{OneElement, is_pixel_lem}
use Rattle.std.specs.Prelude.{Result, Ok, Err, IsErr}
use Rattle.elements.specs.declared.Element.{Element}
use Rattle.elements.specs.declared.Element.TheVariants.{Pixel}
use Rattle.elements.specs.Element.{element_at, named}
use Rattle.measures.specs.Layout.{LayoutFits}
use Rattle.measures.specs.declared.sizes.Layout.{Layout}
use Rattle.walks.specs.Entered.{Entered}
use Rattle.walks.proofs.Walks.{Walk, BlockWalked, ElementWalked, ElementBroken, InLoop, walked_child, broken_child, not_entered, loop_inside, loop_breaks, loop_open}
use Rattle.image.specs.Writing.{put_entry}
use Rattle.saving.specs.declared.Progress.{Progress}
use Rattle.saving.specs.Saving.{Places, CanSave, PixelPut, RoomFor, EntriesPut, EntriesPutTo, Ending, done, broken, BlockSaved}
use Rattle.image.proofs.EntryWrites.{length_put_entry, put_entries_append}

-- there is one kind of damage
is_broken : (r : Ending) → IsErr r → r ≡ broken
is_broken (Ok _) h = absurd (zero_is_not_one (cc h))
is_broken (Err _) h = refl

-- a walk that broke off has not come to its end
pub not_done : {r : Ending} → r ≡ broken → r ≡ done → ⊥
not_done e f = zero_is_not_one (cc (f, e))

-- room for both is room for the first, and then for the second
module _ {saving : Places} {s : List ℕ × ℕ × ℕ} (f g : Forest) (room : RoomFor saving s (f ⧺ g)) where
  both_entries : length (entries (f ⧺ g)) ≡ length (entries f) + length (entries g)
  both_entries = rw (entries_join f g) (length-append (entries f) (entries g))

  room_first : RoomFor saving s f
  room_first = record { room = omega (arith, both_entries, room.room); few = omega (arith, block_count_join f g, room.few) }

  room_second : {t : List ℕ × ℕ × ℕ} → EntriesPut saving s f t → RoomFor saving t g
  room_second first =
      let a = first.says room_first in
      record { room = omega (arith, both_entries, room.room, a.0); few = omega (arith, block_count_join f g, room.few, a.2) }

-- entries behind others
entries_put_join : {saving : Places} {s t u : List ℕ × ℕ × ℕ} {f g : Forest} → EntriesPut saving s f t → EntriesPut saving t g u → EntriesPut saving s (f ⧺ g) u
entries_put_join {saving} {s} {t} {u} {f} {g} p q =
    record {
      says = λ room.
          let both = both_entries f g room in
          let a = p.says (room_first f g room) in
          let b = q.says (room_second f g room p) in
          (omega (arith, both, a.0, b.0), rw (entries_join f g, put_entries_append saving.entries s.1 s.0 (entries f) (entries g), ← a.1, ← a.0) b.1, omega (arith, block_count_join f g, a.2, b.2));
    }

pub save_walk : {saving : Places} → Walk (EntriesPut saving)
save_walk = record { none = λ s. record { says = λ room. (omega arith, refl, omega arith) }; join = entries_put_join }

-- room for all is room for one element after those before it
room_between : {saving : Places} {s t : List ℕ × ℕ × ℕ} (f g h : Forest) → EntriesPut saving s f t → RoomFor saving s ((f ⧺ g) ⧺ h) → RoomFor saving t g
room_between f g h put room = room_second f g (room_first (f ⧺ g) h room) put

pub written_is : {after o : List ℕ} {r n : ℕ} {progress p : Progress} → o ≡ after → n ≡ r → p ≡ progress → ◌≡◌ {A = List ℕ × ℕ × ℕ} (o, n, p.left) (after, r, progress.left)
written_is e f g = rw (e, f, g)

pub no_room : {n code at : ℕ} {before : List ℕ} → n ≤ at → PixelPut n code before before at damaged
no_room h = record { long = refl; put = λ room. absurd (omega arith) }

pub pixel_put : {n code at : ℕ} {before after : List ℕ} → after ≡ put_entry n at before 0 code → PixelPut n code before after at (Ok (at + 1))
pixel_put {n} {code} {at} {before} e = record { long = ap length e ∙ length_put_entry n at before 0 code; put = λ room. (refl, e) }

module _ {saving : Places} {before after : List ℕ} {at c left : ℕ} {o : Result ℕ Damaged} (h : PixelPut saving.entries c before after at o) where
  pub pixel_saved : {r : ℕ} → o ≡ Ok r → EntriesPut saving (before, at, left) (pixel c empty) (after, r, left)
  pixel_saved e = record { says = λ room. let p = h.put (omega (arith, room.room)) in let w : _ ≡ at + 1 = cc (e, p.0) in (w, p.1, omega arith) }

  -- a pixel without room is none of a sound store
  pub pixel_broken : {d : Damaged} {layout : Layout} {words : List ℕ} {level : ℕ} {element : Element} → o ≡ Err d → element ≡ Pixel c
      → ElementBroken (RoomFor saving (before, at, left)) layout words level element
  pixel_broken {d} {layout} {words} {level} e is = rw is (record { right = one })
    where
      never : RoomFor saving (before, at, left) (pixel c empty) → ⊥
      never room = let p = h.put (omega (arith, room.room)) in zero_is_not_one (cc (p.0, e))

      one : {k code : ℕ} {g : Placed} → OneElement k layout.width layout.slots words level code (Pixel c) g → RoomFor saving (before, at, left) (unlabelled g) → ⊥
      one (is_pixel_lem c) = never

-- an element that names a block
module _ {saving : Places} {words : List ℕ} {level s i c : ℕ} {element : Element} {t u : List ℕ × ℕ × ℕ} {r : Ending} (e : element ≡ named s i c) (saved : BlockSaved saving words level s i c t u r) where
  pub block_saved : ElementWalked (EntriesPut saving) saving.layout words level element t u
  block_saved = walked_child e (λ k at fs low child. (saved.right.right k fs child.below child.view).put)

  pub block_broken : r ≡ broken → ElementBroken (RoomFor saving t) saving.layout words level element
  block_broken broke = broken_child e (λ k at fs child. λ room. not_done broke ((saved.right.right k fs child.below child.view).ends room))

-- a block's own entry before those of its elements
own_entries : (level code : ℕ) (f : Forest) → length (entries (block level code f empty)) ≡ length (entries f) + 1
own_entries level code f = omega (arith, length-append (entries f) [])

module _ {saving : Places} {f : Forest} {before own : List ℕ} {level code at left : ℕ} where
  room_within : RoomFor saving (before, at, left) (block level code f empty) → RoomFor saving (own, at + 1, left - 1) f
  room_within room = record { room = omega (arith, own_entries level code f, room.room); few = omega (arith, room.few) }

  own_entry_first : {t : List ℕ × ℕ × ℕ} → own ≡ put_entry saving.entries at before level code
      → 1 ≤ left → EntriesPut saving (own, at + 1, left - 1) f t → EntriesPut saving (before, at, left) (block level code f empty) t
  own_entry_first e l h =
      record {
        says = λ room.
            let a = h.says (room_within room) in
            (omega (arith, own_entries level code f, a.0), a.1 ∙ rw (append-nil (entries f), e, add-one at), omega (arith, a.2));
      }

pub can_save_same : {saving : Places} {above : ℕ} {before output : List ℕ} → CanSave saving above before → length output ≡ length before → CanSave saving above output
can_save_same can long = record { above_to = can.above_to; long = rw long can.long }

-- a block inside may be saved too
pub save_within : {saving : Places} {words : List ℕ} {above slot level code count i : ℕ} {part before output : List ℕ} {s t : List ℕ × ℕ × ℕ}
    → InLoop (EntriesPut saving) saving.layout words above slot level code count part i s t → CanSave saving above before → length output ≡ length before
    → CanSave saving level output
save_within to can long = record { above_to = omega (arith, to.slot_entered.level_below, can.above_to); long = rw long can.long }

-- the number of blocks that may still be entered never rises
pub left_falls : {saving : Places} {words : List ℕ} {above slot level code : ℕ} {s t : List ℕ × ℕ × ℕ} {r : Ending} → BlockSaved saving words above slot level code s t r → t.2 ≤ s.2
left_falls h = ⊎_elim (λ less. omega (arith, less)) (λ stopped. rw stopped.0 (omega arith)) h.lowers

-- where there is no room anything may be written
no_room_puts : {r : Ending} {saving : Places} {s t : List ℕ × ℕ × ℕ} {f : Forest} → (RoomFor saving s f → ⊥) → EntriesPutTo r saving s f t
no_room_puts never = record { put = record { says = λ room. absurd (never room) }; ends = λ room. absurd (never room) }

module _ {saving : Places} {words : List ℕ} {above slot level code at left next last : ℕ} {before : List ℕ} (stopped : (next ≡ saving.entries + 1) × (last ≡ 0)) where
  -- the block is not entered
  not_saved : BlockWalked (EntriesPutTo broken saving) saving.layout words above slot level code (before, at, left) (before, next, last)
      → BlockSaved saving words above slot level code (before, at, left) (before, next, last) broken
  not_saved walked = record { right = walked; long = refl; closed = λ shut. (omega (arith, stopped.0), refl); lowers = inr (rw (stopped.0, stopped.1) refl, refl) }

  -- as many blocks as were said are entered
  pub save_spent : left < 1 → BlockSaved saving words above slot level code (before, at, left) (before, next, last) broken
  save_spent spent = not_saved (record { right = λ k es low view. no_room_puts (λ room. omega (arith, spent, room.few)) })

  pub save_barred : {o : Result ℕ Damaged} → o ≡ damaged → Entered saving.layout words above slot level code o → LayoutFits saving.layout words
      → BlockSaved saving words above slot level code (before, at, left) (before, next, last) broken
  save_barred e entered fits = not_saved (not_entered e entered fits)

  -- even the own entry has no room
  pub save_full : saving.entries ≤ at → BlockSaved saving words above slot level code (before, at, left) (before, next, last) broken
  save_full full = not_saved (record { right = λ k es low view. no_room_puts (λ room. omega (arith, full, room.room)) })

module _ {saving : Places} {words : List ℕ} {above slot level code at left : ℕ} {before : List ℕ} where
  module _ {count i : ℕ} {part own : List ℕ} {t : List ℕ × ℕ × ℕ} (some : 1 ≤ left) (put : own ≡ put_entry saving.entries at before level code)
      (to : InLoop (EntriesPut saving) saving.layout words above slot level code count part i (own, at + 1, left - 1) t) where
    pub save_broken : {element : Element} {u : List ℕ × ℕ × ℕ} → i < count → element ≡ element_at part i → ElementBroken (RoomFor saving t) saving.layout words level element
        → length u.0 ≡ length own → u.2 ≤ left - 1 → (r : Ending) → IsErr r → BlockSaved saving words above slot level code (before, at, left) u r
    save_broken below is broke long few r h =
        rw (is_broken r h) (record {
          right = record {
            right = λ k es low view. no_room_puts (λ room. loop_breaks to (RoomFor saving (own, at + 1, left - 1)) (RoomFor saving t) below is room_between broke k es view (room_within room));
          };
          long = long ∙ ap length put ∙ length_put_entry saving.entries at before level code;
          closed = λ shut. absurd (loop_open to shut);
          lowers = inl (omega (arith, some, few));
        })

    pub save_whole : count ≤ i → length t.0 ≡ length own → t.2 ≤ left - 1 → BlockSaved saving words above slot level code (before, at, left) t done
    save_whole end long few =
        record {
          right = record {
            right = λ k es low view. record { put = own_entry_first put some ((loop_inside to end).right k es low view); ends = λ room. refl };
          };
          long = long ∙ ap length put ∙ length_put_entry saving.entries at before level code;
          closed = λ shut. absurd (loop_open to shut);
          lowers = inl (omega (arith, some, few));
        }
