-- Each way out of `open_block`.
use Prim.Native.Nat.{ℕ, ◌+◌, ◌≤◌}
use native.Mathlib.Omega.{arith}
use mathlib.Core.Path.{◌≡◌, ap, sym, subst, ◌∙◌}
use mathlib.Core.Option.{Option}
use mathlib.Core.List.{List}
use lib.ListN.{length}
use Rattle.pktree.specs.Elements.{Forest}
use Rattle.pktree.specs.Tree.{BlockOf}
use Rattle.measures.specs.declared.sizes.Layout.{Layout}
use Rattle.measures.specs.Layout.{LayoutFits, level_above_root, most_elements}
use Rattle.measures.specs.Slot.{slot_part, element_index}
use Rattle.elements.specs.Element.{tag_slot, tag_level}
use Rattle.store.specs.declared.Damaged.{Damaged as DamagedWords}
use Rattle.std.specs.Prelude.{Result, Ok, Err}
use Rattle.std.specs.Result.{IsErr}
use mathlib.Core.Bool.{false≢true}
use Rattle.store.proofs.OpenedSlot.{opened_not_shut}
use Rattle.searching.specs.Search.{pixel_elements, nearest_of}
use Rattle.frontier.specs.declared.Entry.{Entry}
use Rattle.query.specs.Opened.{OpenedNext}
use Rattle.query.proofs.Openings.{next_entered, never_barred}
use Rattle.meeting.specs.declared.best.Best.{Best}
use Rattle.meeting.specs.declared.place.Place.{Place}
use Rattle.meeting.specs.Place.{place_code}
use Rattle.meeting.specs.Shown.{Shown}
use Rattle.meeting.specs.Best.{best_of, AfterElements}
use Rattle.meeting.specs.Matching.{EntryOf}
use Rattle.meeting.specs.Meeting.{Added, MetBlocks}
use Rattle.bestfirst.specs.Turns.{code_in, Shut, TurnMeets}
use Rattle.bestfirst.proofs.EntryOrder.{level_told, view_told}

-- what the opened slot says
module _ (next : Entry) {words : List ℕ} {layout : Layout} {opened : ℕ} {o : Result ℕ DamagedWords} {count : ℕ}
    (said : OpenedNext layout words level_above_root (tag_slot next.tag) (tag_level next.tag) (code_in next) opened o) (e : o ≡ Ok count) where
  not_shut : Shut layout words next → ⊥
  not_shut shut = opened_not_shut (record { header = (next_entered said e).slot_entered.header }) shut

  few : count ≤ most_elements
  few = (next_entered said e).slot_entered.few

  -- there is room for the elements
  pub room_left : (met : ℕ) {long : ℕ} → met + most_elements ≤ long → met + count ≤ long
  room_left met h = omega (arith, few, h)

  pub next_low : tag_level next.tag ≤ 16
  next_low = omega (arith, (next_entered said e).slot_entered.level_below)

  module _ {part : List ℕ} (part_is : part ≡ slot_part layout.width words (tag_slot next.tag)) where
    pub part_laid : element_index count ≤ length part
    part_laid = omega (arith, (next_entered said e).slot_entered.header.laid, ap length part_is)

    shown : (place : ℕ) {b : BlockOf} (is : EntryOf layout.width layout.slots words place b next) → Shown layout.width layout.slots words part count (tag_level next.tag) is.placed
    shown place is =
        record {
          k = is.k;
          slot = tag_slot next.tag;
          code = code_in next;
          part_is = part_is;
          opened = record { header = (next_entered said e).slot_entered.header };
          view = view_told is;
        }

module _ (next : Entry) {words : List ℕ} {layout : Layout} {place : Place} {opened : ℕ} {best : Best} {o : Result ℕ DamagedWords}
    (said : OpenedNext layout words level_above_root (tag_slot next.tag) (tag_level next.tag) (code_in next) opened o) where
  pub turn_shut : {before : List Entry} {d : DamagedWords} → o ≡ Err d → LayoutFits layout words → (r : Result Best DamagedWords) → IsErr r → TurnMeets words layout place next opened best before before r
  turn_shut e fits (Ok u) h = absurd (false≢true h)
  turn_shut e fits (Err d) h =
      record { case = λ b is room. never_barred said e fits (omega (arith, level_told is, is.view.level_to)) (view_told is) room }

  module _ {count : ℕ} (e : o ≡ Ok count) where
    module _ {part : List ℕ} (part_is : part ≡ slot_part layout.width words (tag_slot next.tag)) where
      found : {nearest : Best} → AfterElements place best part count nearest → (b : BlockOf) (is : EntryOf layout.width layout.slots words (place_code place) b next) (o : Option ℕ)
          → best ≡ best_of (place_code place) o → nearest ≡ best_of (place_code place) (nearest_of (place_code place) o (pixel_elements b.elements))
      found seen b is o f =
          seen.says layout.width layout.slots words (tag_level next.tag) is.placed (shown next said e part_is (place_code place) is) o f
          ∙ ap (λ (g : Forest). best_of (place_code place) (nearest_of (place_code place) o (pixel_elements g))) (sym is.elements_are)

      pub turn_opened : {before after : List Entry} {nearest : Best} {u : Unit {0}} → AfterElements place best part count nearest → MetBlocks part count (tag_level next.tag) place nearest.distance before after (Ok u)
          → TurnMeets words layout place next opened best before after (Ok nearest)
      turn_opened {before} {after} seen blocks =
          record {
            case = (
              (next_entered said e).room,
              not_shut next said e,
              record {
                nearest = found seen;
                added = λ b is o g.
                    let to : Option ℕ = nearest_of (place_code place) o (pixel_elements b.elements) in
                    subst (λ (f : Forest). Added layout.width layout.slots words (place_code place) to before f after) (sym is.elements_are)
                    (blocks.case.1 layout.width layout.slots words is.placed (shown next said e part_is (place_code place) is) to (ap (λ (b : Best). b.distance) (found seen b is o g)));
              },
            );
          }

      pub turn_damaged : {before after : List Entry} {far : ℕ} {d : DamagedWords} → MetBlocks part count (tag_level next.tag) place far before after (Err d) → (r : Result Best DamagedWords) → IsErr r
          → TurnMeets words layout place next opened best before after r
      turn_damaged blocks (Ok u) h = absurd (false≢true h)
      turn_damaged blocks (Err d) h =
          record { case = λ b is room. blocks.case layout.width layout.slots words is.placed (shown next said e part_is (place_code place) is) }
