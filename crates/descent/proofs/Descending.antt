-- The descent to a code: where it stands after each turn, on any store and on a sound one, and what each end of it says.
use Prim.Native.Nat.{ℕ, ◌+◌, ◌^◌, ◌≤◌, ◌<◌}
use native.Mathlib.Omega.{arith}
use native.Mathlib.Nat.{le_trans}
use native.Mathlib.Decide.{dec_lt}
use mathlib.Core.Path.{◌≡◌, refl, ap, sym, ◌∙◌}
use mathlib.Core.Bool.{Bool, true, false}
use mathlib.Core.Logic.{inl, inr}
use mathlib.Core.List.{List, [], ◌∷◌}
use lib.ListN.{length, set, length-set}
use lib.Seq.{get_or-set_same, get_or-set_other}
use Rattle.pktree.specs.Elements.{size}
use Rattle.measures.specs.Sizes.{sizes_of, slot_count, slot_width}
use Rattle.measures.specs.Layout.{LayoutFits, most_elements}
use Rattle.measures.specs.Slot.{slot_part, count_word}
use Rattle.store.specs.Opening.{HeaderSays, CannotOpen}
use Rattle.measures.specs.declared.sizes.Layout.{Layout}
use Rattle.store.specs.Placed.{Placed}
use Rattle.store.proofs.OpenedSlot as opened
use Rattle.store.proofs.SoundView.{sound_view}
use Rattle.store.proofs.BlockView.{BlockView, ChildView, elements_lie, child_view}
use Rattle.descent.specs.Way.{Frame, plug, path_length}
use Rattle.descent.specs.Located.{LookedHere, InnerBlock, CanEnter, PathNames, SoundArguments, NoSound, LocatedRight, nowhere, passed_at}
use Rattle.descent.specs.declared.Passed.{Passed}
use Rattle.measures.proofs.Usable.{slot_long}
use Rattle.descent.proofs.Looking.{EntersBlock, looked_here, looked_inner}
use Rattle.descent.proofs.Ways.{seen_on_way, names_more}

-- on a sound store: the block that was reached holds the code
pub record Reached (placed : Placed) (code : ℕ) (passed : List Passed) (depth slot level block : ℕ) : Type 0 where
  pub way : List Frame
  pub es : Placed
  pub whole : placed ≡ plug way slot level block es
  pub deep : depth ≡ length way
  pub names : PathNames passed way
  pub holds : (block ≤ code) × (code < block + 4 ^ level)

-- after each turn
pub record Descended (words : List ℕ) (layout : Layout) (order code : ℕ) (passed : List Passed) (depth slot level block : ℕ) : Type 0 where
  pub long : length passed ≡ path_length
  pub slot_below : slot < layout.slots
  pub falls : depth + level ≤ order
  pub path_below : (i : ℕ) → i < depth → (passed_at passed i).slot < layout.slots
  pub reached : (placed : Placed) → SoundArguments words placed layout order code → Reached placed code passed depth slot level block
  -- only the root is not opened yet
  pub closed : CannotOpen layout.width words 0 order 0 → (slot ≡ 0) × (level ≡ order) × (block ≡ 0)

pub at_root : (words : List ℕ) (layout : Layout) (order code : ℕ) (passed : List Passed) → LayoutFits layout words → length passed ≡ path_length
    → Descended words layout order code passed 0 0 order 0
at_root words layout order code passed fits long =
    record {
      long = long;
      slot_below = fits.within.slots_from;
      falls = omega arith;
      path_below = λ i h. absurd (omega arith);
      reached = λ placed args.
          let (es, v) = sound_view words placed args.sound in
          record { way = []; es = es; whole = rw args.order_is v.is; deep = refl; names = tt; holds = (omega arith, omega (arith, args.on_panel)) };
      closed = λ h. (refl, refl, refl);
    }

place_within : (part : List ℕ) (count code place : ℕ) (marked : Bool) → LookedHere part count code place marked → place ≤ count
place_within part count code place true h = omega (arith, h.within)
place_within part count code place false h = h.place_of.within

module _ {words : List ℕ} {layout : Layout} {order code : ℕ} {passed : List Passed} {depth slot level block : ℕ} (fits : LayoutFits layout words)
    (d : Descended words layout order code passed depth slot level block) where
  seen_here : (placed : Placed) (args : SoundArguments words placed layout order code)
      → BlockView (sizes_of words).k layout.width layout.slots words slot level block (d.reached placed args).es
  seen_here placed args =
      let r = d.reached placed args in
      let w : layout.width ≡ slot_width (sizes_of words).k = ap (λ (l : Layout). l.width) args.layout_is in
      let n : layout.slots ≡ slot_count (sizes_of words).k (sizes_of words).most = ap (λ (l : Layout). l.slots) args.layout_is in
      rw (w, n) (seen_on_way args.sound r.way slot level block r.es r.whole)

  pub never_at_pixel : level ≤ 0 → NoSound words layout order code
  never_at_pixel h placed args = omega (arith, (seen_here placed args).level_from)

  pub never_closed : CannotOpen layout.width words slot level block → NoSound words layout order code
  never_closed h placed args =
      let v = seen_here placed args in
      let long = slot_long layout words slot fits d.slot_below in
      h (record {
        level_is = v.says.level_is;
        code_is = v.says.code_is;
        count_is = refl;
        laid = rw v.says.count_is (elements_lie _ level block (d.reached placed args).es v.says (omega (arith, fits.within.width_from)));
      })

  module _ {count : ℕ} (header : HeaderSays (slot_part layout.width words slot) level block count) where
    root_opened : CannotOpen layout.width words 0 order 0 → ⊥
    root_opened h =
        let e = d.closed h in
        let own : HeaderSays (slot_part layout.width words slot) level block (count_word (slot_part layout.width words slot)) =
        record { level_is = header.level_is; code_is = header.code_is; count_is = refl; laid = rw header.count_is header.laid } in
        h (rw (e.0, e.1, e.2) at own)

    count_is : (placed : Placed) (args : SoundArguments words placed layout order code) → count ≡ size (d.reached placed args).es
    count_is placed args = sym header.count_is ∙ (seen_here placed args).says.count_is

    pub few_elements : count ≤ most_elements
    few_elements = opened.few_elements fits d.slot_below header

    pub found_here : (place : ℕ) (marked : Bool) → 1 ≤ level → LookedHere (slot_part layout.width words slot) count code place marked
        → LocatedRight words layout order code passed
        (record { marked = marked; block = record { slot = slot; level = level; code = block }; place = place; depth = depth })
    found_here place marked above h =
        record {
          bounds = record {
            slot_below = d.slot_below;
            level_from = above;
            deep = d.falls;
            path_below = d.path_below;
            place_below = le_trans (place_within (slot_part layout.width words slot) count code place marked h) few_elements;
          };
          sound = λ placed args.
              let r = d.reached placed args in
              record {
                way = r.way;
                es = r.es;
                whole = r.whole;
                depth = r.deep;
                names = r.names;
                holds = r.holds;
                place = looked_here (seen_here placed args) r.holds.0 r.holds.1 place marked (rw (count_is placed args) at h);
              };
          opened = root_opened;
        }

    module _ {place s i c : ℕ} (inner : InnerBlock (slot_part layout.width words slot) count code place s i c) where
      entered : (placed : Placed) (args : SoundArguments words placed layout order code) → EntersBlock code place s i c (d.reached placed args).es
      entered placed args =
          let r = d.reached placed args in
          looked_inner (seen_here placed args) r.holds.0 r.holds.1 (rw (count_is placed args) at inner)

      entered_view : (placed : Placed) (args : SoundArguments words placed layout order code)
          → ChildView (sizes_of words).k layout.width layout.slots words level block s i c (entered placed args).inside
      entered_view placed args =
          let e = entered placed args in
          child_view _ _ _ words slot level block (d.reached placed args).es e.before s i c e.inside e.after (seen_here placed args) e.is

      pub never_barred : CanEnter layout level s i false → NoSound words layout order code
      never_barred (inl h) placed args = omega (arith, (entered_view placed args).below)
      never_barred (inr h) placed args = omega (arith, (entered_view placed args).view.slot_below)

      pub steps_down : order ≤ 16 → i < level → s < layout.slots
          → Descended words layout order code (set passed depth (record { slot = slot; place = place })) (depth + 1) s i c
      steps_down low less below =
          record {
            long = length-set passed depth here ∙ d.long;
            slot_below = below;
            falls = omega (arith, d.falls);
            path_below = λ j h. path j h (dec_lt j depth);
            reached = λ placed args.
                let r = d.reached placed args in
                let e = entered placed args in
                let f : Frame = record { slot = slot; level = level; code = block; before = e.before; after = e.after } in
                record {
                  way = f ∷ r.way;
                  es = e.inside;
                  whole = r.whole ∙ ap (plug r.way slot level block) e.is;
                  deep = omega (arith, r.deep);
                  names = names_more passed f r.way depth place r.deep (omega (arith, d.falls, d.long)) e.place_is r.names;
                  holds = e.holds;
                };
            closed = λ h. absurd (root_opened h);
          }
        where
          here : Passed
          here = record { slot = slot; place = place }

          path : (j : ℕ) → j < depth + 1 → Dec (j < depth) → (passed_at (set passed depth here) j).slot < layout.slots
          path j h (yes t) = rw (get_or-set_other passed depth j here nowhere (λ e. omega arith)) (d.path_below j t)
          path j h (no t) = let e : j ≡ depth = omega arith in rw (e, get_or-set_same passed depth here nowhere (omega (arith, d.falls, d.long))) d.slot_below
