-- What a quarter gives, read element by element.
use Prim.Native.Nat.{ℕ, suc, ◌+◌, ◌-◌, ◌*◌, ◌^◌, ◌≤◌, ◌<◌}
use native.Mathlib.Omega.{arith}
use mathlib.Core.Path.{◌≡◌, refl, ap, ap₂}
use mathlib.Core.Bool.{Bool, true, false}
use mathlib.Core.List.{List, ◌++◌, append_assoc}
use lib.ListN.{length, length-append}
use Rattle.pktree.specs.PixelSet.{member}
use Rattle.pktree.specs.Elements.{Forest, empty, ◌⧺◌, size, gather}
use Rattle.pktree.specs.Entries.{Entry, entries}
use Rattle.pktree.specs.Tree.{pixels}
use Rattle.pktree.proofs.Forests.{size_join, give_case}
use Rattle.pktree.proofs.Alignment.{pow_pos, aligned_next, blocks_nest}
use Rattle.pktree.proofs.Arranged.{Arranged, arranged_lift, arranged_lower, arranged_upper, arranged_join}
use Rattle.pktree.proofs.EntryOrder.{entries_join}
use Rattle.pktree.proofs.LocalLaw.{gather_is_local, few_are_given, given_row}
use Rattle.measures.specs.Decides.{Decides}
use Rattle.measures.proofs.Decides.{decided_true, decided_false}
use Rattle.std.specs.Prelude.{Option, Some, None}
use Rattle.reader.specs.declared.ElementsRead.{ElementsRead}
use Rattle.reader.specs.Reading.{elements, wrong, entries_from, EntryIs, EntryInside, EntryMeets, FitsQuarter, CanReadBlock, quarter_of, From, QuarterMeets}
use Rattle.reader.proofs.EntriesFrom.{entries_past}
use Rattle.reader.proofs.FirstEntry.{from_arranged, nothing_inside}
use Rattle.reader.proofs.FirstElement.{FirstGiven, first_given}
use Rattle.reader.proofs.ForestRead.{forest_read, same_read}

-- of a quarter that stands at `at`: some elements, from `place` on, stand at `next`, and `count` elements before them
pub record LeftIn (codes levels : List ℕ) (k level code at count next place : ℕ) (marked : ℕ → Bool) (rest : List Entry) : Type 0 where
  pub left : Forest
  pub arranged : Arranged k (suc level) place (code + 4 ^ level) left
  pub entries_left : entries_from codes levels next ≡ entries left ++ rest
  pub size_left : count + size left ≡ size (quarter_of k level code marked)
  pub index_left : next + length (entries left) ≡ at + length (entries (quarter_of k level code marked))

-- the elements before `place` are read, of the quarter of this level and code
pub record PartRead (codes levels : List ℕ) (k level code at count next place : ℕ) : Type 0 where
  pub read : Forest
  pub arranged : Arranged k (suc level) code place read
  pub entries_are : entries_from codes levels at ≡ entries read ++ entries_from codes levels next
  pub size_is : size read ≡ count
  pub few : count < k
  pub place_to : place ≤ code + 4 ^ level
  pub next_to : next ≤ length levels
  pub complete : (marked : ℕ → Bool) (rest : List Entry) → entries_from codes levels at ≡ entries (quarter_of k level code marked) ++ rest
      → From (code + 4 ^ level) rest → LeftIn codes levels k level code at count next place marked rest

module _ {levels : List ℕ} {k level code at : ℕ} (can : CanReadBlock levels k level code at) where
  -- a quarter gives fewer than k elements, in order
  given_few : (marked : ℕ → Bool) → size (quarter_of k level code marked) < k
  given_few marked = give_case (λ (f : Forest). size f < k) k level code (gather marked k level code) (λ few. few) (λ many. omega (arith, can.k_from))

  given_arranged : (i c : ℕ) (marked : ℕ → Bool) → FitsQuarter level i c → Arranged k (suc level) c (c + 4 ^ i) (quarter_of k i c marked)
  given_arranged i c marked fits =
      arranged_lift k (suc i) (suc level) c (c + 4 ^ i) (quarter_of k i c marked) (omega (arith, fits.level_to))
      (given_row k i c (c + 4 ^ i) _ can.k_from refl fits.aligned (gather_is_local marked k i c can.k_from fits.aligned)).arranged

  -- an element that fits lies in the quarter
  element_within : {i c : ℕ} → FitsQuarter level i c → c < code + 4 ^ level → c + 4 ^ i ≤ code + 4 ^ level
  element_within {i} {c} fits high = blocks_nest i level c (code + 4 ^ level) fits.level_to fits.aligned (aligned_next level code can.aligned) high

module _ {codes levels : List ℕ} {k level code at : ℕ} (can : CanReadBlock levels k level code at) where
  pub none_read : PartRead codes levels k level code at 0 at code
  none_read =
      record {
        read = empty;
        arranged = omega arith;
        entries_are = refl;
        size_is = refl;
        few = omega (arith, can.k_from);
        place_to = omega arith;
        next_to = can.at_to;
        complete = λ marked rest e past. record {
          left = quarter_of k level code marked;
          arranged = given_arranged can level code marked (record { level_to = omega arith; aligned = can.aligned });
          entries_left = e;
          size_left = omega arith;
          index_left = refl;
        };
      }

  -- what the next entry is asked for with, and what is answered
  module _ {count next place end : ℕ} {n : Option (ℕ × ℕ)} (s : PartRead codes levels k level code at count next place) (ends : end ≡ code + 4 ^ level)
      (meets : EntryMeets codes levels next place end n) where
    -- no entry lies in what is left of the quarter
    pub quarter_read : n ≡ None → QuarterMeets codes levels k level code at (elements count next)
    quarter_read none =
        let outside = rw ends at (rw none at meets) in
        let all : Arranged k (suc level) code (code + 4 ^ level) s.read = arranged_upper k (suc level) code place (code + 4 ^ level) s.read s.place_to s.arranged in
        record {
          sound = forest_read (quarter_of k level code) s.read (member (pixels s.read))
              (few_are_given k level code s.read can.aligned all (omega (arith, s.size_is, s.few)))
              s.entries_are s.size_is (omega (arith, s.few, can.k_to)) s.next_to;
          complete = λ marked rest e past.
              let l = s.complete marked rest e past in
              let none : l.left ≡ empty = nothing_inside codes levels next k (suc level) place (code + 4 ^ level) l.left rest l.arranged l.entries_left outside in
              ap₂ elements (omega (arith, l.size_left, ap size none)) (omega (arith, l.index_left, ap (λ (f : Forest). length (entries f)) none));
        }

    module _ {i c : ℕ} (found : n ≡ Some (i, c)) where
      entry_there : EntryInside codes levels next place (code + 4 ^ level) i c
      entry_there = rw ends at (rw found at meets)

      pub entry_fits : c < 4294967296
      entry_fits = omega (arith, entry_there.high, can.code_to)

      -- the next element of any reading of the quarter, and what stands after it
      next_given : (marked : ℕ → Bool) (rest : List Entry) → (l : LeftIn codes levels k level code at count next place marked rest) → From (code + 4 ^ level) rest
          → FirstGiven k level (code + 4 ^ level) i c l.left
      next_given marked rest l past = first_given place l.left rest can.k_from l.arranged l.entries_left past entry_there.is entry_there.high

      next_there : (marked : ℕ → Bool) (rest : List Entry) (l : LeftIn codes levels k level code at count next place marked rest) (past : From (code + 4 ^ level) rest)
          → let g = next_given marked rest l past in
          (entries_from codes levels next ≡ entries (quarter_of k i c g.own) ++ (entries g.others ++ rest)) × From (c + 4 ^ i) (entries g.others ++ rest)
      next_there marked rest l past =
          let g = next_given marked rest l past in
          let one : Forest = quarter_of k i c g.own in (
            rw (g.is, entries_join one g.others, append_assoc (entries one) (entries g.others) rest) at l.entries_left,
            from_arranged k (suc level) (c + 4 ^ i) (code + 4 ^ level) g.others rest g.arranged past,
          )

      -- what is left after the next element
      left_after : {more after : ℕ} → QuarterMeets codes levels k i c next (elements more after) → (marked : ℕ → Bool) (rest : List Entry)
          → entries_from codes levels at ≡ entries (quarter_of k level code marked) ++ rest → From (code + 4 ^ level) rest
          → LeftIn codes levels k level code at (count + more) after (c + 4 ^ i) marked rest
      left_after {more} {after} one marked rest e past =
          let l = s.complete marked rest e past in
          let g = next_given marked rest l past in
          let there = next_there marked rest l past in
          let its : Forest = quarter_of k i c g.own in
          let w : elements more after ≡ elements (size its) (next + length (entries its)) = one.complete g.own (entries g.others ++ rest) there.0 there.1 in
          let m : more ≡ size its = (same_read w).0 in
          let a : after ≡ next + length (entries its) = (same_read w).1 in
          record {
            left = g.others;
            arranged = g.arranged;
            entries_left = rw a (entries_past codes levels (entries its) (entries g.others ++ rest) next there.0);
            size_left = omega (arith, l.size_left, ap size g.is, size_join its g.others);
            index_left = omega (
              arith,
              l.index_left,
              ap (λ (f : Forest). length (entries f)) g.is,
              ap length (entries_join its g.others),
              length-append (entries its) (entries g.others),
            );
          }

      pub element_unfit : {t : Bool} → Decides t (FitsQuarter level i c) → t ≡ false → QuarterMeets codes levels k level code at wrong
      element_unfit decides unfit =
          record {
            sound = tt;
            complete = λ marked rest e past. absurd (decided_false unfit decides (next_given marked rest (s.complete marked rest e past) past).fits);
          }

      module _ {t : Bool} (decides : Decides t (FitsQuarter level i c)) (is_true : t ≡ true) where
        fits : FitsQuarter level i c
        fits = decided_true is_true decides

        pub element_there : EntryIs codes levels next i c
        element_there = entry_there.is

        pub element_can : CanReadBlock levels k i c next
        element_can =
            record {
              k_from = can.k_from;
              k_to = can.k_to;
              level_to = omega (arith, can.level_to, fits.level_to);
              aligned = fits.aligned;
              code_to = omega (arith, element_within can fits entry_there.high, can.code_to);
              at_to = s.next_to;
            }

        -- the element is no larger: what the reader of a quarter falls by
        pub element_falls : {t : ℕ} → 3 * level + 2 ≡ t → 3 * i + 1 < t
        element_falls is = omega (arith, fits.level_to)

        pub element_low : i ≤ 16
        element_low = element_can.level_to

        pub element_ends : c + 4 ^ i ≤ 4294967296
        element_ends = element_can.code_to

        -- the element ends in the quarter, past the place
        pub place_rises : {to : ℕ} → to ≡ c + 4 ^ i → end - to < end - place
        place_rises is = omega (arith, ends, element_within can fits entry_there.high, entry_there.low, pow_pos i)

        module _ {r : Option ElementsRead} (one : QuarterMeets codes levels k i c next r) where
          pub element_wrong : r ≡ wrong → QuarterMeets codes levels k level code at wrong
          element_wrong is-wrong =
              record {
                sound = tt;
                complete = λ marked rest e past.
                    let there = next_there marked rest (s.complete marked rest e past) past in
                    let w = one.complete _ _ there.0 there.1 in absurd (let z : ◌≡◌ {A = ℕ} 0 1 = cc in omega arith);
              }

          module _ {more after : ℕ} (answered : r ≡ elements more after) where
            read_one : QuarterMeets codes levels k i c next (elements more after)
            read_one = rw answered at one

            pub count_fits : count + more < 4294967296
            count_fits = omega (arith, s.few, can.k_to, read_one.sound.count_to)

            pub element_many : k ≤ count + more → QuarterMeets codes levels k level code at wrong
            element_many many =
                record { sound = tt; complete = λ marked rest e past. absurd (omega (arith, (left_after read_one marked rest e past).size_left, given_few can marked)) }

            pub element_read : {to : ℕ} → to ≡ c + 4 ^ i → count + more < k → PartRead codes levels k level code at (count + more) after to
            element_read is few =
                let given : Forest = quarter_of k i c read_one.sound.marked in
                rw is (record {
                  read = s.read ⧺ given;
                  arranged = arranged_join k (suc level) code place (c + 4 ^ i) s.read given s.arranged
                      (arranged_lower k (suc level) place c (c + 4 ^ i) given entry_there.low (given_arranged can i c read_one.sound.marked fits));
                  entries_are = rw (entries_join s.read given, append_assoc (entries s.read) (entries given) (entries_from codes levels after), ← read_one.sound.entries_are) s.entries_are;
                  size_is = rw (size_join s.read given, s.size_is, read_one.sound.size_is);
                  few = few;
                  place_to = element_within can fits entry_there.high;
                  next_to = read_one.sound.next_to;
                  complete = left_after read_one;
                })
