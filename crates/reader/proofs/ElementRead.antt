-- Reading one element from its entry on: a pixel, or a block with k elements or more in it.
use Prim.Native.Nat.{ℕ, ◌+◌, ◌^◌, ◌≤◌, ◌<◌}
use native.Mathlib.Omega.{arith}
use native.Mathlib.Numerals.{add-one}
use mathlib.Core.Path.{◌≡◌, ap, sym, ◌∙◌}
use mathlib.Core.Bool.{Bool, true}
use mathlib.Core.List.{List, [], ◌∷◌, ◌++◌, append-nil}
use lib.ListN.{length}
use Rattle.pktree.specs.Elements.{Forest, empty, pixel, block, size, give, gather}
use Rattle.pktree.specs.Entries.{Entry, entry, entries}
use Rattle.pktree.proofs.Forests.{cond_case, give_case, give_itself, give_elements}
use Rattle.pktree.proofs.LocalLaw.{gather_is_local}
use Rattle.reader.specs.declared.ElementsRead.{ElementsRead}
use Rattle.std.specs.Prelude.{Option}
use Rattle.reader.specs.Reading.{elements, wrong, entries_from, EntryIs, CanReadBlock, elements_of, quarter_of, From, ReadAs, ElementsMeet, QuarterMeets, most_of_block, most_given}
use Rattle.reader.proofs.EntriesFrom.{entry_first, first_entry}
use Rattle.reader.proofs.ForestRead.{same_read}
use Rattle.reader.proofs.FirstEntry.{not_past, not_of_elements}

-- a marked pixel gives itself
pub pixel_given : (k code : ℕ) → 2 ≤ k → quarter_of k 0 code (λ x. true) ≡ pixel code empty
unfolding gather
pixel_given k code h = give_elements k 0 code (pixel code empty) (omega arith)

pixel_there : {codes levels : List ℕ} {k code at : ℕ} → CanReadBlock levels k 0 code at → EntryIs codes levels at 0 code
    → QuarterMeets codes levels k 0 code at (elements 1 (at + 1))
unfolding gather
pixel_there {codes} {levels} {k} {code} {at} can is =
    let itself = pixel_given k code can.k_from in
    let given : (f : Forest) → size f < 2 → give k 0 code f ≡ f = λ f few. give_elements k 0 code f (omega (arith, can.k_from)) in
    record {
      sound = record {
        marked = λ x. true;
        entries_are = rw (itself, add-one at) (entry_first codes levels is);
        size_is = rw itself;
        count_to = omega arith;
        next_to = omega (arith, is.below);
      };
      complete = λ marked rest. cond_case (λ (f : Forest). entries_from codes levels at ≡ entries (give k 0 code f) ++ rest → From (code + 4 ^ 0) rest
          → elements 1 (at + 1) ≡ elements (size (give k 0 code f)) (at + length (entries (give k 0 code f)))) (marked code) (pixel code empty) empty
          (λ t e past. rw (given (pixel code empty) (omega arith)))
          (λ t e past. absurd (not_past codes levels at 0 code (code + 4 ^ 0) rest is (rw (given empty (omega arith)) at e) past (omega arith)));
    }

pub pixel_read : {codes levels : List ℕ} {k level code at : ℕ} → CanReadBlock levels k level code at → EntryIs codes levels at level code → level < 1
    → QuarterMeets codes levels k level code at (elements 1 (at + 1))
pixel_read {level = level} can is low = let z : level ≡ 0 = omega arith in rw z (pixel_there (rw z at can) (rw z at is))

-- the elements of a block stand after its entry
pub inside_can : {codes levels : List ℕ} {k level code at : ℕ} → CanReadBlock levels k level code at → EntryIs codes levels at level code
    → CanReadBlock levels k level code (at + 1)
inside_can can is =
    record {
      k_from = can.k_from;
      k_to = can.k_to;
      level_to = can.level_to;
      aligned = can.aligned;
      code_to = can.code_to;
      at_to = omega (arith, is.below);
    }

module _ {codes levels : List ℕ} {k level code at : ℕ} (can : CanReadBlock levels k level code at) (is : EntryIs codes levels at level code) (up : 1 ≤ level) where
  -- a claimed block gives itself, and its elements stand after its entry
  given_claimed : (marked : ℕ → Bool) (rest : List Entry) → entries_from codes levels at ≡ entries (quarter_of k level code marked) ++ rest → From (code + 4 ^ level) rest
      → (k ≤ size (gather marked k level code)) × (entries_from codes levels (at + 1) ≡ entries (gather marked k level code) ++ rest)
  given_claimed marked rest e past =
      let es : Forest = gather marked k level code in
      give_case (λ (f : Forest). entries_from codes levels at ≡ entries f ++ rest → (k ≤ size es) × (entries_from codes levels (at + 1) ≡ entries es ++ rest))
      k level code es
      (λ few s. absurd (not_of_elements codes levels at k level code es rest up is (gather_is_local marked k level code can.k_from can.aligned).arranged s past))
      (λ many s. (many, rw (add-one at) (rw (append-nil (entries es)) at (first_entry codes levels at (entry level code) ((entries es ++ []) ++ rest) s).after))) e

  -- a block whose elements are read is read as one element
  block_given : {count next : ℕ} → ReadAs (elements_of k level code) codes levels (at + 1) most_of_block count next → k ≤ count → ReadAs (quarter_of k level code) codes levels at most_given 1 next
  block_given read many =
      let es : Forest = gather read.marked k level code in
      let itself : give k level code es ≡ block level code es empty = give_itself k level code es (omega (arith, read.size_is)) in
      record {
        marked = read.marked;
        entries_are = rw (itself, append-nil (entries es)) (entry_first codes levels is ∙ ap (λ (l : List Entry). entry level code ∷ l) (rw (add-one at) at read.entries_are));
        size_is = rw itself;
        count_to = omega arith;
        next_to = read.next_to;
      }

  module _ {r : Option ElementsRead} (inside : ElementsMeet codes levels k level code (at + 1) r) where
    pub claimed_wrong : r ≡ wrong → QuarterMeets codes levels k level code at wrong
    claimed_wrong is-wrong =
        record {
          sound = tt;
          complete = λ marked rest e past.
              let g = given_claimed marked rest e past in
              let w = inside.complete marked rest g.1 past in absurd (let z : ◌≡◌ {A = ℕ} 0 1 = cc in omega arith);
        }

    module _ {count next : ℕ} (answered : r ≡ elements count next) where
      pub claimed_few : count < k → QuarterMeets codes levels k level code at wrong
      claimed_few few =
          record {
            sound = tt;
            complete = λ marked rest e past.
                let g = given_claimed marked rest e past in
                let w = inside.complete marked rest g.1 past in
                let n : count ≡ size (gather marked k level code) = (same_read (sym answered ∙ w)).0 in absurd (omega (arith, g.0));
          }

      pub claimed_read : k ≤ count → QuarterMeets codes levels k level code at (elements 1 next)
      claimed_read many =
          record {
            sound = block_given (rw answered at inside.sound) many;
            complete = λ marked rest e past.
                let g = given_claimed marked rest e past in
                let w = inside.complete marked rest g.1 past in
                let n : next ≡ at + 1 + length (entries (gather marked k level code)) = (same_read (sym answered ∙ w)).1 in
                rw (give_itself k level code (gather marked k level code) g.0, append-nil (entries (gather marked k level code))) (ap (elements 1) (omega arith));
          }
