-- The elements of a block, read quarter by quarter.
use Prim.Native.Nat.{ℕ, zero, suc, ◌+◌, ◌-◌, ◌*◌, ◌^◌, ◌≤◌, ◌<◌}
use native.Mathlib.Omega.{arith}
use mathlib.Core.Path.{◌≡◌, refl, ap, ap₂, subst}
use mathlib.Core.Bool.{Bool}
use mathlib.Core.List.{List, ◌++◌, append_assoc}
use lib.ListN.{length, length-append}
use Rattle.pktree.specs.Panel.{Aligned}
use Rattle.pktree.specs.PixelSet.{member}
use Rattle.pktree.specs.Elements.{Forest, empty, ◌⧺◌, size, gather}
use Rattle.pktree.specs.Entries.{Entry, entries}
use Rattle.pktree.specs.Tree.{pixels}
use Rattle.pktree.proofs.Forests.{size_join}
use Rattle.pktree.proofs.Alignment.{aligned_next, aligned_down}
use Rattle.pktree.proofs.Counting.{sparse_of_small}
use Rattle.pktree.proofs.EntryOrder.{entries_join}
use Rattle.pktree.proofs.LocalLaw.{Row, row_join, local_is_gather, gather_is_local, given_row}
use Rattle.reader.specs.declared.ElementsRead.{ElementsRead}
use Rattle.std.specs.Prelude.{Option}
use Rattle.reader.specs.Reading.{elements, wrong, entries_from, CanReadBlock, elements_of, quarter_of, From, ElementsMeet, QuarterMeets, most_of_block, most_given}
use Rattle.reader.proofs.BlockSize.{size_of_quarters}
use Rattle.reader.proofs.EntriesFrom.{entries_past}
use Rattle.reader.proofs.ForestRead.{forest_read, same_read}
use Rattle.reader.proofs.Quarters.{quarters, gather_is_quarters, from_quarters}

-- of a block that stands at `at`: the last n quarters, from `place` on, stand at `next`, and `count` elements before them
pub record LeftOf (codes levels : List ℕ) (k level code at count next place n : ℕ) (marked : ℕ → Bool) (rest : List Entry) : Type 0 where
  pub entries_left : entries_from codes levels next ≡ entries (quarters marked k level n place) ++ rest
  pub size_left : count + size (quarters marked k level n place) ≡ size (gather marked k (suc level) code)
  pub index_left : next + length (entries (quarters marked k level n place)) ≡ at + length (entries (gather marked k (suc level) code))

-- all quarters but the last n are read, of the block of the level above and this code
pub record QuartersRead (codes levels : List ℕ) (k level code at count next place n : ℕ) : Type 0 where
  pub read : Forest
  pub row : Row k level code place read
  pub entries_are : entries_from codes levels at ≡ entries read ++ entries_from codes levels next
  pub size_is : size read ≡ count
  pub aligned : Aligned level place
  pub ends : place + n * 4 ^ level ≡ code + 4 ^ suc level
  pub count_to : count + most_given * n ≤ most_of_block
  pub next_to : next ≤ length levels
  pub complete : (marked : ℕ → Bool) (rest : List Entry) → entries_from codes levels at ≡ entries (gather marked k (suc level) code) ++ rest
      → From (code + 4 ^ suc level) rest → LeftOf codes levels k level code at count next place n marked rest

module _ {codes levels : List ℕ} {k level code at : ℕ} (h : 2 ≤ k) where
  none_read : Aligned (suc level) code → at ≤ length levels → QuartersRead codes levels k level code at 0 at code 4
  none_read aligned to =
      record {
        read = empty;
        row = record { arranged = omega arith; sparse = sparse_of_small {A = Unit {0}} k level empty (omega arith) };
        entries_are = refl;
        size_is = refl;
        aligned = aligned_down level code aligned;
        ends = omega arith;
        count_to = omega arith;
        next_to = to;
        complete = λ marked rest e past.
            let q = gather_is_quarters marked k level code in
            record { entries_left = rw (← q) e; size_left = rw (← q) (omega arith); index_left = rw (← q) };
      }

  -- what is left, seen as the next quarter and those after it
  next_there : {count next place : ℕ} (n : ℕ) → QuartersRead codes levels k level code at count next place (suc n)
      → (marked : ℕ → Bool) (rest : List Entry) → LeftOf codes levels k level code at count next place (suc n) marked rest → From (code + 4 ^ suc level) rest
      → (entries_from codes levels next ≡ entries (quarter_of k level place marked) ++ (entries (quarters marked k level n (place + 4 ^ level)) ++ rest))
      × From (place + 4 ^ level) (entries (quarters marked k level n (place + 4 ^ level)) ++ rest)
  unfolding quarters
  next_there {count} {next} {place} n s marked rest left past =
      let one : Forest = quarter_of k level place marked in
      let others : Forest = quarters marked k level n (place + 4 ^ level) in (
        rw (entries_join one others, append_assoc (entries one) (entries others) rest) at left.entries_left,
        from_quarters marked k level n (place + 4 ^ level) rest h (aligned_next level place s.aligned)
            (subst (λ (to : ℕ). From to rest) (omega (arith, s.ends)) past),
      )

  wrong_read : {count next place : ℕ} {r : Option ElementsRead} (n : ℕ) → QuartersRead codes levels k level code at count next place (suc n)
      → QuarterMeets codes levels k level place next r → r ≡ wrong → ElementsMeet codes levels k (suc level) code at wrong
  wrong_read n s one is-wrong =
      record {
        sound = tt;
        complete = λ marked rest e past.
            let there = next_there n s marked rest (s.complete marked rest e past) past in
            let w = one.complete marked _ there.0 there.1 in absurd (let z : ◌≡◌ {A = ℕ} 0 1 = cc in omega arith);
      }

  one_read : {count next place more after : ℕ} (n : ℕ) → QuartersRead codes levels k level code at count next place (suc n)
      → QuarterMeets codes levels k level place next (elements more after) → QuartersRead codes levels k level code at (count + more) after (place + 4 ^ level) n
  unfolding quarters
  one_read {count} {next} {place} {more} {after} n s one =
      let given : Forest = quarter_of k level place one.sound.marked in
      record {
        read = s.read ⧺ given;
        row = row_join k level code place (place + 4 ^ level) s.aligned s.row
            (given_row k level place (place + 4 ^ level) _ h refl s.aligned (gather_is_local one.sound.marked k level place h s.aligned));
        entries_are = rw (entries_join s.read given, append_assoc (entries s.read) (entries given) (entries_from codes levels after), ← one.sound.entries_are) s.entries_are;
        size_is = rw (size_join s.read given, s.size_is, one.sound.size_is);
        aligned = aligned_next level place s.aligned;
        ends = omega (arith, s.ends);
        count_to = omega (arith, s.count_to, one.sound.count_to);
        next_to = one.sound.next_to;
        complete = λ marked rest e past.
            let left = s.complete marked rest e past in
            let there = next_there n s marked rest left past in
            let its : Forest = quarter_of k level place marked in
            let others : Forest = quarters marked k level n (place + 4 ^ level) in
            let w : elements more after ≡ elements (size its) (next + length (entries its)) = one.complete marked (entries others ++ rest) there.0 there.1 in
            let m : more ≡ size its = (same_read w).0 in
            let a : after ≡ next + length (entries its) = (same_read w).1 in
            record {
              entries_left = rw a (entries_past codes levels (entries its) (entries others ++ rest) next there.0);
              size_left = omega (arith, left.size_left, size_join its others);
              index_left = omega (arith, left.index_left, ap length (entries_join its others), length-append (entries its) (entries others));
            };
      }

  four_read : {count next place : ℕ} → Aligned (suc level) code → QuartersRead codes levels k level code at count next place 0
      → ElementsMeet codes levels k (suc level) code at (elements count next)
  unfolding quarters
  four_read {count} {next} {place} aligned s =
      let end : place ≡ code + 4 ^ suc level = omega (arith, s.ends) in
      let row : Row k level code (code + 4 ^ suc level) s.read = subst (λ (to : ℕ). Row k level code to s.read) end s.row in
      record {
        sound = forest_read (elements_of k (suc level) code) s.read (member (pixels s.read))
            (local_is_gather k (suc level) code s.read aligned (record { arranged = row.arranged; sparse = row.sparse }))
            s.entries_are s.size_is (omega (arith, s.count_to)) s.next_to;
        complete = λ marked rest e past.
            let left = s.complete marked rest e past in ap₂ elements (omega (arith, left.size_left)) (omega (arith, left.index_left));
      }

-- the same of a block of this level, whose quarters are of the level below
module _ {levels : List ℕ} {k level code at : ℕ} (can : CanReadBlock levels k level code at) (up : 1 ≤ level) where
  level_up : suc (level - 1) ≡ level
  level_up = omega arith

  aligned_up : Aligned (suc (level - 1)) code
  aligned_up = rw (level_up) can.aligned

module _ {codes levels : List ℕ} {k level code at : ℕ} (can : CanReadBlock levels k level code at) (up : 1 ≤ level) where
  of_level : (r : Option ElementsRead) → ElementsMeet codes levels k (suc (level - 1)) code at r → ElementsMeet codes levels k level code at r
  of_level r = subst (λ (l : ℕ). ElementsMeet codes levels k l code at r) (level_up can up)

  pub no_quarter_read : QuartersRead codes levels k (level - 1) code at 0 at code 4
  no_quarter_read = none_read can.k_from (aligned_up can up) can.at_to

  module _ {count next place n : ℕ} (s : QuartersRead codes levels k (level - 1) code at count next place n) where
    pub all_read : n ≤ 0 → ElementsMeet codes levels k level code at (elements count next)
    all_read none = let z : n ≡ 0 = omega arith in of_level (elements count next) (four_read can.k_from (aligned_up can up) (rw z at s))

    module _ (some : 0 < n) where
      -- the next quarter ends before 2 ^ 32
      quarter_ends : place + 4 ^ (level - 1) ≤ 4294967296
      quarter_ends = go n some s.ends
        where
          go : (m : ℕ) → 0 < m → place + m * 4 ^ (level - 1) ≡ code + 4 ^ suc (level - 1) → place + 4 ^ (level - 1) ≤ 4294967296
          go zero some ends = absurd (omega arith)
          go (suc m) some ends = omega (arith, size_of_quarters level up, can.code_to)

      pub quarter_can : CanReadBlock levels k (level - 1) place next
      quarter_can =
          record {
            k_from = can.k_from;
            k_to = can.k_to;
            level_to = omega (arith, can.level_to);
            aligned = s.aligned;
            code_to = quarter_ends;
            at_to = s.next_to;
          }

      pub next_place_fits : {size : ℕ} → size ≡ 4 ^ (level - 1) → place + size < 18446744073709551616
      next_place_fits is = omega (arith, quarter_ends)

      next_left : QuartersRead codes levels k (level - 1) code at count next place (suc (n - 1))
      next_left = let e : suc (n - 1) ≡ n = omega arith in rw e s

      module _ {r : Option ElementsRead} (one : QuarterMeets codes levels k (level - 1) place next r) where
        pub quarter_wrong : r ≡ wrong → ElementsMeet codes levels k level code at wrong
        quarter_wrong is-wrong = of_level wrong (wrong_read can.k_from (n - 1) next_left one is-wrong)

        module _ {more after : ℕ} (answered : r ≡ elements more after) where
          pub count_fits : count + more < 4294967296
          count_fits = omega (arith, s.count_to, (rw answered at one.sound).count_to)

          pub next_quarter_read : {size rest : ℕ} → size ≡ 4 ^ (level - 1) → rest ≡ n - 1
              → QuartersRead codes levels k (level - 1) code at (count + more) after (place + size) rest
          next_quarter_read is one_less = rw (is, one_less) (one_read can.k_from (n - 1) next_left (rw answered at one))
