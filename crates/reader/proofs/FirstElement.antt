-- The first of the elements left in a quarter, known by the entry that comes next.
use Prim.Native.Nat.{ℕ, suc, ◌+◌, ◌^◌, ◌≤◌, ◌<◌}
use native.Mathlib.Omega.{arith}
use mathlib.Core.Path.{◌≡◌, subst, subst₂}
use mathlib.Core.Bool.{Bool, true}
use mathlib.Core.List.{List, ◌++◌}
use Rattle.pktree.specs.PixelSet.{member}
use Rattle.pktree.specs.Elements.{Forest, empty, pixel, block, block_at, ◌⧺◌, give, gather}
use Rattle.pktree.specs.Entries.{Entry, entry, entries}
use Rattle.pktree.specs.Tree.{pixels}
use Rattle.pktree.proofs.Forests.{give_itself}
use Rattle.pktree.proofs.Alignment.{aligned_multiple}
use Rattle.pktree.proofs.Arranged.{Arranged}
use Rattle.pktree.proofs.LocalLaw.{local_is_gather}
use Rattle.reader.specs.Reading.{entries_from, EntryIs, FitsQuarter, quarter_of, From}
use Rattle.reader.proofs.EntriesFrom.{first_entry}
use Rattle.reader.proofs.FirstEntry.{not_past}
use Rattle.reader.proofs.ElementRead.{pixel_given}

-- the first of some elements is what its own block gives
pub record FirstGiven (k level to i c : ℕ) (left : Forest) : Type 0 where
  pub fits : FitsQuarter level i c
  pub own : ℕ → Bool
  pub others : Forest
  pub arranged : Arranged k (suc level) (c + 4 ^ i) to others
  pub is : left ≡ quarter_of k i c own ⧺ others

pub first_given : {codes levels : List ℕ} {k level to next i c : ℕ} (place : ℕ) (left : Forest) (rest : List Entry) → 2 ≤ k → Arranged k (suc level) place to left
    → entries_from codes levels next ≡ entries left ++ rest → From to rest → EntryIs codes levels next i c → c < to → FirstGiven k level to i c left
first_given {codes} {levels} {next = next} {i = i} {c = c} place empty rest h row e past is inside = absurd (not_past codes levels next i c _ rest is e past inside)
first_given {codes} {levels} {k} {level} {to = to} {next = next} {i = i} {c = c} place (pixel d f) rest h row e past is inside =
    let first = (first_entry codes levels next (entry 0 d) (entries f ++ rest) e).is in
    let one : FirstGiven k level to 0 d (pixel d f) =
    record {
      fits = record { level_to = omega arith; aligned = aligned_multiple 0 d d (omega arith) };
      own = λ x. true;
      others = f;
      arranged = subst (λ (from : ℕ). Arranged k (suc level) from to f) (omega arith) row.1;
      is = rw (pixel_given k d h);
    } in
    subst₂ (λ (j d' : ℕ). FirstGiven k level to j d' (pixel d f)) (omega (arith, first.level_is, is.level_is)) (omega (arith, first.code_is, is.code_is)) one
first_given {codes} {levels} {k} {level} {to = to} {next = next} {i = i} {c = c} place (block_at u j d es f) rest h row e past is inside =
    let first = (first_entry codes levels next (entry j d) ((entries es ++ entries f) ++ rest) e).is in
    let own : es ≡ gather (member (pixels es)) k j d = local_is_gather k j d es row.4 (record { arranged = row.6; sparse = row.5 }) in
    let one : FirstGiven k level to j d (block j d es f) =
    record {
      fits = record { level_to = omega (arith, row.1); aligned = row.4 };
      own = member (pixels es);
      others = f;
      arranged = row.7;
      is = subst (λ (g : Forest). block j d es f ≡ give k j d g ⧺ f) own (rw (give_itself k j d es row.3));
    } in
    subst₂ (λ (j' d' : ℕ). FirstGiven k level to j' d' (block j d es f)) (omega (arith, first.level_is, is.level_is)) (omega (arith, first.code_is, is.code_is)) one
