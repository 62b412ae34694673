-- What the first i elements of a block add to the frontier.
use Rattle.std.specs.Prelude.{Result, Ok, Err}
use Rattle.std.specs.Result.{IsErr}
use Prim.Native.Nat.{ℕ, ◌+◌, ◌≤◌, ◌<◌}
use native.Mathlib.Omega.{arith}
use mathlib.Core.Path.{◌≡◌, refl, ap}
use mathlib.Core.Bool.{Bool, true, false, not, cond, false≢true}
use mathlib.Core.Logic.{inl, inr}
use mathlib.Core.Option.{Option, none, some}
use mathlib.Core.List.{List, [], ◌∷◌, ◌++◌}
use lib.Dec.{ltb}
use lib.ListN.{length}
use Rattle.pktree.specs.Lists.{select, total}
use Rattle.pktree.specs.Elements.{Forest, empty, pixel, block_at, ◌⧺◌, unlabelled}
use Rattle.pktree.specs.Tree.{BlockOf, block_of}
use Rattle.pktree.proofs.WindowParts.{select_join, total_join}
use Rattle.elements.specs.declared.Element.{Element}
use Rattle.elements.specs.Element.{element_at, named}
use Rattle.store.specs.declared.Damaged.{Damaged}
use Rattle.store.specs.Placed.{Placed}
use Rattle.store.proofs.PassedElements.{OneElement, is_pixel_lem, is_block}
use Rattle.searching.specs.Distance.{squared_distance, block_distance}
use Rattle.searching.specs.Search.{block_elements}
use Rattle.searching.proofs.Pruned.{is_near}
use Rattle.frontier.specs.declared.Entry.{Entry}
use Rattle.frontier.specs.Entries.{entry}
use Rattle.meeting.specs.declared.place.Place.{Place}
use Rattle.meeting.specs.Place.{place_code}
use Rattle.meeting.specs.Best.{best_of}
use Rattle.meeting.specs.Matching.{key_of, tag_of, EntryOf, Matches}
use Rattle.meeting.specs.Meeting.{Added, new_entries, Impossible, MetElement, MetBlocks}
use Rattle.meeting.proofs.PassedTo.{PassedTo, passed_none, passed_one, passed_all}

pub blocks_join : (f g : Forest) → block_elements (f ⧺ g) ≡ block_elements f ++ block_elements g
blocks_join empty g = refl
blocks_join (pixel c f) g = blocks_join f g
blocks_join (block_at u i c es f) g = ap (block_of i c es ∷◌) (blocks_join f g)

module _ (width slots : ℕ) (words : List ℕ) (place : ℕ) where
  pub matches_join : (l m : List BlockOf) (q r : List Entry) → Matches width slots words place l q → Matches width slots words place m r
      → Matches width slots words place (l ++ m) (q ++ r)
  matches_join [] m [] r h g = g
  matches_join [] m (e ∷ q) r h g = absurd h
  matches_join (b ∷ l) m [] r h g = absurd h
  matches_join (b ∷ l) m (e ∷ q) r h g = (h.0, matches_join l m q r h.1 g)

module _ {k width slots : ℕ} {words : List ℕ} {level code : ℕ} where
  -- the entry of one element
  one_matched : (place : ℕ) (o : Option ℕ) {x : Element} {g : Placed} → OneElement k width slots words level code x g
      → Matches width slots words place (select (is_near place o) (block_elements (unlabelled g))) (new_entries place o x)
  one_matched place o (is_pixel_lem c) = tt
  one_matched place o (is_block s i c fs child) = by o
    where
      is : EntryOf width slots words place (block_of i c (unlabelled fs)) (entry (key_of (block_distance place i c) c) (tag_of s i))
      is = record { k = k; slot = s; placed = fs; view = child.view; small = child.small; elements_are = refl; key_is = refl; tag_is = refl }

      go : (t : Bool) → Matches width slots words place (cond t (block_of i c (unlabelled fs) ∷ []) []) (cond t (entry (key_of (block_distance place i c) c) (tag_of s i) ∷ []) [])
      go true = (is, tt)
      go false = tt

      by : (o : Option ℕ) → Matches width slots words place (select (is_near place o) (block_of i c (unlabelled fs) ∷ [])) (new_entries place o (named s i c))
      by none = go true
      by (some p) = go (not (ltb (squared_distance place p) (block_distance place i c)))

  possible : {x : Element} {g : Placed} → OneElement k width slots words level code x g → Impossible level x → ⊥
  possible (is_pixel_lem c) h = h
  possible (is_block s i c fs child) (inl h) = omega (arith, child.below)
  possible (is_block s i c fs child) (inr h) = omega (arith, child.small)

module _ {width slots : ℕ} {words : List ℕ} {place : ℕ} {o : Option ℕ} {s : List Entry} where
  added_none : Added width slots words place o s empty s
  added_none = record { new = []; matched = tt; sum = λ number. omega arith }

  -- the elements f, then those of g with their entries
  added_more : {f : Forest} {t u : List Entry} (g : Forest) (q : List Entry) → Added width slots words place o s f t
      → Matches width slots words place (select (is_near place o) (block_elements g)) q
      → ((number : Entry → ℕ) → total number u ≡ total number q + total number t) → Added width slots words place o s (f ⧺ g) u
  added_more {f} g q a m sum =
      record {
        new = a.new ++ q;
        matched = rw (blocks_join f g, select_join (is_near place o) (block_elements f) (block_elements g))
            (matches_join width slots words place (select (is_near place o) (block_elements f)) (select (is_near place o) (block_elements g)) a.new q a.matched m);
        sum = λ number. omega (arith, sum number, a.sum number, total_join number a.new q);
      }

-- the frontier s became t by these elements, whichever pixel is found as far as this
abbrev AddedFor : Place → ℕ → List Entry → List Entry → ℕ → ℕ → List ℕ → Forest → Type 0
AddedFor place farthest s t width slots words f = (o : Option ℕ) → farthest ≡ (best_of (place_code place) o).distance → Added width slots words (place_code place) o s f t

-- after so many of a block's elements
pub record MetTo (part : List ℕ) (count above : ℕ) (place : Place) (farthest : ℕ) (before after : List Entry) (i : ℕ) : Type 0 where
  pub few : length after ≤ length before + i
  pub passed : PassedTo part count above i (AddedFor place farthest before after)

module _ {part : List ℕ} {count above : ℕ} {place : Place} {farthest : ℕ} {before : List Entry} where
  pub met_none : MetTo part count above place farthest before before 0
  met_none = record { few = omega arith; passed = passed_none _ (λ width slots words o e. added_none) }

  -- an element's outcome goes on from the frontier that those before it left
  module _ {now after : List Entry} {i : ℕ} {x : Element} (below : i < count) (to : MetTo part count above place farthest before now i) (is : x ≡ element_at part i) where
    pub met_one : {u : Unit {0}} → MetElement x above place farthest now after (Ok u) → MetTo part count above place farthest before after (i + 1)
    met_one {u} met =
        let one : MetElement (element_at part i) above place farthest now after (Ok u) = rw is at met in
        record {
          few = omega (arith, to.few, one.case.0);
          passed = passed_one to.passed _ below (λ k width slots words code f g at done o h.
              added_more (unlabelled g) (new_entries (place_code place) o (element_at part i)) (done o h) (one_matched (place_code place) o at) (one.case.1 o h));
        }

    -- no element of a block of a sound store is refused
    pub met_damaged : {d : Damaged} → MetElement x above place farthest now after (Err d) → (r : Result (Unit {0}) Damaged) → IsErr r
        → MetBlocks part count above place farthest before after r
    met_damaged met (Ok u) h = absurd (false≢true h)
    met_damaged {d} met (Err _) h =
        let one : MetElement (element_at part i) above place farthest now after (Err d) = rw is at met in
        let never = passed_one to.passed (λ width slots words f. ⊥) below (λ k width slots words code f g at done. possible at one.case) in
        record { case = λ width slots words es shown. (never.passed width slots words es shown).done }

  pub met_all : {now : List Entry} {i : ℕ} → i ≤ count → count ≤ i → MetTo part count above place farthest before now i → MetBlocks part count above place farthest before now (Ok tt)
  met_all within end to = record { case = (omega (arith, to.few), passed_all to.passed end) }
