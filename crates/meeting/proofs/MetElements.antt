-- What one element adds to the frontier.
use Rattle.std.specs.Prelude.{Ok, Err}
use Prim.Native.Nat.{ℕ, ◌≤◌, ◌<◌}
use native.Mathlib.Omega.{arith}
use mathlib.Core.Path.{◌≡◌, refl, sym, subst}
use mathlib.Core.Bool.{true, false}
use mathlib.Core.Logic.{◌⊎◌, inl, inr}
use mathlib.Core.Option.{Option, none, some}
use mathlib.Core.List.{List}
use borrow.Author.Tests.{lt-ltb, le-ltb}
use Rattle.pktree.specs.Lists.{total}
use Rattle.pktree.specs.Elements.{empty}
use Rattle.pktree.specs.Tree.{block_of}
use Rattle.elements.specs.declared.Element.{Element}
use Rattle.elements.specs.declared.Element.TheVariants.{Pixel}
use Rattle.elements.specs.Element.{tag_slots, named}
use Rattle.searching.specs.Distance.{squared_distance, block_distance}
use Rattle.searching.proofs.Pruned.{is_near}
use Rattle.frontier.specs.declared.Entry.{Entry}
use Rattle.frontier.specs.Entries.{entry, Pushed}
use Rattle.frontier.proofs.EntryLaws.{longer}
use Rattle.meeting.specs.declared.place.Place.{Place}
use Rattle.meeting.specs.Place.{place_code, ToBlock}
use Rattle.meeting.specs.Best.{best_of}
use Rattle.meeting.specs.Meeting.{KeyIs, TagIs, new_entries, Impossible, MetElement}

module _ {place : Place} {level code distance farthest : ℕ} (to : ToBlock place level code distance) where
  -- the pixel found is nearer than the block
  near_not : (o : Option ℕ) → farthest ≡ (best_of (place_code place) o).distance → farthest < distance → is_near (place_code place) o (block_of level code empty) ≡ false
  near_not none e h = absurd (omega (arith, to.below))
  near_not (some p) e h = rw (lt-ltb (squared_distance (place_code place) p) (block_distance (place_code place) level code) (omega (arith, to.is)))

  near_is : (o : Option ℕ) → farthest ≡ (best_of (place_code place) o).distance → distance ≤ farthest → is_near (place_code place) o (block_of level code empty) ≡ true
  near_is none e h = refl
  near_is (some p) e h = rw (le-ltb (squared_distance (place_code place) p) (block_distance (place_code place) level code) (omega (arith, to.is)))

module _ {element : Element} {above : ℕ} {place : Place} {farthest : ℕ} {before : List Entry} where
  -- nothing is added
  none_added : ((o : Option ℕ) → farthest ≡ (best_of (place_code place) o).distance → (number : Entry → ℕ) → total number (new_entries (place_code place) o element) ≡ 0)
      → MetElement element above place farthest before before (Ok tt)
  none_added nothing = record { case = (omega arith, λ o e number. omega (arith, nothing o e number)) }

  pub pixel_met : {c : ℕ} → element ≡ Pixel c → MetElement element above place farthest before before (Ok tt)
  pixel_met e = none_added (λ o f number. rw e)

  pub farther_met : {s i c distance : ℕ} → element ≡ named s i c → ToBlock place i c distance → farthest < distance → MetElement element above place farthest before before (Ok tt)
  farther_met e to h = none_added (λ o f number. rw (e, near_not to o f h))

  damaged_met : {s i c : ℕ} → element ≡ named s i c → (above ≤ i) ⊎ (tag_slots ≤ s) → MetElement element above place farthest before before (Err (record {}))
  damaged_met e h = record { case = subst (Impossible above) (sym e) h }

  pub high_met : {s i c : ℕ} → element ≡ named s i c → above ≤ i → MetElement element above place farthest before before (Err (record {}))
  high_met e h = damaged_met e (inl h)

  pub slotless_met : {s i c : ℕ} → element ≡ named s i c → tag_slots ≤ s → MetElement element above place farthest before before (Err (record {}))
  slotless_met e h = damaged_met e (inr h)

  pub block_met : {s i c distance key tag : ℕ} {after : List Entry} → element ≡ named s i c → ToBlock place i c distance → distance ≤ farthest → KeyIs distance c key → TagIs s i tag
      → Pushed before after (entry key tag) → MetElement element above place farthest before after (Ok tt)
  block_met {s} {i} {c} {distance} {key} {tag} {after} e to h k t pushed =
      record {
        case = (
          omega (arith, longer pushed),
          λ o f number. rw (e, near_is to o f h) (omega (arith, rw (k.is, t.is, to.is) at (pushed.one_more number))),
        );
      }
