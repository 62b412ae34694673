-- What meeting the elements of a block does to the frontier.
use Rattle.std.specs.Prelude.{ℕ, ◌+◌, ◌≤◌, ◌≡◌, cond, ◌⊎◌, List, [], ◌∷◌, length, Result, Ok, Err}
use Rattle.std.proofs.Math.Option.{Option}
use Rattle.pktree.specs.Lists.{select, total}
use Rattle.pktree.specs.Elements.{Forest, empty, unlabelled}
use Rattle.pktree.specs.Tree.{block_of}
use Rattle.elements.specs.declared.Element.{Element}
use Rattle.elements.specs.declared.Element.TheVariants.{Pixel, Block}
use Rattle.elements.specs.Element.{tag_slots}
use Rattle.store.specs.declared.Damaged.{Damaged}
use Rattle.store.specs.Placed.{Placed}
use Rattle.searching.specs.Distance.{block_distance}
use Rattle.searching.specs.Search.{block_elements}
use Rattle.searching.proofs.Pruned.{is_near}
use Rattle.frontier.specs.declared.Entry.{Entry}
use Rattle.frontier.specs.Entries.{entry}
use Rattle.meeting.specs.declared.place.Place.{Place}
use Rattle.meeting.specs.Place.{place_code}
use Rattle.meeting.specs.Shown.{Shown}
use Rattle.meeting.specs.Best.{best_of}
use Rattle.meeting.specs.Matching.{key_of, tag_of, Matches}

pub record KeyIs (distance code r : ℕ) : Type 0 where
  pub is : r ≡ key_of distance code

pub record TagIs (slot level r : ℕ) : Type 0 where
  pub is : r ≡ tag_of slot level

-- of the elements f that are blocks, those not farther than the pixel found were added
pub record Added (width slots : ℕ) (words : List ℕ) (place : ℕ) (o : Option ℕ) (before : List Entry) (f : Forest) (after : List Entry) : Type 0 where
  pub new : List Entry
  pub matched : Matches width slots words place (select (is_near place o) (block_elements f)) new
  pub sum : (number : Entry → ℕ) → total number after ≡ total number new + total number before

-- the entry of a block that is not farther than the pixel found
abbrev pub new_entries : ℕ → Option ℕ → Element → List Entry
new_entries place o (Pixel code) = []
new_entries place o (Block block) =
    cond (is_near place o (block_of block.level block.code empty)) (entry (key_of (block_distance place block.level block.code) block.code) (tag_of block.slot block.level) ∷ []) []

-- an element that no block of this level has in a sound store
abbrev pub Impossible : ℕ → Element → Type 0
Impossible above (Pixel code) = ⊥
Impossible above (Block block) = (above ≤ block.level) ⊎ (tag_slots ≤ block.slot)

abbrev pub ElementCase : Element → ℕ → Place → ℕ → List Entry → List Entry → Result (Unit {0}) Damaged → Type 0
ElementCase element above place farthest before after (Ok _) =
    (length after ≤ length before + 1)
    × ((o : Option ℕ) → farthest ≡ (best_of (place_code place) o).distance
    → (number : Entry → ℕ) → total number after ≡ total number (new_entries (place_code place) o element) + total number before)
ElementCase element above place farthest before after (Err _) = Impossible above element

pub record MetElement (element : Element) (above : ℕ) (place : Place) (farthest : ℕ) (before after : List Entry) (r : Result (Unit {0}) Damaged) : Type 0 where
  pub case : ElementCase element above place farthest before after r

-- for each block of a sound store whose words these are, and each pixel found as far as this
abbrev pub MetCase : List ℕ → ℕ → ℕ → Place → ℕ → List Entry → List Entry → Result (Unit {0}) Damaged → Type 0
MetCase part count above place farthest before after (Ok _) =
    (length after ≤ length before + count)
    × ((width slots : ℕ) (words : List ℕ) (es : Placed) → Shown width slots words part count above es
    → (o : Option ℕ) → farthest ≡ (best_of (place_code place) o).distance
    → Added width slots words (place_code place) o before (unlabelled es) after)
MetCase part count above place farthest before after (Err _) = (width slots : ℕ) (words : List ℕ) (es : Placed) → Shown width slots words part count above es → ⊥

pub record MetBlocks (part : List ℕ) (count above : ℕ) (place : Place) (farthest : ℕ) (before after : List Entry) (r : Result (Unit {0}) Damaged) : Type 0 where
  pub case : MetCase part count above place farthest before after r
