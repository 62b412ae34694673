-- What the clients know. First of 01's first sample panel as a register (m = 3, k = 3, N = 9, with codes 0, 1, 2 and 60), then of such a register
-- that something else overwrote, last of any words.
use Rattle.std.specs.Prelude.{ℕ, ◌≤◌, ◌<◌, ◌≡◌, Bool, List, [], ◌∷◌, ◌++◌, length, get_or, take, drop, ◌⊎◌, ◌↔◌}
use Rattle.morton.specs.Code.{code_of}
use Rattle.pktree.specs.Panel.{HasPixel}
use Rattle.pktree.specs.PixelSet.{member}
use Rattle.pktree.specs.Tree.{tree}
use Rattle.pktree.specs.SmallestBlock.{Smallest, IsElement}
use Rattle.pktree.specs.Window.{Window, Ordered, part_on, found, opened_by_pixel, opened_by_window, crossed_by_window}
use Rattle.searching.specs.Nearest.{Nearest}
use Rattle.searching.specs.NearestPromises.{nearest_on}
use Rattle.measures.specs.declared.sizes.Sizes.{Sizes}
use Rattle.measures.specs.Sizes.{panel_of, sizes_of, UsableStore}
use Rattle.store.specs.Sound.{Holds}
use Rattle.promises.specs.Answer.{Answer, accepted, searched, located}
use Rattle.promises.specs.Effect.{HasPixelOn}
use Rattle.promises.specs.Walk.{Spoiled}
use Rattle.promises.specs.Calls.{asked, image_of}
use Rattle.promises.proofs.Nearest.{NearestOfAll}

abbrev pub first_set : List ℕ
first_set = 0 ∷ 1 ∷ 2 ∷ 60 ∷ []

-- a register of these sizes that holds this set, where another store was; of that, the 148 words of the formula and no more were written
pub record HoldsOf9 (set before after : List ℕ) : Type 0 where
  pub holds : Holds after set
  pub sizes_are : sizes_of after ≡ asked 3 3 9
  pub past : drop 148 after ≡ drop 148 before
  pub long : length after ≡ length before

-- the first panel, wherever it came from
pub record HoldsFirst (words : List ℕ) : Type 0 where
  pub holds : Holds words first_set
  pub sizes_are : sizes_of words ≡ asked 3 3 9

-- 01: its image
abbrev pub first_image : List ℕ
first_image =
    (3 ∷ 3 ∷ 6 ∷ 0 ∷ 0 ∷ 0 ∷ 4 ∷ 0 ∷ 0 ∷ 0 ∷ [])
    ++ ((0 ∷ 0 ∷ 0 ∷ 0 ∷ 0 ∷ 0 ∷ 0 ∷ 0 ∷ 0 ∷ 0 ∷ 0 ∷ 0 ∷ 1 ∷ 0 ∷ 0 ∷ 0 ∷ 2 ∷ 0 ∷ 0 ∷ 0 ∷ 60 ∷ 0 ∷ 0 ∷ 0 ∷ [])
    ++ (3 ∷ 1 ∷ 0 ∷ 0 ∷ 0 ∷ 0 ∷ []))

-- ask: whether the code is in the set, how many blocks of its tree contain it, and whichever is the smallest of them
pub record PanelAsked (x y : ℕ) (a : Answer) : Type 0 where
  pub says : (level block : ℕ) → HasPixel (panel_of (asked 3 3 9)) x y → Smallest (panel_of (asked 3 3 9)) (member first_set) (code_of x y) level block
      → a ≡ located (member first_set (code_of x y)) (opened_by_pixel (code_of x y) (tree (panel_of (asked 3 3 9)) (member first_set))) level block

-- 02's six values
abbrev pub values : Bool → ℕ → ℕ → ℕ → ℕ → Bool → Nearest
values is_found code distance opened limit complete =
    record { is_found = is_found; code = code; distance = distance; opened = opened; limit = limit; complete = complete }

-- nearest: the values of the search
pub record PanelSearched (x y budget : ℕ) (a : Answer) : Type 0 where
  pub says : HasPixel (panel_of (asked 3 3 9)) x y → 1 ≤ budget → a ≡ searched (nearest_on (panel_of (asked 3 3 9)) first_set (code_of x y) budget)

-- what the window's part on a panel of these sizes has of a set, with the blocks of the set's tree that a list opens, or a count
abbrev pub part_found : Window → List ℕ → Sizes → List ℕ
part_found window set sizes = found (part_on (panel_of sizes) window) set

abbrev pub part_listed : Window → List ℕ → Sizes → Answer
part_listed window set sizes = accepted (length (part_found window set sizes)) (opened_by_window (part_on (panel_of sizes) window) (tree (panel_of sizes) (member set)))

abbrev pub part_counted : Window → List ℕ → Sizes → Answer
part_counted window set sizes = accepted (length (part_found window set sizes)) (crossed_by_window (part_on (panel_of sizes) window) (tree (panel_of sizes) (member set)))

-- count, of any window: its part's numbers
pub record PanelCounted (window : Window) (a : Answer) : Type 0 where
  pub says : Ordered window → a ≡ part_counted window first_set (asked 3 3 9)

-- list of the whole panel: its four codes in rising order, two blocks opened; or 9 with the words needed
pub record PanelListed (before after : List ℕ) (a : Answer) : Type 0 where
  pub written : 4 ≤ length before → (a ≡ accepted 4 2) × (after ≡ first_set ++ drop 4 before)
  pub lacking : length before < 4 → (a.refusal ≡ 9) × (a.first ≡ 4) × (after ≡ before)

-- save: the forty bytes; or 9 with the bytes needed
pub record PanelSaved (before after : List ℕ) (a : Answer) : Type 0 where
  pub written : 40 ≤ length before → (a ≡ accepted 40 0) × (after ≡ first_image ++ drop 40 before)
  pub lacking : length before < 40 → (a.refusal ≡ 9) × (a.first ≡ 40) × (after ≡ before)

-- list of the whole panel after code 1 was cleared: the root alone is opened
pub record ClearedListed (before after : List ℕ) (a : Answer) : Type 0 where
  pub written : 3 ≤ length before → (a ≡ accepted 3 1) × (after ≡ (0 ∷ 2 ∷ 60 ∷ []) ++ drop 3 before)

-- words 4 to 147 are FFFFFFFF, words 0 to 3 as they were
pub record Overwritten (before after : List ℕ) : Type 0 where
  pub head : take 4 after ≡ take 4 before
  pub long : length after ≡ length before
  pub spoilt : (i : ℕ) → 4 ≤ i → i < 148 → get_or after i 0 ≡ 0xFFFFFFFF

pub record SpoiltOf9 (words : List ℕ) : Type 0 where
  pub usable : UsableStore words
  pub sizes_are : sizes_of words ≡ asked 3 3 9
  pub spoilt : Spoiled words

-- 01: 13, and 3 from the call after it
pub record DamagedThenUnusable (first second : ℕ) : Type 0 where
  pub damaged : first ≡ 13
  pub unusable : second ≡ 3

-- 02, P3: a window wholly off the panel, with an output of any length
pub record NothingListed (before after : List ℕ) (a : Answer) : Type 0 where
  pub none : a ≡ accepted 0 0
  pub same : after ≡ before

-- 02, P7: one more than the largest N is refused; the largest is made, in a store of so many words
pub record TooMany (before after : List ℕ) (r : ℕ) : Type 0 where
  pub number : r ≡ 1
  pub same : after ≡ before

pub record LargestMade (before : List ℕ) (r : ℕ) : Type 0 where
  pub made : 258970 ≤ length before → r ≡ 0

-- a store whose word 3 is above it is no register
pub record OlderLeft (before after : List ℕ) (r : ℕ) : Type 0 where
  pub number : 24576 < get_or before 3 0 → r ≡ 3
  pub same : 24576 < get_or before 3 0 → after ≡ before

-- a refused call changed nothing: a coordinate that is on no panel gives 3 or 4
pub record OffEveryPanel (before after : List ℕ) (r : ℕ) : Type 0 where
  pub number : (r ≡ 3) ⊎ (r ≡ 4)
  pub same : after ≡ before

-- 9 comes with the length of the image
pub record BytesNeeded (words : List ℕ) (r : ℕ) : Type 0 where
  pub says : (set : List ℕ) → Holds words set → r ≡ length (image_of words set)

-- into the first bytes, where they are as many
pub record FrontSaved (words before after : List ℕ) (n r : ℕ) : Type 0 where
  pub saved : (set : List ℕ) → Holds words set → n ≡ length (image_of words set) → (r ≡ n) × (after ≡ image_of words set ++ drop n before)

-- the length is asked for first, and then suffices: on a sound store the whole image is in the output, the rest of it as it was
pub record SavedWhole (words before after : List ℕ) (r : ℕ) : Type 0 where
  pub saved : (set : List ℕ) → Holds words set → length (image_of words set) ≤ length before
      → (r ≡ length (image_of words set)) × (after ≡ image_of words set ++ drop (length (image_of words set)) before)

-- 02, P8, of any words: where a store holds a set, the pixel is marked exactly when it is an element of the block told
pub record ElementAsked (words : List ℕ) (x y : ℕ) (a : Answer) : Type 0 where
  pub exactly : (set : List ℕ) → Holds words set → HasPixelOn words x y
      → (a.first ≡ 1) ↔ IsElement (panel_of (sizes_of words)) (member set) (code_of x y) a.further.level a.further.code

-- 02, P5: the nearest of all, at the limit; or nothing is marked
pub record WholeSearch (words : List ℕ) (x y : ℕ) (a : Answer) : Type 0 where
  pub says : (set : List ℕ) → Holds words set → HasPixelOn words x y → NearestOfAll (code_of x y) set a ⊎ ((a.first ≡ 0) × (set ≡ []))
