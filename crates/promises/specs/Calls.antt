-- 01 "Calls" and 02: what each of the eleven calls promises. A line `P else a then rest` is a check: where P fails the call returns a and changes nothing.
use Rattle.std.specs.Prelude.{ℕ, min, ◌≤◌, ◌<◌, ◌≡◌, ◌⊎◌, false, true, List, [], length}
use Rattle.morton.specs.Code.{code_of}
use Rattle.pktree.specs.Lists.{Every}
use Rattle.pktree.specs.Panel.{OnPanel}
use Rattle.pktree.specs.PixelSet.{member, Ascending, added, removed}
use Rattle.pktree.specs.Tree.{tree}
use Rattle.pktree.specs.SmallestBlock.{Smallest}
use Rattle.pktree.specs.Window.{opened_by_pixel, Window, found, opened_by_window, crossed_by_window}
use Rattle.pktree.specs.Image.{image}
use Rattle.searching.specs.NearestPromises.{nearest_on}
use Rattle.measures.specs.declared.sizes.Sizes.{Sizes}
use Rattle.measures.specs.Sizes.{ValidSizes, store_words, sizes_of, UsableStore, panel_of, slot_count}
use Rattle.image.specs.Judged.{WellFormed, FitsRegister, ImageOfSome}
use Rattle.image.specs.Held.{HasImage, panel_in, most_in, most_bytes}
use Rattle.promises.specs.Answer.{Answer, refused, accepted, located, searched}
use Rattle.promises.specs.Effect.{effect, ◌else◌then◌, Effect, Returns, Unchanged, OfPixel, part_in, OfWindow, OfPart}
use Rattle.promises.specs.Walk.{Walks, Accepts, Locates, Searches}
use Rattle.promises.specs.Change.{Becomes, Done, Disabled}
use Rattle.promises.specs.Output.{SameLength, WrittenOrShort, WritesOrShort}
use Rattle.store.specs.Sound.{IsSound}

-- make (store, m, k, N): an empty, sound register
abbrev pub asked : ℕ → ℕ → ℕ → Sizes
asked m k most = record { order = m; k = k; most = most }

abbrev pub MakeMeets : List ℕ → List ℕ → ℕ → ℕ → ℕ → Answer → Type 0
MakeMeets before after m k most given =
    (ValidSizes (asked m k most) else refused 1 then
    store_words (asked m k most) ≤ length before else refused 2 then
    Becomes (asked m k most) [])
    (effect given before after)

-- mark (store, x, y): done, 5, 6 or 13; on a sound store 5 where the pixel is marked, else 6 where N pixels are held, else the pixel is added
abbrev pub Marks : List ℕ → ℕ → Effect → Type 0
Marks words code =
    Walks words (λ e. Done (sizes_of words) e ⊎ Returns (refused 5) e ⊎ Returns (refused 6) e) (Disabled (sizes_of words))
    (λ set. member set code ≡ false else refused 5 then length set < (sizes_of words).most else refused 6 then Becomes (sizes_of words) (added code set))

abbrev pub MarkMeets : List ℕ → List ℕ → ℕ → ℕ → Answer → Type 0
MarkMeets before after x y given = OfPixel before x y (Marks before (code_of x y)) (effect given before after)

-- clear (store, x, y): done, 7 or 13; on a sound store 7 where the pixel is not marked, else it is removed
abbrev pub Clears : List ℕ → ℕ → Effect → Type 0
Clears words code =
    Walks words (λ e. Done (sizes_of words) e ⊎ Returns (refused 7) e) (Disabled (sizes_of words))
    (λ set. member set code ≡ true else refused 7 then Becomes (sizes_of words) (removed code set))

abbrev pub ClearMeets : List ℕ → List ℕ → ℕ → ℕ → Answer → Type 0
ClearMeets before after x y given = OfPixel before x y (Clears before (code_of x y)) (effect given before after)

-- load (store, image bytes): a register of the same sizes that holds the image's set, of at most N pixels, also where the store was damaged
pub record Loaded (bytes : List ℕ) (e : Effect) : Type 0 where
  pub set : List ℕ
  pub has_image : HasImage (panel_in e.before) (most_in e.before) bytes set
  pub loaded : Becomes (sizes_of e.before) set e

abbrev pub Loads : List ℕ → List ℕ → Effect → Type 0
Loads words bytes =
    WellFormed bytes else refused 10 then
    FitsRegister (panel_in words) (most_in words) bytes else refused 11 then
    ImageOfSome (panel_in words) bytes else refused 12 then
    Loaded bytes

abbrev pub LoadMeets : List ℕ → List ℕ → List ℕ → Answer → Type 0
LoadMeets before after bytes given = (UsableStore before else refused 3 then Loads before bytes) (effect given before after)

-- 02, P2: fill (store, codes): a register of the same sizes that holds these codes, strictly ascending and at most N; like load it relies on words 0 to 3 only
abbrev pub Fills : List ℕ → List ℕ → Effect → Type 0
Fills words codes =
    Every (OnPanel (panel_of (sizes_of words))) codes else refused 4 then
    length codes ≤ (sizes_of words).most else refused 6 then
    Ascending 0 codes else refused 14 then
    Becomes (sizes_of words) codes

abbrev pub FillMeets : List ℕ → List ℕ → List ℕ → Answer → Type 0
FillMeets before after codes given = (UsableStore before else refused 3 then Fills before codes) (effect given before after)

-- ask, nearest, count and check are lent the store for reading only, so no word of it changes

-- ask (store, x, y): never more blocks opened than the order m, nor a level above it; on a sound store marked or not, the number of instantiated
-- blocks that contain the pixel, and 02, P8: the level and code of the smallest of them
pub record Answered (words : List ℕ) (code : ℕ) (set : List ℕ) (e : Effect) : Type 0 where
  pub level : ℕ
  pub block : ℕ
  pub smallest : Smallest (panel_of (sizes_of words)) (member set) code level block
  pub returns : Returns (located (member set code) (opened_by_pixel code (tree (panel_of (sizes_of words)) (member set))) level block) e

abbrev pub Asks : List ℕ → ℕ → Effect → Type 0
Asks words code = Walks words (Locates (sizes_of words).order) Unchanged (Answered words code)

abbrev pub AskMeets : List ℕ → ℕ → ℕ → Answer → Type 0
AskMeets words x y given = OfPixel words x y (Asks words (code_of x y)) (effect given words words)

-- 01's S
abbrev pub slots_in : List ℕ → ℕ
slots_in words = slot_count (sizes_of words).k (sizes_of words).most

-- 02, P5: nearest (store, x, y, budget): never more blocks opened than the budget, nor than S; on a sound store the six values of the search
abbrev pub FindsNearest : List ℕ → ℕ → ℕ → Effect → Type 0
FindsNearest words code budget =
    1 ≤ budget else refused 15 then
    Walks words (Searches (min budget (slots_in words))) Unchanged
    (λ set. Returns (searched (nearest_on (panel_of (sizes_of words)) set code budget)))

abbrev pub NearestMeets : List ℕ → ℕ → ℕ → ℕ → Answer → Type 0
NearestMeets words x y budget given = OfPixel words x y (FindsNearest words (code_of x y) budget) (effect given words words)

abbrev pub window_given : ℕ → ℕ → ℕ → ℕ → Window
window_given x0 y0 x1 y1 = record { x0 = x0; y0 = y0; x1 = x1; y1 = y1 }

-- on a sound store: the marked pixels in the window, and 02, P6: the instantiated blocks that share a pixel with it without lying wholly inside
abbrev pub found_and_crossed : List ℕ → Window → List ℕ → Answer
found_and_crossed words window set = accepted (length (found window set)) (crossed_by_window window (tree (panel_of (sizes_of words)) (member set)))

-- count (store, x0, y0, x1, y1): never more than N pixels found, nor more than S blocks opened; 02, P3: of the part of the window on the panel
abbrev pub CountsIn : List ℕ → Window → Effect → Type 0
CountsIn words part = Walks words (Accepts (sizes_of words).most (slots_in words)) Unchanged (λ set. Returns (found_and_crossed words part set))

abbrev pub Counts : List ℕ → Window → Effect → Type 0
Counts words window = OfPart words window (CountsIn words (part_in words window))

abbrev pub CountMeets : List ℕ → ℕ → ℕ → ℕ → ℕ → Answer → Type 0
CountMeets words x0 y0 x1 y1 given = OfWindow words (window_given x0 y0 x1 y1) (Counts words (window_given x0 y0 x1 y1)) (effect given words words)

-- of a list: the marked pixels in the window, and all instantiated blocks that share a pixel with it
abbrev pub found_and_opened : List ℕ → Window → List ℕ → Answer
found_and_opened words window set = accepted (length (found window set)) (opened_by_window window (tree (panel_of (sizes_of words)) (member set)))

-- list: as count, with each found code written once to the first words of the output; 02, P1: in ascending order, as a set is, so that every word is fixed
abbrev pub ListsIn : List ℕ → Window → Effect → Type 0
ListsIn words part =
    Walks words (WrittenOrShort (sizes_of words).most (slots_in words)) SameLength (λ set. WritesOrShort (found_and_opened words part set) (found part set))

abbrev pub Lists : List ℕ → Window → Effect → Type 0
Lists words window = OfPart words window (ListsIn words (part_in words window))

abbrev pub ListMeets : List ℕ → ℕ → ℕ → ℕ → ℕ → List ℕ → List ℕ → Answer → Type 0
ListMeets words x0 y0 x1 y1 before after given = OfWindow words (window_given x0 y0 x1 y1) (Lists words (window_given x0 y0 x1 y1)) (effect given before after)

-- save (store, output bytes): never a longer image than N pixels in S blocks have; on a sound store the set's image, byte for byte, and its length
abbrev pub image_of : List ℕ → List ℕ → List ℕ
image_of words set = image (panel_of (sizes_of words)) set

abbrev pub Saves : List ℕ → Effect → Type 0
Saves words = Walks words (WrittenOrShort (most_bytes words) 0) SameLength (λ set. WritesOrShort (accepted (length (image_of words set)) 0) (image_of words set))

abbrev pub SaveMeets : List ℕ → List ℕ → List ℕ → Answer → Type 0
SaveMeets words before after given = (UsableStore words else refused 3 then Saves words) (effect given before after)

-- check (store): yes exactly when sound, else no
abbrev pub CheckMeets : List ℕ → Answer → Type 0
CheckMeets words given = (UsableStore words else refused 3 then IsSound words else accepted 0 0 then Returns (accepted 1 0)) (effect given words words)
