-- 02, P5: the search. Blocks are opened from the root down, of those met always the one whose nearest position is nearest, at a tie the
-- lowest code, until the search is complete or the budget spent.
use Rattle.std.specs.Prelude.{ℕ, zero, suc, Bool, true, false, ◌&&◌, ◌||◌, cond, List, [], ◌∷◌, ◌++◌, ltb, eqb}
use Rattle.std.proofs.Math.Option.{Option, none, some}
use Rattle.pktree.specs.Elements.{Forest, empty, pixel, block_at}
use Rattle.pktree.specs.Tree.{BlockOf, block_of}
use Rattle.searching.specs.Distance.{squared_distance, block_distance}

-- the elements of a block that are pixels, and those that are blocks
abbrev pub pixel_elements : Forest → List ℕ
pixel_elements empty = []
pixel_elements (pixel c f) = c ∷ pixel_elements f
pixel_elements (block_at u i c es f) = pixel_elements f

abbrev pub block_elements : Forest → List BlockOf
block_elements empty = []
block_elements (pixel c f) = block_elements f
block_elements (block_at u i c es f) = block_of i c es ∷ block_elements f

-- the pixels among the elements of some blocks
abbrev pub pixels_among : List BlockOf → List ℕ
pixels_among [] = []
pixels_among (b ∷ l) = pixel_elements b.elements ++ pixels_among l

-- the first comes before the second: it is nearer, or as near and of the lower code
abbrev pub precedes : ℕ → ℕ → ℕ → ℕ → Bool
precedes distance code distance' code' = ltb distance distance' || (eqb distance distance' && ltb code code')

abbrev pub pixel_precedes : ℕ → ℕ → ℕ → Bool
pixel_precedes place a b = precedes (squared_distance place a) a (squared_distance place b) b

abbrev pub distance_to : ℕ → BlockOf → ℕ
distance_to place b = block_distance place b.level b.code

abbrev pub block_precedes : ℕ → BlockOf → BlockOf → Bool
block_precedes place a b = precedes (distance_to place a) a.code (distance_to place b) b.code

-- the nearest pixel so far, if any, after one more; and after some more
abbrev pub nearer : ℕ → Option ℕ → ℕ → Option ℕ
nearer place none c = some c
nearer place (some p) c = some (cond (pixel_precedes place c p) c p)

abbrev pub nearest_of : ℕ → Option ℕ → List ℕ → Option ℕ
nearest_of place found [] = found
nearest_of place found (c ∷ l) = nearest_of place (nearer place found c) l

-- of b and l the block that is opened first, and the others
abbrev pub next : ℕ → BlockOf → List BlockOf → BlockOf
next place b [] = b
next place b (c ∷ l) = next place (cond (block_precedes place c b) c b) l

abbrev pub others : ℕ → BlockOf → List BlockOf → List BlockOf
others place b [] = []
others place b (c ∷ l) = cond (block_precedes place c b) b c ∷ others place (cond (block_precedes place c b) c b) l

-- the blocks met and not opened, and the blocks opened, the first first
pub record Search : Type 0 where
  pub met : List BlockOf
  pub opened : List BlockOf

abbrev pub search : List BlockOf → List BlockOf → Search
search met opened = record { met = met; opened = opened }

-- one block opened: its elements that are blocks are met
abbrev pub open_of : ℕ → List BlockOf → List BlockOf → Search
open_of place [] opened = search [] opened
open_of place (b ∷ l) opened =
    search (block_elements (next place b l).elements ++ others place b l) (opened ++ (next place b l ∷ []))

abbrev pub open_next : ℕ → Search → Search
open_next place s = open_of place s.met s.opened

-- the nearest pixel among the elements of the opened blocks, if any
abbrev pub found : ℕ → Search → Option ℕ
found place s = nearest_of place none (pixels_among s.opened)

-- a block is farther than a pixel found
abbrev pub is_farther : ℕ → Option ℕ → BlockOf → Bool
is_farther place none b = false
is_farther place (some p) b = ltb (squared_distance place p) (distance_to place b)

abbrev pub all_farther : ℕ → Option ℕ → List BlockOf → Bool
all_farther place p [] = true
all_farther place p (b ∷ l) = is_farther place p b && all_farther place p l

-- no met block is left unopened, or all of these are farther than a pixel found
abbrev pub is_complete : ℕ → Search → Bool
is_complete place s = all_farther place (found place s) s.met

-- until the search is complete or the budget spent
unfoldable pub continued : ℕ → ℕ → Search → Search
continued place zero s = s
continued place (suc budget) s = let later = continued place budget (open_next place s) in cond (is_complete place s) s later

-- a search over a tree: its root is met first
abbrev pub searched : Forest → ℕ → ℕ → Search
searched tree place budget = continued place budget (search (block_elements tree) [])
