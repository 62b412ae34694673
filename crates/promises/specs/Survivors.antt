-- 01: the survivors of a list of calls after make. The machine is fed the numbers given to make and the calls with their arguments, but no
-- answer and no word of the store.
use Rattle.std.specs.Prelude.{ℕ, Bool, ◌&&◌, not, cond, List, [], ◌∷◌, ltb, length}
use Rattle.morton.specs.Code.{code_of}
use Rattle.pktree.specs.Panel.{is_pixel}
use Rattle.pktree.specs.PixelSet.{member, added, removed}
use Rattle.measures.specs.declared.sizes.Sizes.{Sizes}
use Rattle.measures.specs.Sizes.{panel_of}
use Rattle.image.specs.Parts.{pixels_of}
use Rattle.promises.specs.SetTest.{is_set_of}
use Rattle.promises.specs.ImageTest.{is_image_of}

-- a call with its arguments, image bytes, codes or output
pub data Call : Type 0 where
  mark : ℕ → ℕ → Call
  clear : ℕ → ℕ → Call
  ask : ℕ → ℕ → Call
  nearest : ℕ → ℕ → ℕ → Call
  count : ℕ → ℕ → ℕ → ℕ → Call
  list : ℕ → ℕ → ℕ → ℕ → List ℕ → Call
  save : List ℕ → Call
  load : List ℕ → Call
  fill : List ℕ → Call
  check : Call

-- 01: mark adds a pixel that is on the panel, not yet in the set, and when the set has fewer than N
abbrev pub is_added : Sizes → List ℕ → ℕ → ℕ → Bool
is_added sizes set x y = is_pixel (panel_of sizes) x y && (not (member set (code_of x y)) && ltb (length set) sizes.most)

-- 01: clear removes a pixel in the set
abbrev pub is_removed : Sizes → List ℕ → ℕ → ℕ → Bool
is_removed sizes set x y = is_pixel (panel_of sizes) x y && member set (code_of x y)

-- 01: load replaces the set by the image's when its bytes are the image, with this m and k, of some set of at most N pixels on the panel; the
-- one set that they can be the image of is that of their entries of level 0
abbrev pub is_replaced : Sizes → List ℕ → Bool
is_replaced sizes bytes = is_image_of (panel_of sizes) sizes.most bytes (pixels_of bytes)

-- 02, P2: fill replaces the set by the slice when it ascends strictly, is all on the panel and has at most N codes
abbrev pub is_filled : Sizes → List ℕ → Bool
is_filled sizes codes = is_set_of (panel_of sizes) sizes.most codes

-- what a call makes of the set; all else leaves it
abbrev pub next : Sizes → List ℕ → Call → List ℕ
next sizes set (mark x y) = cond (is_added sizes set x y) (added (code_of x y) set) set
next sizes set (clear x y) = cond (is_removed sizes set x y) (removed (code_of x y) set) set
next sizes set (ask x y) = set
next sizes set (nearest x y budget) = set
next sizes set (count x0 y0 x1 y1) = set
next sizes set (list x0 y0 x1 y1 output) = set
next sizes set (save output) = set
next sizes set (load bytes) = cond (is_replaced sizes bytes) (pixels_of bytes) set
next sizes set (fill codes) = cond (is_filled sizes codes) codes set
next sizes set check = set

abbrev pub surviving : Sizes → List ℕ → List Call → List ℕ
surviving sizes set [] = set
surviving sizes set (call ∷ calls) = surviving sizes (next sizes set call) calls

-- it starts empty
abbrev pub survivors : Sizes → List Call → List ℕ
survivors sizes calls = surviving sizes [] calls
