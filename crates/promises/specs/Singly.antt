-- 02, P2: pixels that are marked singly, in any order.
use Rattle.std.specs.Prelude.{ℕ, ◌≡◌, List, [], ◌∷◌}
use Rattle.morton.specs.Code.{code_of}
use Rattle.pktree.specs.Lists.{Every}
use Rattle.pktree.specs.Panel.{Panel, HasPixel}
use Rattle.pktree.specs.PixelSet.{member}
use Rattle.promises.specs.Survivors.{Call, mark}

pub record Pixel : Type 0 where
  pub x : ℕ
  pub y : ℕ

abbrev pub marks_of : List Pixel → List Call
marks_of [] = []
marks_of (p ∷ pixels) = mark p.x p.y ∷ marks_of pixels

abbrev pub codes_of : List Pixel → List ℕ
codes_of [] = []
codes_of (p ∷ pixels) = code_of p.x p.y ∷ codes_of pixels

-- these are the pixels of the codes and no others, each at least once
pub record PixelsOf (panel : Panel) (codes : List ℕ) (pixels : List Pixel) : Type 0 where
  pub on_panel : Every (λ p. HasPixel panel p.x p.y) pixels
  pub same : (code : ℕ) → member (codes_of pixels) code ≡ member codes code
