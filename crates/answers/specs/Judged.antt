-- 01 "Who is refused, and how": 3, 4 and 8, each with its condition; 02, P3: no window is refused with 4.
use Rattle.std.specs.Prelude.{ℕ, ◌≡◌, ◌⊎◌, List, Result, Ok, Err}
use Rattle.morton.specs.Code.{code_of}
use Rattle.pktree.specs.Panel.{OnPanel}
use Rattle.pktree.specs.Window.{Ordered}
use Rattle.measures.specs.declared.sizes.Sizes.{Sizes}
use Rattle.measures.specs.Sizes.{panel_of, sizes_of, UsableStore}
use Rattle.promises.specs.Effect.{HasPixelOn}
use Rattle.promises.specs.Calls.{window_given}
use Rattle.answers.specs.declared.Refusal.{Refusal}
use Rattle.answers.specs.declared.Refusal.TheVariants.{NoRegister, OffPanel, WindowReversed}
use Rattle.answers.specs.declared.judging.PanelPixel.{PanelPixel}

abbrev pub StoreRefused : List ℕ → Refusal → Type 0
StoreRefused words refusal = (refusal ≡ NoRegister) × (UsableStore words → ⊥)

abbrev pub JudgedStore : List ℕ → Result Sizes Refusal → Type 0
JudgedStore words (Ok sizes) = (sizes ≡ sizes_of words) × UsableStore words
JudgedStore words (Err refusal) = StoreRefused words refusal

pub record PixelGiven (words : List ℕ) (x y : ℕ) (sizes : Sizes) (code : ℕ) : Type 0 where
  pub usable : UsableStore words
  pub sizes_are : sizes ≡ sizes_of words
  pub on_panel : HasPixelOn words x y
  pub code_is : code ≡ code_of x y
  pub code_on_panel : OnPanel (panel_of sizes) code

abbrev pub PixelRefused : List ℕ → ℕ → ℕ → Refusal → Type 0
PixelRefused words x y refusal = StoreRefused words refusal ⊎ ((refusal ≡ OffPanel) × UsableStore words × (HasPixelOn words x y → ⊥))

abbrev pub JudgedPixel : List ℕ → ℕ → ℕ → Result PanelPixel Refusal → Type 0
JudgedPixel words x y (Ok pixel) = PixelGiven words x y pixel.sizes pixel.code
JudgedPixel words x y (Err refusal) = PixelRefused words x y refusal

pub record WindowGiven (words : List ℕ) (x0 y0 x1 y1 : ℕ) (sizes : Sizes) : Type 0 where
  pub usable : UsableStore words
  pub sizes_are : sizes ≡ sizes_of words
  pub ordered : Ordered (window_given x0 y0 x1 y1)

abbrev pub WindowRefused : List ℕ → ℕ → ℕ → ℕ → ℕ → Refusal → Type 0
WindowRefused words x0 y0 x1 y1 refusal =
    StoreRefused words refusal ⊎ ((refusal ≡ WindowReversed) × UsableStore words × (Ordered (window_given x0 y0 x1 y1) → ⊥))

abbrev pub JudgedWindow : List ℕ → ℕ → ℕ → ℕ → ℕ → Result Sizes Refusal → Type 0
JudgedWindow words x0 y0 x1 y1 (Ok sizes) = WindowGiven words x0 y0 x1 y1 sizes
JudgedWindow words x0 y0 x1 y1 (Err refusal) = WindowRefused words x0 y0 x1 y1 refusal
