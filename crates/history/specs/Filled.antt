-- 02, P2: a register that was filled, whatever was called on it before, has the same image as one on which the same pixels were marked singly, in any order.
use Rattle.std.specs.Prelude.{ℕ, ◌≤◌, ◌≡◌, List, [], ◌∷◌, ◌++◌, length, Result}
use Rattle.pktree.specs.PixelSet.{PixelSet}
use Rattle.measures.specs.declared.sizes.Sizes.{Sizes}
use Rattle.measures.specs.Sizes.{panel_of}
use Rattle.answers.specs.declared.Refusal.{Refusal}
use Rattle.answers.specs.Answer.{save_answer}
use Rattle.promises.specs.Survivors.{Call, fill}
use Rattle.promises.specs.Singly.{Pixel, marks_of, PixelsOf}
use Rattle.history.specs.Run.{SaveRun, History}
use Rattle.history.specs.Claim.{full_image}

abbrev pub FilledAsMarked : Type 0
FilledAsMarked = (sizes : Sizes) (codes : List ℕ) (pixels : List Pixel) (earlier : List Call) (filled marked : List ℕ)
    → PixelSet (panel_of sizes) codes → length codes ≤ sizes.most → PixelsOf (panel_of sizes) codes pixels
    → History sizes (earlier ++ (fill codes ∷ [])) filled → History sizes (marks_of pixels) marked
    → (output : List ℕ) (r : Result ℕ Refusal) (written : List ℕ) → SaveRun filled output r written → (save_answer r).refusal ≡ 0
    → (output' : List ℕ) (r' : Result ℕ Refusal) (written' : List ℕ) → SaveRun marked output' r' written' → (save_answer r').refusal ≡ 0
    → full_image r written ≡ full_image r' written'
