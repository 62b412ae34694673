-- 01, demand 3: what is claimed of every two lists of calls after make.
use Rattle.std.specs.Prelude.{ℕ, ◌+◌, ◌-◌, ◌*◌, ◌/◌, ◌≤◌, ◌≡◌, ◌↔◌, length, take, drop, Result, Ok}
use Rattle.std.proofs.Math.Option.{some}
use mathlib.Core.List.{List, Memᴰ, ◌++◌}
use Rattle.pktree.specs.PixelSet.{member}
use Rattle.pktree.specs.Elements.{Forest, size, gather, unlabelled}
use Rattle.pktree.specs.Tree.{Instantiated, tree, block_of, blocks}
use Rattle.pktree.specs.Image.{image}
use Rattle.measures.specs.declared.sizes.Sizes.{Sizes}
use Rattle.measures.specs.Sizes.{panel_of}
use Rattle.store.specs.Placed.{Placed}
use Rattle.store.specs.Reading.{tree_of}
use Rattle.store.specs.Sound.{Sound}
use Rattle.answers.specs.declared.Refusal.{Refusal}
use Rattle.answers.specs.Answer.{save_answer}
use Rattle.promises.specs.Survivors.{Call, survivors}
use Rattle.history.specs.Run.{SaveRun, History}

-- 01: the full image, the first bytes of the output, as many as the length that save returns
abbrev pub full_image : Result ℕ Refusal → List ℕ → List ℕ
full_image r written = take (save_answer r).first written

-- one register: it holds exactly the blocks of its survivors, and its full image is exactly theirs
pub record HoldsSurvivors (sizes : Sizes) (calls : List Call) (words : List ℕ) : Type 0 where
  -- the store is sound; the tree that the written definition reads is the tree of the survivors
  pub placed : Placed
  pub sound : Sound words placed
  pub reads : tree_of words ≡ some placed
  pub tree_is : unlabelled placed ≡ tree (panel_of sizes) (member (survivors sizes calls))
  -- a block is held exactly if it is instantiated, with the elements gathered from its quarters
  pub blocks_are : (level code : ℕ) (elements : Forest) → Memᴰ (block_of level code elements) (blocks (unlabelled placed))
      ↔ (Instantiated (panel_of sizes) (member (survivors sizes calls)) level code
      × (elements ≡ gather (member (survivors sizes calls)) sizes.k level code))
  -- at most 4(k-1) elements, and k or more but in the root
  pub block_sizes : (level code : ℕ) (elements : Forest) → Memᴰ (block_of level code elements) (blocks (unlabelled placed))
      → (size elements ≤ 4 * (sizes.k - 1)) × ((level ≡ sizes.order → ⊥) → sizes.k ≤ size elements)
  -- n > 0 survivors have at most 1 + floor((n-1)/(k-1)) blocks
  pub number_of_blocks : 1 ≤ length (survivors sizes calls) → length (blocks (unlabelled placed)) ≤ 1 + (length (survivors sizes calls) - 1) / (sizes.k - 1)
  -- into an output that is long enough there is a save, of exactly the image of the survivors; the rest of the output is as it was
  pub can_save : (output : List ℕ) → length (image (panel_of sizes) (survivors sizes calls)) ≤ length output
      → SaveRun words output (Ok (length (image (panel_of sizes) (survivors sizes calls))))
      (image (panel_of sizes) (survivors sizes calls) ++ drop (length (image (panel_of sizes) (survivors sizes calls))) output)
  -- every save into such an output is accepted; one that is accepted writes exactly the image of the survivors
  pub save_accepted : (output : List ℕ) (r : Result ℕ Refusal) (written : List ℕ) → SaveRun words output r written
      → length (image (panel_of sizes) (survivors sizes calls)) ≤ length output → (save_answer r).refusal ≡ 0
  pub saved : (output : List ℕ) (r : Result ℕ Refusal) (written : List ℕ) → SaveRun words output r written → (save_answer r).refusal ≡ 0
      → full_image r written ≡ image (panel_of sizes) (survivors sizes calls)

-- two registers, and their full images: the same bytes exactly when the same pixels survive
pub record TwoLists (sizes sizes' : Sizes) (calls calls' : List Call) (words words' : List ℕ) : Type 0 where
  pub first : HoldsSurvivors sizes calls words
  pub second : HoldsSurvivors sizes' calls' words'
  pub same_bytes : (output : List ℕ) (r : Result ℕ Refusal) (written : List ℕ) → SaveRun words output r written → (save_answer r).refusal ≡ 0
      → (output' : List ℕ) (r' : Result ℕ Refusal) (written' : List ℕ) → SaveRun words' output' r' written' → (save_answer r').refusal ≡ 0
      → (full_image r written ≡ full_image r' written') ↔ (survivors sizes calls ≡ survivors sizes' calls')

-- the claim itself: the two registers agree in m and k and may differ in N
abbrev pub EveryTwoLists : Type 0
EveryTwoLists = (sizes sizes' : Sizes) (calls calls' : List Call) (words words' : List ℕ) → sizes.order ≡ sizes'.order → sizes.k ≡ sizes'.k
    → History sizes calls words → History sizes' calls' words' → TwoLists sizes sizes' calls calls' words words'
