-- A register of the pixels of a strictly ascending list of codes: what is due before, between and after.
use Rattle.std.specs.Prelude.{ℕ, ◌≤◌, ◌≡◌, List, [], length, take, drop}
use Rattle.pktree.specs.PixelSet.{PixelSet}
use Rattle.measures.specs.declared.sizes.Sizes.{Sizes}
use Rattle.measures.specs.Sizes.{panel_of, sizes_of, store_words, UsableStore}
use Rattle.store.specs.Sound.{Holds}
use Rattle.packing.specs.declared.Build.{Build}
use Rattle.packing.specs.declared.plan.Plan.{Plan}
use Rattle.packing.specs.Build.{Ground, Beside, Building}

-- whatever the words from 4 on are
pub record BuildDue (words : List ℕ) (sizes : Sizes) (codes : List ℕ) : Type 0 where
  pub usable : UsableStore words
  pub sizes_are : sizes ≡ sizes_of words
  pub on_panel : PixelSet (panel_of sizes) codes
  pub room : length codes ≤ sizes.most

-- the store holds this set; words 0 to 3 and those past the formula are as they were
pub record Replaced (before after set : List ℕ) : Type 0 where
  pub holds : Holds after set
  pub sizes_same : sizes_of after ≡ sizes_of before
  pub head : take 4 after ≡ take 4 before
  pub past : drop (store_words (sizes_of before)) after ≡ drop (store_words (sizes_of before)) before
  pub long : length after ≡ length before

-- nothing is built yet
pub record BuildAt (plan : Plan) (words stack codes : List ℕ) : Type 0 where
  pub usable : UsableStore words
  pub sizes_are : plan.sizes ≡ sizes_of words
  pub ground : Ground plan words stack
  pub on_panel : PixelSet (panel_of plan.sizes) codes
  pub room : length codes ≤ plan.sizes.most

-- the first codes are appended; words 0 to 7 and those past the slots are as they were
pub record Appended (plan : Plan) (words₀ words stack : List ℕ) (build : Build) (done later : List ℕ) : Type 0 where
  pub beside : Beside plan.layout words₀ words
  pub building : Building plan words stack build done later

-- no code is to come
pub record FinishAt (plan : Plan) (words stack : List ℕ) (build : Build) (number : ℕ) (codes : List ℕ) : Type 0 where
  pub usable : UsableStore words
  pub sizes_are : plan.sizes ≡ sizes_of words
  pub building : Building plan words stack build codes []
  pub number_is : number ≡ length codes

pub record FinishDue (plan : Plan) (words stack : List ℕ) (build : Build) (number : ℕ) : Type 0 where
  pub codes : List ℕ
  pub due : FinishAt plan words stack build number codes

pub record Finished (plan : Plan) (build : Build) (number : ℕ) (words words' stack : List ℕ) : Type 0 where
  pub right : (codes : List ℕ) → FinishAt plan words stack build number codes → Replaced words words' codes
