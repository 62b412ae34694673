-- The run of elements that a block to be formed takes: those in the block of the least level around a code that holds k of them.
use Rattle.std.specs.Prelude.{ℕ, zero, suc, ◌+◌, ◌-◌, ◌/◌, ◌^◌, ◌≤◌, ◌<◌, ◌≡◌, List, [], ◌∷◌, eqb, length, Option, Some, None}
use Rattle.pktree.specs.Lists.{select}
use Rattle.morton.specs.CommonLevel.{CommonLevel}
use Rattle.elements.specs.Splice.{code_at}
use Rattle.runs.specs.declared.RunFound.{RunFound}
use Rattle.measures.specs.Layout.{most_elements, level_above_root}
use Rattle.measures.specs.Slot.{element_index}

-- so many elements lie in the slot's words
pub record ElementsLaid (part : List ℕ) (count : ℕ) : Type 0 where
  pub laid : element_index count ≤ length part
  pub few : count ≤ most_elements

pub record LevelAt (part : List ℕ) (count i code r : ℕ) : Type 0 where
  pub there : i < count → CommonLevel (code_at part i) code r
  pub missing : count ≤ i → r ≡ level_above_root

pub record LevelBefore (part : List ℕ) (i code r : ℕ) : Type 0 where
  pub there : 0 < i → CommonLevel (code_at part (i - 1)) code r
  pub missing : i ≡ 0 → r ≡ level_above_root

-- c lies in the block of this level around the code
abbrev pub Near : ℕ → ℕ → ℕ → Type 0
Near level code c = c / 4 ^ level ≡ code / 4 ^ level

-- all from r to `from` lie in the block, the one before r does not
pub record ReachedLeft (part : List ℕ) (from code level r : ℕ) : Type 0 where
  pub within : r ≤ from
  pub near : (i : ℕ) → r ≤ i → i < from → Near level code (code_at part i)
  pub ends : (i : ℕ) → suc i ≡ r → Near level code (code_at part i) → ⊥

pub record ReachedRight (part : List ℕ) (count from code level r : ℕ) : Type 0 where
  pub low : from ≤ r
  pub within : r ≤ count
  pub near : (i : ℕ) → from ≤ i → i < r → Near level code (code_at part i)
  pub ends : r < count → Near level code (code_at part r) → ⊥

-- the codes of n elements from element i on
abbrev pub codes_from : List ℕ → ℕ → ℕ → List ℕ
codes_from part i zero = []
codes_from part i (suc n) = code_at part i ∷ codes_from part (suc i) n

-- how many of these codes lie in the block of this level around the code
abbrev pub count_near : ℕ → ℕ → List ℕ → ℕ
count_near level code codes = length (select (λ c. eqb (c / 4 ^ level) (code / 4 ^ level)) codes)

-- the elements ascend, as those of every sound slot do
abbrev pub AscendingCodes : List ℕ → ℕ → Type 0
AscendingCodes part count = (i j : ℕ) → i < j → j < count → code_at part i < code_at part j

-- the elements of the run are just those in the block, and no lower block holds k
pub record IsRun (part : List ℕ) (count k code j first size : ℕ) : Type 0 where
  pub inside : (i : ℕ) → first ≤ i → i < first + size → Near j code (code_at part i)
  pub before : (i : ℕ) → i < first → Near j code (code_at part i) → ⊥
  pub after : (i : ℕ) → first + size ≤ i → i < count → Near j code (code_at part i) → ⊥
  pub least : (h : ℕ) → h < j → count_near h code (codes_from part 0 count) < k

pub record RunFormed (part : List ℕ) (count level k code j first size : ℕ) : Type 0 where
  pub low : j < level
  pub within : first + size ≤ count
  pub many : k ≤ size
  pub right : AscendingCodes part count → IsRun part count k code j first size

abbrev pub RunMeets : List ℕ → ℕ → ℕ → ℕ → ℕ → Option RunFound → Type 0
RunMeets part count level k code (Some run) = RunFormed part count level k code run.level run.first run.length
RunMeets part count level k code None = AscendingCodes part count → (h : ℕ) → h < level → count_near h code (codes_from part 0 count) < k
