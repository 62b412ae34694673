-- Elements that grow at their end, one ascending code after the other: which blocks are complete, and which are still open.
use Rattle.std.specs.Prelude.{ℕ, zero, suc, ◌+◌, ◌-◌, ◌*◌, ◌/◌, ◌^◌, ◌≤◌, ◌<◌, ◌≡◌}
use Rattle.pktree.specs.Elements.{ForestOf, empty, pixel, block_at}
use Rattle.pktree.proofs.Counting.{count_in}
use Rattle.pktree.proofs.Arranged.{Arranged}

-- no element has a code above x
abbrev pub UpTo : {A : Type 0} → ℕ → ForestOf A → Type 0
UpTo x empty = Unit {0}
UpTo x (pixel c f) = (c ≤ x) × UpTo x f
UpTo x (block_at v i c es f) = (c ≤ x) × UpTo x f

-- the code of element i
abbrev pub code_of_element : {A : Type 0} → ForestOf A → ℕ → ℕ
code_of_element empty i = 0
code_of_element (pixel c f) zero = c
code_of_element (pixel c f) (suc i) = code_of_element f i
code_of_element (block_at v j c es f) zero = c
code_of_element (block_at v j c es f) (suc i) = code_of_element f i

-- no block but those around x holds k of the elements
abbrev pub OnlyAround : {A : Type 0} → ℕ → ℕ → ℕ → ForestOf A → Type 0
OnlyAround k m x f = (j q : ℕ) → j < m → (q ≡ x / 4 ^ j → ⊥) → count_in j q f < k

-- elements below `to` that end at x: every block that does not hold x is complete
pub record Open {A : Type 0} (k m x to : ℕ) (f : ForestOf A) : Type 0 where
  pub arranged : Arranged k m 0 to f
  pub reach : UpTo x f
  pub others : OnlyAround k m x f

-- so many elements of a block around the next code lie outside its quarter around that code, 45: three quarters are complete, with fewer
-- than k elements each, and 01's largest k is 16
abbrev pub open_in_block : ℕ
open_in_block = 3 * (16 - 1)

-- and so many are open in all, 720: 01's largest panel has 16 levels above the pixels
abbrev pub most_open : ℕ
most_open = 16 * open_in_block

-- the stack has two words for each of them, and for the code that comes: 1442
abbrev pub stack_words : ℕ
stack_words = 2 * (most_open + 1)
