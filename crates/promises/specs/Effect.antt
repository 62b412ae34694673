-- 01 "Who is refused, and how": checks run in ascending number; every refusal but 13 changes nothing.
use Rattle.std.specs.Prelude.{ℕ, ◌≡◌, List}
use Rattle.promises.specs.Answer.{Answer, refused, accepted}
use Rattle.pktree.specs.Panel.{HasPixel}
use Rattle.pktree.specs.Window.{Window, Ordered, part_on}
use Rattle.measures.specs.Sizes.{UsableStore, panel_of, sizes_of}

-- what a call answers, and what it was lent for writing, before and after: the store, or the output of list and save
pub record Effect : Type 0 where
  pub answer : Answer
  pub before : List ℕ
  pub after : List ℕ

abbrev pub effect : Answer → List ℕ → List ℕ → Effect
effect answer before after = record { answer = answer; before = before; after = after }

abbrev pub Unchanged : Effect → Type 0
Unchanged e = e.after ≡ e.before

-- the call gives this answer and changes nothing
pub record Returns (given : Answer) (e : Effect) : Type 0 where
  pub is : e.answer ≡ given
  pub same : Unchanged e

infixr 1 ◌else◌then◌
-- a condition is checked: where it fails, the call returns this answer; where it holds, the rest applies
pub data ◌else◌then◌ (P : Type 0) (answer : Answer) (rest : Effect → Type 0) (e : Effect) : Type 0 where
  passed : P → rest e → (P else answer then rest) e
  stopped : (P → ⊥) → Returns answer e → (P else answer then rest) e

-- the pixel is on the store's panel
abbrev pub HasPixelOn : List ℕ → ℕ → ℕ → Type 0
HasPixelOn words x y = HasPixel (panel_of (sizes_of words)) x y

-- the part of the window on the store's panel
abbrev pub part_in : List ℕ → Window → Window
part_in words window = part_on (panel_of (sizes_of words)) window

-- the checks that ask, nearest, mark and clear share
abbrev pub OfPixel : List ℕ → ℕ → ℕ → (Effect → Type 0) → Effect → Type 0
OfPixel words x y rest = UsableStore words else refused 3 then HasPixelOn words x y else refused 4 then rest

-- the checks that count and list share
abbrev pub OfWindow : List ℕ → Window → (Effect → Type 0) → Effect → Type 0
OfWindow words window rest = UsableStore words else refused 3 then Ordered window else refused 8 then rest

-- 02, P3: where the window is wholly off the panel, nothing is found and no block opened, whatever the slots say; else the rest is of its part
abbrev pub OfPart : List ℕ → Window → (Effect → Type 0) → Effect → Type 0
OfPart words window rest = Ordered (part_in words window) else accepted 0 0 then rest
