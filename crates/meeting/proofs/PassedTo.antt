-- The first i elements of a block have been looked at, in whatever sound store its words stand.
use Prim.Native.Nat.{ℕ, ◌+◌, ◌≤◌, ◌<◌}
use mathlib.Core.Path.{sym, subst}
use mathlib.Core.List.{List}
use Rattle.pktree.specs.Elements.{Forest, empty, ◌⧺◌, unlabelled}
use Rattle.pktree.proofs.Unlabelled.{unlabelled_join}
use Rattle.elements.specs.Element.{element_at}
use Rattle.store.specs.Placed.{Placed}
use Rattle.store.proofs.PassedElements.{OneElement, Passed, none_passed, one_more_passed, all_passed}
use Rattle.meeting.specs.Shown.{Shown}

-- this holds of them, with the width, the slots and the words of the store
pub record PassedTo (part : List ℕ) (count level i : ℕ) (Done : ℕ → ℕ → List ℕ → Forest → Type 0) : Type 0 where
  pub passed : (width slots : ℕ) (words : List ℕ) (es : Placed) → Shown width slots words part count level es → Passed (Done width slots words) es i

module _ {part : List ℕ} {count level : ℕ} where
  pub passed_none : (Done : ℕ → ℕ → List ℕ → Forest → Type 0) → ((width slots : ℕ) (words : List ℕ) → Done width slots words empty) → PassedTo part count level 0 Done
  passed_none Done start = record { passed = λ width slots words es shown. none_passed (Done width slots words) es (start width slots words) }

  module _ {i : ℕ} {Done : ℕ → ℕ → List ℕ → Forest → Type 0} (to : PassedTo part count level i Done) where
    pub passed_one : (Then : ℕ → ℕ → List ℕ → Forest → Type 0) → i < count
        → ((k width slots : ℕ) (words : List ℕ) (code : ℕ) (f : Forest) (g : Placed) → OneElement k width slots words level code (element_at part i) g
        → Done width slots words f → Then width slots words (f ⧺ unlabelled g))
        → PassedTo part count level (i + 1) Then
    passed_one Then below turn =
        record {
          passed = λ width slots words es shown.
              one_more_passed shown.opened shown.view (to.passed width slots words es shown) below
              (λ f g rest e one done.
              subst (Then width slots words) (sym (unlabelled_join f g))
              (turn shown.k width slots words shown.code (unlabelled f) g
              (subst (λ (p : List ℕ). OneElement shown.k width slots words level shown.code (element_at p i) g) (sym shown.part_is) one) done));
        }

    pub passed_all : count ≤ i → (width slots : ℕ) (words : List ℕ) (es : Placed) → Shown width slots words part count level es → Done width slots words (unlabelled es)
    passed_all end width slots words es shown = all_passed shown.opened shown.view (to.passed width slots words es shown) end
