-- A set of pixels: the strictly ascending list of their codes.
use Rattle.std.specs.Prelude.{ℕ, suc, ◌≤◌, Bool, false, ◌||◌, cond, List, [], ◌∷◌, ltb, eqb}
use Rattle.pktree.specs.Lists.{Every}
use Rattle.pktree.specs.Panel.{Panel, OnPanel}

abbrev pub member : List ℕ → ℕ → Bool
member [] code = false
member (c ∷ set) code = eqb c code || member set code

-- strictly ascending, and not below `from`
abbrev pub Ascending : ℕ → List ℕ → Type 0
Ascending from [] = Unit {0}
Ascending from (c ∷ set) = (from ≤ c) × Ascending (suc c) set

pub record PixelSet (panel : Panel) (set : List ℕ) : Type 0 where
  pub ascending : Ascending 0 set
  pub on_panel : Every (OnPanel panel) set

-- the set with one pixel more, and with one less
abbrev pub added : ℕ → List ℕ → List ℕ
added code [] = code ∷ []
added code (c ∷ set) = cond (ltb code c) (code ∷ c ∷ set) (c ∷ added code set)

abbrev pub removed : ℕ → List ℕ → List ℕ
removed code [] = []
removed code (c ∷ set) = cond (eqb c code) set (c ∷ removed code set)
