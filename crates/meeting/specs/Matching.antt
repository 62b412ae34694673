-- The entries that stand for the blocks that the search has met.
use Rattle.std.specs.Prelude.{ℕ, ◌+◌, ◌*◌, ◌/◌, ◌<◌, ◌≡◌, List, [], ◌∷◌}
use Rattle.pktree.specs.Elements.{unlabelled}
use Rattle.pktree.specs.Tree.{BlockOf}
use Rattle.elements.specs.Element.{tag_slots}
use Rattle.store.specs.Placed.{Placed}
use Rattle.store.proofs.BlockView.{BlockView}
use Rattle.searching.specs.Search.{distance_to}
use Rattle.frontier.specs.declared.Entry.{Entry}

-- 2 ^ 30: a fourth of the codes
abbrev pub key_codes : ℕ
key_codes = 1073741824

-- by distance, then by code: a block's code is a multiple of 4, and has at most 32 bits
abbrev pub key_of : ℕ → ℕ → ℕ
key_of distance code = distance * key_codes + code / 4

abbrev pub tag_of : ℕ → ℕ → ℕ
tag_of slot level = slot + level * tag_slots

module _ (width slots : ℕ) (words : List ℕ) (place : ℕ) where
  -- an entry for a block that stands in the store
  pub record EntryOf (b : BlockOf) (e : Entry) : Type 0 where
    pub k : ℕ
    pub slot : ℕ
    pub placed : Placed
    pub view : BlockView k width slots words slot b.level b.code placed
    pub small : slot < tag_slots
    pub elements_are : b.elements ≡ unlabelled placed
    pub key_is : e.key ≡ key_of (distance_to place b) b.code
    pub tag_is : e.tag ≡ tag_of slot b.level

  abbrev pub Matches : List BlockOf → List Entry → Type 0
  Matches [] [] = Unit {0}
  Matches [] (e ∷ q) = ⊥
  Matches (b ∷ l) [] = ⊥
  Matches (b ∷ l) (e ∷ q) = EntryOf b e × Matches l q
