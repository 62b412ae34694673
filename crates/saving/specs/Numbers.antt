-- The numbers of pixels and blocks that save reads before it writes.
use Rattle.std.specs.Prelude.{◌≡◌, ℕ, ◌≤◌, List, length, Result, Ok, Err}
use Rattle.pktree.specs.PixelSet.{member}
use Rattle.pktree.specs.Tree.{tree, blocks}
use Rattle.store.specs.Opening.{RootCannotOpen}
use Rattle.measures.specs.Sizes.{panel_of, slot_count, sizes_of}
use Rattle.store.specs.Sound.{Holds}
use Rattle.saving.specs.declared.numbers.Numbers.{Numbers}
use Rattle.store.specs.declared.Damaged.{Damaged}

-- whatever the words are: never more pixels than N, nor more blocks than S
abbrev pub NumbersWithin : List ℕ → Result Numbers Damaged → Type 0
NumbersWithin words (Ok numbers) = (numbers.pixels ≤ (sizes_of words).most) × (numbers.blocks ≤ slot_count (sizes_of words).k (sizes_of words).most)
NumbersWithin words (Err _) = Unit {0}

-- on a sound store those of the set's tree; damaged where the root's slot does not say that it is the root
pub record NumbersAnswer (words : List ℕ) (r : Result Numbers Damaged) : Type 0 where
  pub bounds : NumbersWithin words r
  pub sound : (set : List ℕ) → Holds words set → r ≡ Ok (record { pixels = length set; blocks = length (blocks (tree (panel_of (sizes_of words)) (member set))) })
  pub closed : RootCannotOpen words → r ≡ Err (record {})
