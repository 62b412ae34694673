-- The ways out of the check, each from what the code has in hand there.
use Prim.Native.Nat.{ℕ, ◌+◌, ◌<◌}
use native.Mathlib.Omega.{arith}
use mathlib.Core.Path.{◌≡◌}
use mathlib.Core.List.{List}
use lib.Dec.{eqb}
use Rattle.measures.specs.Words.{blocks_word}
use Rattle.measures.specs.declared.sizes.Layout.{Layout}
use Rattle.measures.specs.declared.sizes.Sizes.{Sizes}
use Rattle.measures.specs.Decides.{Decides}
use Rattle.measures.specs.Sizes.{sizes_of, UsableStore}
use Rattle.measures.specs.Layout.{layout_of, LaidOut}
use Rattle.inspection.specs.Chain.{ChainEnds, NoEnd, ChainMeets}
use Rattle.traversal.specs.declared.Seen.{Seen}
use Rattle.std.specs.Prelude.{Result, Ok}
use Rattle.store.specs.declared.Damaged.{Damaged}
use Rattle.store.specs.Opening.{damaged}
use Rattle.traversal.specs.Walk.{unsound, NoneClaimed, BlockWalked, WalkMeets}
use Rattle.soundness.proofs.RootWalks.{limits_of, root_claim, none_seen, root_limits, of_words, slots_of_words}
use Rattle.soundness.proofs.CheckAnswers.{root_stands, chain_stands, numbers_agree, decided_by_counts}
use Rattle.store.specs.Sound.{IsSound}

none_counted : {blocks pixels : ℕ} → blocks ≡ 0 → pixels ≡ 0 → ◌≡◌ {A = Seen} (record { blocks = blocks; pixels = pixels }) none_seen
none_counted b p = cc

-- the words as they are lent to the walk and the chain, and the numbers that the walk begins with
module _ {words lent : List ℕ} {sizes : Sizes} {layout : Layout} {none : Seen} (usable : UsableStore words) (said : sizes ≡ sizes_of words) (laid : LaidOut sizes layout)
    (same : lent ≡ words) (zero : (none.blocks ≡ 0) × (none.pixels ≡ 0)) where
  begins : none ≡ none_seen
  begins = none_counted zero.0 zero.1

  pub root_unsound : {r : Result Seen Damaged} → r ≡ unsound → WalkMeets (limits_of layout sizes) lent (root_claim sizes) none r → IsSound words → ⊥
  root_unsound is walk =
      root_stands words (of_words words (λ (l : Layout) (s : Sizes). NoneClaimed (limits_of l s) words (root_claim s) none_seen) said laid (rw (same, begins) at (rw is at walk)))

  pub chain_broken : {o : Result ℕ Damaged} → o ≡ damaged → ChainMeets layout lent o → IsSound words → ⊥
  chain_broken is chain = chain_stands words (of_words words (λ (l : Layout) (s : Sizes). NoEnd l words) said laid (rw same at (rw is at chain)))

  module _ {r : Result Seen Damaged} {seen : Seen} {o : Result ℕ Damaged} {free blocks : ℕ} (whole : r ≡ Ok seen) (walk : WalkMeets (limits_of layout sizes) lent (root_claim sizes) none r)
      (ends : o ≡ Ok free) (chain : ChainMeets layout lent o) (wide : blocks ≡ seen.blocks) where
    walked : BlockWalked (limits_of layout sizes) words (root_claim sizes) none_seen seen
    walked = rw (same, begins) at (rw whole at walk)

    followed : ChainEnds layout words free
    followed = rw same at (rw ends at chain)

    pub sum_fits : blocks + free < 18446744073709551616
    sum_fits = omega (arith, walked.within.blocks_to, followed.few, laid.within.slots_to)

    -- in the sizes that the words say
    walked_of_words : BlockWalked (root_limits words) words (root_claim (sizes_of words)) none_seen seen
    walked_of_words = of_words words (λ (l : Layout) (s : Sizes). BlockWalked (limits_of l s) words (root_claim s) none_seen seen) said laid walked

    followed_of_words : ChainEnds (layout_of (sizes_of words)) words free
    followed_of_words = of_words words (λ (l : Layout) (s : Sizes). ChainEnds l words free) said laid followed

    pub slots_lost : (blocks + free ≡ layout.slots → ⊥) → IsSound words → ⊥
    slots_lost differ h = differ (omega (arith, (numbers_agree words usable walked_of_words followed_of_words h).0, slots_of_words words said laid))

    pub blocks_decide : blocks + free ≡ layout.slots → Decides (eqb (blocks_word words) seen.blocks) (IsSound words)
    blocks_decide all = decided_by_counts words usable walked_of_words followed_of_words (omega (arith, slots_of_words words said laid))
