-- The root of a store as the walk is given it, and the root of a sound store as the walk finds it.
use Prim.Native.Nat.{ℕ, suc, ◌-◌, ◌≤◌, ◌<◌}
use native.Mathlib.Omega.{arith}
use mathlib.Core.Path.{◌≡◌, ap, subst₂}
use mathlib.Core.Bool.{true}
use mathlib.Core.List.{List, append-nil}
use lib.ListN.{length}
use Rattle.pktree.specs.Elements.{ForestOf, block_at, empty}
use Rattle.pktree.specs.Tree.{pixels}
use Rattle.pktree.proofs.Arranged.{LocallyRight}
use Rattle.pktree.proofs.LocalTest.{heads, slot_test, inside_test, local_test, local_test_exact, both}
use Rattle.measures.specs.declared.sizes.Layout.{Layout}
use Rattle.measures.specs.declared.sizes.Sizes.{Sizes}
use Rattle.measures.specs.Sizes.{sizes_of, slot_count, UsableStore}
use Rattle.measures.specs.Layout.{layout_of, LaidOut}
use Rattle.measures.proofs.Usable.{sizes_valid, layout_said}
use Rattle.store.specs.Placed.{Placed}
use Rattle.store.specs.Sound.{Sound}
use Rattle.store.proofs.SoundView.{sound_view}
use Rattle.store.proofs.BlockView.{root_view}
use Rattle.traversal.specs.declared.Claim.{Claim}
use Rattle.traversal.specs.declared.Seen.{Seen}
use Rattle.traversal.specs.Walk.{Limits, CanWalk, WithinLimits, seen_with, claimed, BlockAt}

-- as the code makes them
abbrev pub limits_of : Layout → Sizes → Limits
limits_of layout sizes = record { layout = layout; k = sizes.k; most = sizes.most }

abbrev pub root_claim : Sizes → Claim
root_claim sizes = record { block = record { slot = 0; level = sizes.order; code = 0 }; least = 0 }

abbrev pub none_seen : Seen
none_seen = record { blocks = 0; pixels = 0 }

abbrev pub root_limits : List ℕ → Limits
root_limits words = limits_of (layout_of (sizes_of words)) (sizes_of words)

pub can_start : {words : List ℕ} {sizes : Sizes} {layout : Layout} → UsableStore words → sizes ≡ sizes_of words → LaidOut sizes layout
    → CanWalk (limits_of layout sizes) (root_claim sizes) none_seen
can_start usable said laid =
    let valid = sizes_valid usable said in
    record {
      slot_below = laid.within.slots_from;
      level_from = valid.panel.order_from;
      level_to = valid.panel.order_to;
      within = record { blocks_to = omega arith; pixels_to = omega arith };
    }

-- what is learnt of the code's sizes and layout is learnt of the words' own
pub of_words : {sizes : Sizes} {layout : Layout} (words : List ℕ) (P : Layout → Sizes → Type 0) → sizes ≡ sizes_of words → LaidOut sizes layout → P layout sizes
    → P (layout_of (sizes_of words)) (sizes_of words)
of_words words P said laid = subst₂ P (layout_said words said laid) said

pub slots_of_words : {sizes : Sizes} {layout : Layout} (words : List ℕ) → sizes ≡ sizes_of words → LaidOut sizes layout
    → layout.slots ≡ slot_count (sizes_of words).k (sizes_of words).most
slots_of_words words said laid = ap (λ (l : Layout). l.slots) (layout_said words said laid)

-- the test of a block of a level above 0
pub tested_exactly : {A : Type 0} (k level code : ℕ) (es : ForestOf A) → 1 ≤ level → 0 < k
    → ((local_test k (level - 1) code es ≡ true) → LocallyRight k level code es) × (LocallyRight k level code es → (local_test k (level - 1) code es ≡ true))
tested_exactly k level code es low pos =
    let e : suc (level - 1) ≡ level = omega arith in
    let t = local_test_exact k (level - 1) code es pos in
    (λ h. rw e at (t.0 h), λ h. t.1 (rw e h))

-- the root of a sound store is as claimed, and there is room for it
pub record SoundRoot (words : List ℕ) (placed : Placed) : Type 0 where
  pub es : Placed
  pub is : placed ≡ block_at 0 (sizes_of words).order 0 es empty
  pub at : BlockAt (root_limits words) words (root_claim (sizes_of words)) es
  pub room : WithinLimits (root_limits words) (seen_with none_seen (claimed (root_claim (sizes_of words)) es))

pub sound_root : (words : List ℕ) (placed : Placed) → Sound words placed → SoundRoot words placed
sound_root words placed sound =
    let (es, v) = sound_view words placed sound in
    let root = root_view words placed es sound v in
    let valid = sound.usable.valid.panel in
    let k : ℕ = (sizes_of words).k in
    let t = (tested_exactly k (sizes_of words).order 0 es valid.order_from (omega (arith, valid.k_from))).1 v.right in
    let b = both (slot_test k ((sizes_of words).order - 1) 0 (heads es)) (inside_test k es) t in
    record {
      es = es;
      is = v.is;
      at = record {
        says = v.says;
        many = omega arith;
        passes = b.0;
        elements = record { stands = v.stands; right = b.1; inside = v.inside; numbers = root.numbers };
        number = root.number;
      };
      room = record {
        blocks_to = omega (arith, v.few);
        pixels_to = omega (arith, ap length v.same_pixels, ap length (append-nil (pixels es)), sound.fits);
      };
    }
