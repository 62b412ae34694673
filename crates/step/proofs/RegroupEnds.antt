-- The two ends of `regroup`: a block is formed and the change is at rest, or the rest is handed up.
use Prim.Native.Nat.{ℕ, ◌+◌, ◌≤◌, ◌<◌}
use native.Mathlib.Omega.{arith}
use Rattle.std.specs.Prelude.{Some, Ok, Err}
use mathlib.Core.Path.{◌≡◌, refl, ap, subst, sym, ◌∙◌}
use mathlib.Core.Logic.{◌⊎◌, inl, inr}
use mathlib.Core.List.{List, [], ◌∷◌}
use lib.ListN.{take, set}
use lib.Seq.{take-set-le, take-take}
use Rattle.elements.specs.Element.{tag_slots}
use Rattle.pktree.specs.Elements.{size}
use Rattle.pktree.proofs.Alignment.{block_code}
use Rattle.pktree.proofs.Absurd.{zero_is_not_one}
use Rattle.measures.specs.Words.{first_free_word}
use Rattle.measures.specs.declared.sizes.Layout.{Layout}
use Rattle.measures.specs.Layout.{LayoutFits}
use Rattle.measures.specs.Slot.{OnlySlot}
use Rattle.store.specs.Placed.{Placed}
use Rattle.measures.proofs.SlotWrites.{take_less}
use Rattle.descent.specs.Way.{Frame}
use Rattle.rewrite.specs.Rewrite.{HandedUpBlock, BlockFormed, FormMeets}
use Rattle.ascent.proofs.Frames.{FramesRight}
use Rattle.ascent.proofs.FormedAt.{FormedAt}
use Rattle.ascent.proofs.Pending.{Setting, Laid}
use Rattle.ascent.proofs.Completed.{Completed}
use Rattle.step.specs.Step.{Kept, SteppedRight}
use Rattle.step.proofs.Formed.{formed_as, formed_size}
use Rattle.step.proofs.Underfull.{up_with_block}
use Rattle.step.proofs.FormedAtRest.{never_without_slot, at_rest_with_block}

pub kept_same : (layout : Layout) (before after : List ℕ) → after ≡ before → Kept layout before after
kept_same layout before after e = rw e (record { long = refl; head = refl; past = refl })

-- one slot changed: words 0 to 5 and those past the formula stay
pub kept_but_slot : (layout : Layout) (slot : ℕ) (before after : List ℕ) → slot < layout.slots → OnlySlot layout.width slot before after → Kept layout before after
kept_but_slot layout slot before after below only =
    record { long = only.long; head = take_less 6 8 before after (omega arith) only.head; past = only.past layout.slots below }

-- words 6 and 7 are behind them
pub front_kept : (v w : ℕ) (before after : List ℕ) → take 8 after ≡ set (set (take 8 before) 7 v) 6 w → take 6 after ≡ take 6 before
front_kept v w before after e =
    sym (take-take 6 8 after (omega arith)) ∙ ap (take 6) e ∙ take-set-le 6 (set (take 8 before) 7 v) 6 w (omega arith) ∙ take-set-le 6 (take 8 before) 7 v (omega arith)
    ∙ take-take 6 8 before (omega arith)

module _ {σ : Setting} {layout : Layout} {before : List ℕ} {way : List Frame} {slot outer code : ℕ} {es : Placed} {free : List ℕ} {j first n d : ℕ}
    (layout_is : layout ≡ σ.layout) (d_is : d ≡ block_code j σ.x) (h : Laid σ before way slot outer code es free) (g : FormedAt σ.k outer code σ.x j first n es) where
  pub regrouped_up : {after scratch scratch' : List ℕ} {r : ℕ} → (way ≡ [] → ⊥) → slot < tag_slots → r < σ.k → HandedUpBlock layout slot j d first n before after scratch scratch' r
      → SteppedRight σ after scratch' way slot (Ok (Some r))
  regrouped_up {after} {scratch} {scratch'} {r} some small few u = go way refl h
    where
      u' : HandedUpBlock σ.layout slot j (block_code j σ.x) first n before after scratch scratch' r
      u' = subst (λ (c : ℕ). HandedUpBlock σ.layout slot j c first n before after scratch scratch' r) d_is
          (subst (λ (l : Layout). HandedUpBlock l slot j d first n before after scratch scratch' r) layout_is u)

      go : (w : List Frame) → way ≡ w → Laid σ before w slot outer code es free → SteppedRight σ after scratch' w slot (Ok (Some r))
      go [] e l = absurd (some e)
      go (f ∷ w) e l = up_with_block l g small (omega (arith, u'.rest_is, l.says.count_is)) u'

  -- the block around has its elements, as the root or because k are left
  module _ (enough : (way ≡ []) ⊎ (σ.k + n ≤ size es + 1)) where
    enough_left : (t : ℕ) → (outer ≡ σ.m) ⊎ (σ.k ≤ size (formed_as g t))
    enough_left t = go enough
      where
        root : (w : List Frame) → w ≡ [] → FramesRight σ.k σ.m w outer code → outer ≡ σ.m
        root [] e r = r.0
        root (f ∷ w) e r = zero_is_not_one (cc)

        go : (way ≡ []) ⊎ (σ.k + n ≤ size es + 1) → (outer ≡ σ.m) ⊎ (σ.k ≤ size (formed_as g t))
        go (inl e) = inl (root way e h.around.frames_right)
        go (inr e) = inr (omega (arith, formed_size g t))

    pub regrouped_done : {after : List ℕ} → LayoutFits layout before → BlockFormed layout slot j d first n (first_free_word before) before after → Completed σ after
    regrouped_done {after} fits u =
        at_rest_with_block h g (subst (λ (l : Layout). LayoutFits l before) layout_is fits) (enough_left (first_free_word before))
        (subst (λ (c : ℕ). BlockFormed σ.layout slot j c first n (first_free_word before) before after) d_is
        (subst (λ (l : Layout). BlockFormed l slot j d first n (first_free_word before) before after) layout_is u))

    pub never_without : {after : List ℕ} → FormMeets layout slot j d first n before after (Err (record {})) → ⊥
    never_without {after} u = never_without_slot h g (enough_left 0) (subst (λ (l : Layout). FormMeets l slot j d first n before after (Err (record {}))) layout_is u)
