-- `step::regroup` meets its contract: what its callees ensure is at rest, or pending one block up, by the laws of RegroupEnds.
use Prim.Native.Nat.{ℕ, ◌+◌, ◌≤◌}
use native.Mathlib.Omega.{arith}
use mathlib.Core.Path.{◌≡◌, refl, ap, ◌∙◌}
use mathlib.Core.Logic.{◌⊎◌, inl, inr}
use mathlib.Core.List.{List, []}
use Rattle.std.proofs.lemmas.Result.{err_from_is_err_and}
use Rattle.pktree.specs.Elements.{size}
use Rattle.pktree.proofs.Alignment.{block_code}
use Rattle.measures.specs.declared.sizes.Layout.{Layout}
use Rattle.measures.specs.Slot.{slot_part, count_word}
use Rattle.store.specs.Placed.{Placed}
use Rattle.descent.specs.Way.{Frame}
use Rattle.ascent.proofs.Pending.{Setting, Laid}
use Rattle.step.specs.Step.{InSetting}
use Rattle.step.proofs.PutLaws.{count_at}
use Rattle.step.proofs.RegroupEnds.{kept_same, kept_but_slot, front_kept, regrouped_up, regrouped_done, never_without}
use Rattle.step.proofs.regroup.Goals as goal
use Rattle.step.proofs.regroup.Goals.{After-wide, Joined-not-root, then-not-root+else-rest-change, else-not-root}

-- the number of elements that was read
count_is : (c : After-wide) → (let a = c.args in c.wide.result ≡ count_word (slot_part a.change.layout.width a.store.now a.slot))
count_is c = let p = c.requires in c.wide.ensures ∙ count_at p.fits p.slot_below c.offset-at.ensures

-- a block is to be formed in a slot of its own: the block around is the root, or has k elements left
enough_left : (c : Joined-not-root) {σ : Setting} {way : List Frame} {outer code : ℕ} {es : Placed} {free : List ℕ}
    → let a = c.args in
    InSetting σ a.change a.root way → Laid σ a.store.now way a.slot outer code es free → (way ≡ []) ⊎ (σ.k + a.run.length ≤ size es + 1)
enough_left c s l =
    let a = c.args in
    elim c.if-not-root.branch [
      | then-not-root+else-rest-change w ↦
          inr (omega (
            arith,
            w.if-rest-change.false,
            s.k_is,
            l.says.count_is,
            ap (λ (z : Layout). count_word (slot_part z.width a.store.now a.slot)) s.layout_is,
            count_is (goal.at.Joined-not-root c).After-wide,
            c.requires.within,
          ))
      | else-not-root w ↦ inl (s.root_is.0 w.if-not-root.false)
    ]

pub hand_up_block-requires : goal.hand_up_block-requires
hand_up_block-requires c =
    let p = c.requires in
    record {
      cut = record { fits = p.fits; slot_below = p.slot_below; level_to = omega (arith, p.level_to); laid = p.laid; within = p.within };
      few = omega (arith, c.if-rest-change.true, count_is (goal.at.hand_up_block-requires c).After-wide, p.k_to, p.within);
      room = p.room;
    }

pub returns-then-rest-change : goal.returns-then-rest-change
returns-then-rest-change c =
    let a = c.args in
    let p = c.requires in
    let d = c.block_around in
    let r = c.hand_up_block.ensures in
    record {
      kept = kept_but_slot a.change.layout a.slot a.store.now _ p.slot_below r.only;
      bounds = omega (arith, r.rest_is, c.if-rest-change.true, count_is (goal.at.returns-then-rest-change c).After-wide, p.k_to, p.within);
      scratch_long = r.long;
      right = λ σ way outer code es free s l g.
          regrouped_up s.layout_is (d.ensures ∙ ap (block_code a.run.level) s.x_is) l g (s.root_is.1 (c.if-not-root.true))
          (omega (arith, p.slot_below, p.fits.within.slots_to)) (omega (arith, r.rest_is, c.if-rest-change.true, count_is (goal.at.returns-then-rest-change c).After-wide, s.k_is, p.within)) r;
    }

pub returns-in_err-form_block : goal.returns-in_err-form_block
returns-in_err-form_block c =
    let a = c.args in
    let d = c.block_around in
    let r = c.in_err-form_block.ensures in
    let p = err_from_is_err_and c.from_residual.result c.from_residual.ensures.1 in
    rw p.1
    (record {
      kept = kept_same a.change.layout a.store.now _ r.0;
      bounds = tt;
      scratch_long = refl;
      right = λ σ way outer code es free s l g. never_without s.layout_is (d.ensures ∙ ap (block_code a.run.level) s.x_is) l g (enough_left (goal.at.returns-in_err-form_block c).Joined-not-root s l) r;
    })

pub returns : goal.returns
returns c =
    let a = c.args in
    let p = c.requires in
    let d = c.block_around in
    let r = c.in_ok-form_block.ensures in
    record {
      kept = record { long = r.long; head = front_kept _ _ a.store.now c.form_block.new.store r.head; past = r.past a.change.layout.slots p.slot_below r.fresh_below };
      bounds = tt;
      scratch_long = refl;
      right = λ σ way outer code es free s l g. regrouped_done s.layout_is (d.ensures ∙ ap (block_code a.run.level) s.x_is) l g (enough_left (goal.at.returns c).Joined-not-root s l) p.fits r;
    }

pub overflow_sub-rest : goal.overflow_sub-rest
overflow_sub-rest c = omega (arith, count_is (goal.at.overflow_sub-rest c).After-wide, c.requires.within)
