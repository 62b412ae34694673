-- How a step of a change ends: after the splice the elements lie in the slot, and they are right, or a run of them is to be a block.
use Prim.Native.Nat.{ℕ, zero, suc, ◌≤◌, ◌<◌}
use Rattle.std.specs.Prelude.{Option, Some, None, Ok, Err}
use native.Mathlib.Omega.{arith}
use mathlib.Core.Path.{◌≡◌, refl, ap, subst, sym, ◌∙◌}
use mathlib.Core.Logic.{◌⊎◌, inl, inr}
use mathlib.Core.Bool.{Bool, true}
use mathlib.Core.List.{List, [], ◌∷◌}
use lib.ListN.{length, get_or, take, drop}
use lib.Seq.{get_or-take, get_or-set_same, length-take-le}
use Rattle.pktree.specs.Elements.{size, ◌⧺◌}
use Rattle.pktree.proofs.Arranged.{LocallyRight}
use Rattle.measures.specs.declared.sizes.Layout.{Layout}
use Rattle.measures.specs.Layout.{LayoutFits, store_end}
use Rattle.measures.specs.Slot.{slot_part, level_word, count_word, element_index}
use Rattle.elements.specs.Splice.{CanSplice}
use Rattle.freeslots.specs.FreeSlots.{Released}
use Rattle.store.specs.Placed.{Placed}
use Rattle.measures.proofs.Usable.{slot_long}
use Rattle.descent.specs.Way.{Frame}
use Rattle.runs.specs.declared.RunFound.{RunFound}
use Rattle.std.specs.Prelude.{Option, Some, None}
use Rattle.runs.specs.Run.{ElementsLaid, RunFormed, RunMeets, AscendingCodes}
use Rattle.runs.proofs.SlotCodes.{slot_ascends}
use Rattle.rewrite.specs.Rewrite.{CanHandUp, HandedUpAll}
use Rattle.step.specs.declared.Change.{Change}
use Rattle.ascent.proofs.Frames.{FramesRight, frames_level}
use Rattle.ascent.proofs.Pending.{Setting, width_in, Laid}
use Rattle.ascent.proofs.FormedAt.{FormedAt}
use Rattle.ascent.proofs.Completed.{Completed}
use Rattle.step.specs.Step.{most_handed_up, Kept, CanPut, PutMeets, InSetting, Stepped, SteppedRight, FewHandedUp, CanRegroup, RegroupMeets, UnderfullMeets, StepMeets}
use Rattle.ascent.proofs.RunLaw.{formed_by}
use Rattle.step.proofs.RegroupEnds.{kept_same, kept_but_slot, front_kept}
use Rattle.step.proofs.Laid.{can_splice, laid_by_splice, right_as_it_is, done_as_it_is}
use Rattle.step.proofs.Underfull.{up_with_all}

-- what a release, and one change after another, keep
kept_by_release : {layout : Layout} {slot held : ℕ} {before after : List ℕ} → slot < layout.slots → Released layout.width slot held before after → Kept layout before after
kept_by_release {layout} {slot} {held} {before} {after} below freed = record {
  long = freed.long;
  head = front_kept slot held before after freed.head;
  past = freed.past layout.slots below;
}

pub kept_then : {layout : Layout} {before mid after : List ℕ} → Kept layout before mid → Kept layout mid after → Kept layout before after
kept_then p q = record { long = q.long ∙ p.long; head = q.head ∙ p.head; past = q.past ∙ p.past }

-- the elements were spliced
module _ {layout : Layout} {slot place removed inserted count : ℕ} {before mid scratch : List ℕ} (can : CanPut layout before slot place removed inserted scratch)
    (r : PutMeets layout slot place removed inserted scratch before mid (Ok count)) where
  fits_then : LayoutFits layout mid
  fits_then = record { within = can.fits.within; lies = rw r.2.only.long can.fits.lies }

  -- the splice wrote their number
  count_then : count_word (slot_part layout.width mid slot) ≡ count
  count_then =
      let part : List ℕ = slot_part layout.width before slot in
      sym (get_or-take 8 (slot_part layout.width mid slot) 2 0 (omega arith)) ∙ ap (λ (l : List ℕ). get_or l 2 0) r.2.spliced.header
      ∙ get_or-set_same (take 8 part) 2 _ 0 (omega (arith, length-take-le 8 part (omega (arith, r.1.laid)))) ∙ sym r.0

  room_then : element_index count ≤ layout.width
  room_then = omega (arith, r.0, r.1.room, slot_long layout before slot can.fits can.slot_below)

  -- the part that the search is lent
  pub level_there : {part : List ℕ} → part ≡ slot_part layout.width mid slot → 0 < length part
  level_there lent = rw lent (omega (arith, slot_long layout mid slot fits_then can.slot_below, can.fits.within.width_from))

  pub can_search : {part : List ℕ} → part ≡ slot_part layout.width mid slot → ElementsLaid part count
  can_search lent =
      rw lent
      (record { laid = omega (arith, room_then, slot_long layout mid slot fits_then can.slot_below); few = omega (arith, room_then, can.fits.within.width_to) })

  -- so few have room in the scratch words
  pub can_hand_up : count < most_handed_up → CanHandUp layout mid slot 0 0 0 scratch
  can_hand_up few =
      record {
        cut = record { fits = fits_then; slot_below = can.slot_below; level_to = omega arith; laid = rw count_then room_then; within = omega arith };
        few = omega (arith, count_then);
        room = can.room;
      }

-- and a run that was found in it can be made a block
pub can_regroup : {change : Change} {slot place removed inserted count level x j first n : ℕ} {before mid scratch part : List ℕ}
    → CanPut change.layout before slot place removed inserted scratch → PutMeets change.layout slot place removed inserted scratch before mid (Ok count)
    → level ≤ 16 → 2 ≤ change.k → change.k ≤ 16 → RunFormed part count level change.k x j first n → CanRegroup change mid slot j first n scratch
can_regroup can put low k_from k_to run = record {
  fits = fits_then can put;
  slot_below = can.slot_below;
  level_to = omega (arith, run.low);
  laid = rw (count_then can put) (room_then can put);
  within = rw (count_then can put) run.within;
  size_from = omega (arith, run.many);
  k_to = k_to;
  room = can.room;
}

-- what was found, by other names of the same
found_in : {part part' : List ℕ} {count count' level level' k k' x x' : ℕ} (r : Option RunFound) → part ≡ part' → count ≡ count' → level ≡ level' → k ≡ k' → x ≡ x'
    → RunMeets part count level k x r → RunMeets part' count' level' k' x' r
found_in r p c l k x h = rw (p, c, l, k, x) at h

-- the elements are laid, in a setting of the change
module _ {change : Change} {root : Bool} {σ : Setting} {way : List Frame} {slot level code : ℕ} {words : List ℕ} {es : Placed} {free : List ℕ}
    (i : InSetting σ change root way) (h : Laid σ words way slot level code es free) where
  same_part : slot_part change.layout.width words slot ≡ slot_part (width_in σ) words slot
  same_part = ap (λ (l : Layout). slot_part l.width words slot) i.layout_is

  level_says : level_word (slot_part change.layout.width words slot) ≡ level
  level_says = ap level_word same_part ∙ h.says.level_is

  count_says : count_word (slot_part change.layout.width words slot) ≡ size es
  count_says = ap count_word same_part ∙ h.says.count_is

  level_up_to : level_word (slot_part change.layout.width words slot) ≤ 16
  level_up_to = omega (arith, level_says, frames_level σ.k σ.m way level code h.around.frames_right, σ.m_to)

  ascends : AscendingCodes (slot_part (width_in σ) words slot) (size es)
  ascends = slot_ascends (slot_part (width_in σ) words slot) level code es σ.k _ _ _ h.says h.around.disturbed.arranged

-- so the run is the block to be formed
run_formed : {σ : Setting} {words : List ℕ} {way : List Frame} {s : ℕ} (level : ℕ) {code : ℕ} {es : Placed} {free : List ℕ} {j first n : ℕ} → Laid σ words way s level code es free
    → AscendingCodes (slot_part (width_in σ) words s) (size es) → RunFormed (slot_part (width_in σ) words s) (size es) level σ.k σ.x j first n
    → FormedAt σ.k level code σ.x j first n es
run_formed zero h up r = absurd (omega (arith, h.around.level_from))
run_formed {σ} {words} {s = s} (suc l) {code} {es} {j = j} {first = first} {n = n} h up r =
    formed_by σ.k l code σ.x (slot_part (width_in σ) words s) es σ.k_from h.says h.around.disturbed j first n r.low r.within r.many (r.right up)

-- the block is the root, or has k elements
enough : {σ : Setting} {change : Change} {root : Bool} {way : List Frame} {level : ℕ} (code : ℕ) {n : ℕ} → InSetting σ change root way → FramesRight σ.k σ.m way level code
    → (root ≡ true) ⊎ (change.k ≤ n) → (level ≡ σ.m) ⊎ (σ.k ≤ n)
enough {σ} {level = level} code i f (inl e) = inl (subst (λ (w : List Frame). FramesRight σ.k σ.m w level code) (i.root_is.0 e) f).0
enough code i f (inr h) = inr (omega (arith, i.k_is))

-- below the root an underfull block hands all up
up_below_root : {σ : Setting} {words : List ℕ} (way : List Frame) {s level code : ℕ} {es : Placed} {free after scratch scratch' : List ℕ} {n : ℕ} → (way ≡ [] → ⊥)
    → LayoutFits σ.layout words → Laid σ words way s level code es free → LocallyRight σ.k level code es → size es < σ.k
    → HandedUpAll σ.layout s words after scratch scratch' n → SteppedRight σ after scratch' way s (Ok (Some n))
up_below_root [] ne fits h right few u = ne refl
up_below_root (f ∷ way) ne fits h right few u = up_with_all h fits right few u

-- on a register's words the splice is never refused
pub never_refused : {change : Change} {root : Bool} {slot place removed inserted : ℕ} {before after scratch : List ℕ} → CanPut change.layout before slot place removed inserted scratch
    → PutMeets change.layout slot place removed inserted scratch before after (Err (record {}))
    → StepMeets change root slot place removed inserted before after scratch scratch (Err (record {}))
never_refused {change} {root} {slot} {place} {removed} {inserted} {before} {after} {scratch} can r =
    record {
      kept = record { long = ap length r.0; head = ap (take 6) r.0; past = ap (drop (store_end change.layout)) r.0 };
      bounds = tt;
      scratch_long = refl;
      right = λ σ way level code a old new b free i p o n w h.
          r.1 (subst (λ (l : Layout). CanSplice (slot_part l.width before slot) scratch place removed inserted) (sym i.layout_is)
          (can_splice h p o n
          (subst (λ (l : Layout). LayoutFits l before) i.layout_is can.fits) can.room can.inserted_to));
    }

module _ {change : Change} {root : Bool} {slot place removed inserted count : ℕ} {before mid scratch : List ℕ}
    (can : CanPut change.layout before slot place removed inserted scratch)
    (put : PutMeets change.layout slot place removed inserted scratch before mid (Ok count)) where
  -- what follows from the elements laid, right where nothing came, is what the step comes to
  stepped : {after scratch' : List ℕ} {r : Stepped} → Kept change.layout mid after → FewHandedUp r → length scratch' ≡ length scratch
      → ((σ : Setting) (way : List Frame) (level code : ℕ) (es : Placed) (free : List ℕ) → InSetting σ change root way → Laid σ mid way slot level code es free
      → (inserted ≡ 0 → LocallyRight σ.k level code es) → SteppedRight σ after scratch' way slot r)
      → StepMeets change root slot place removed inserted before after scratch scratch' r
  stepped kept bounds long right = record {
    kept = kept_then (kept_but_slot change.layout slot before mid can.slot_below put.2.only) kept;
    bounds = bounds;
    scratch_long = long;
    right = λ σ way level code a old new b free i p o n w h.
        let done = subst (λ (l : Layout). PutMeets l slot place removed inserted scratch before mid (Ok count)) i.layout_is put in
        right σ way level code (a ⧺ (new ⧺ b)) free i
        (laid_by_splice h p o n w done.1 done.2) (λ none. h.right_if_none_inserted (n ∙ none));
  }

  -- where the elements laid are right, the change is at rest, or the underfull block is deinstantiated
  module _ (right-then : (σ : Setting) (way : List Frame) (level code : ℕ) (es : Placed) (free : List ℕ) → InSetting σ change root way → Laid σ mid way slot level code es free
      → (inserted ≡ 0 → LocallyRight σ.k level code es) → LocallyRight σ.k level code es) where
    at_rest_or_deinstantiated : {after scratch' : List ℕ} (r : Option ℕ) → change.k ≤ 16 → UnderfullMeets change root slot count mid after scratch scratch' r
        → StepMeets change root slot place removed inserted before after scratch scratch' (Ok r)
    at_rest_or_deinstantiated None k_to (e, same, scratch-same) = stepped (kept_same change.layout mid _ same) tt (ap length scratch-same)
        (λ σ way level code es free i h s. subst (Completed σ) (sym same) (done_as_it_is h (right-then σ way level code es free i h s)
        (enough code i h.around.frames_right
        (subst (λ (n : ℕ). (root ≡ true) ⊎ (change.k ≤ n)) (sym (count_then can put) ∙ count_says i h) e))))
    at_rest_or_deinstantiated {after} {scratch'} (Some n) k_to (e, few, u) =
        stepped (kept_by_release can.slot_below u.freed) (omega (arith, u.rest_is, count_then can put)) u.long
        (λ σ way level code es free i h s. up_below_root way (i.root_is.1 e) (subst (λ (l : Layout). LayoutFits l mid) i.layout_is (fits_then can put)) h (right-then σ way level code es free i h s)
        (omega (arith, count_then can put, count_says i h, i.k_is)) (subst (λ (l : Layout). HandedUpAll l slot mid after scratch scratch' n) i.layout_is u))

  -- where nothing came, the elements are right
  pub at_rest_or_deinstantiated_none_inserted : {after scratch' : List ℕ} {r : Option ℕ} → inserted ≡ 0 → change.k ≤ 16 → UnderfullMeets change root slot count mid after scratch scratch' r
      → StepMeets change root slot place removed inserted before after scratch scratch' (Ok r)
  at_rest_or_deinstantiated_none_inserted {r = r} none = at_rest_or_deinstantiated (λ σ way level code es free i h s. s none) r

  module _ {part : List ℕ} (lent : part ≡ slot_part change.layout.width mid slot) where
    -- nor does a slot say a level above 16
    pub never_too_high : 16 < get_or part 0 0 → StepMeets change root slot place removed inserted before mid scratch scratch (Err (record {}))
    never_too_high h = stepped (kept_same change.layout mid mid refl) tt refl (λ σ way level code es free i l s. omega (arith, ap level_word lent, level_up_to i l))

    -- what the search found, in each setting
    found : {σ : Setting} {way : List Frame} {level code : ℕ} {es : Placed} {free : List ℕ} (r : Option RunFound) → InSetting σ change root way → Laid σ mid way slot level code es free
        → RunMeets part count (get_or part 0 0) change.k change.code r
        → RunMeets (slot_part (width_in σ) mid slot) (size es) level σ.k σ.x r
    found r i h =
        found_in r (lent ∙ same_part i h) (sym (count_then can put) ∙ count_says i h) (ap level_word lent ∙ level_says i h) i.k_is i.x_is

    -- no run: they are right too
    pub at_rest_or_deinstantiated_no_run : {after scratch' : List ℕ} {r : Option ℕ} → RunMeets part count (get_or part 0 0) change.k change.code None → change.k ≤ 16
        → UnderfullMeets change root slot count mid after scratch scratch' r → StepMeets change root slot place removed inserted before after scratch scratch' (Ok r)
    at_rest_or_deinstantiated_no_run {r = r} none =
        at_rest_or_deinstantiated (λ σ way level code es free i h s. right_as_it_is h (found None i h none (ascends i h))) r

    -- a run: regrouping goes on with it
    pub formed_then : {after scratch' : List ℕ} {run : RunFound} {r : Stepped}
        → RunMeets part count (get_or part 0 0) change.k change.code (Some run)
        → RegroupMeets change root slot run.level run.first run.length mid after scratch scratch' r → StepMeets change root slot place removed inserted before after scratch scratch' r
    formed_then {run = run} met u =
        stepped u.kept u.bounds u.scratch_long
        (λ σ way level code es free i h s. u.right σ way level code es free i h
        (run_formed level h (ascends i h) (found (Some run) i h met)))
