-- Mark and clear are a change of one pixel, which the number of pixels held allows.
use Prim.Native.Nat.{ℕ, ◌+◌, ◌<◌}
use native.Mathlib.Omega.{arith}
use mathlib.Core.Path.{◌≡◌, refl, ap, sym, ◌∙◌}
use mathlib.Core.Logic.{◌⊎◌, inl, inr}
use mathlib.Core.Bool.{Bool, true}
use mathlib.Core.List.{List, [], ◌∷◌}
use lib.Dec.{ltb}
use lib.ListN.{length, get_or, set, length-set}
use lib.Seq.{drop-set-lt, get_or-set_same}
use borrow.Author.Tests.{ltb-true, ltb-false}
use Rattle.pktree.specs.PixelSet.{member}
use Rattle.pktree.proofs.Absurd.{zero_is_not_one}
use Rattle.measures.specs.Words.{head_words}
use Rattle.measures.specs.Slot.{slot_part, number_word, number_index}
use Rattle.measures.specs.declared.sizes.Sizes.{Sizes}
use Rattle.measures.specs.Sizes.{UsableStore, slot_count, slot_width, sizes_of, store_words}
use Rattle.measures.proofs.Bounds.{slot_ends}
use Rattle.measures.proofs.SlotWrites.{slot_word}
use Rattle.store.specs.Sound.{Holds}
use Rattle.store.proofs.Held.{held_number}
use Rattle.promises.specs.Answer.{Answer, accepted, refused}
use Rattle.promises.specs.Effect.{Effect, effect, passed, stopped}
use Rattle.promises.specs.Walk.{Walks}
use Rattle.promises.specs.Change.{Within, Done, Disabled}
use Rattle.promises.specs.Calls.{Marks, Clears}
use Rattle.promises.proofs.SpoiledRoot.{spoiled_shut}
use Rattle.std.specs.Prelude.{Ok, Err}
use Rattle.update.specs.declared.marks.Unchanged.{Unchanged}
use Rattle.update.specs.declared.marks.Unchanged.TheVariants.{Already, Disallowed, Damaged}
use Rattle.update.specs.Changed.{Changing, ChangeAnswer, ChangeMeets, disabled}

-- the root's number, where the code reads it: the root's slot is the first
abbrev pub pixels_index : ℕ
pixels_index = head_words + number_index

abbrev pub pixels_word : List ℕ → ℕ
pixels_word words = get_or words pixels_index 0

module _ {words : List ℕ} (usable : UsableStore words) where
  pub pixels_read : number_word (slot_part (slot_width (sizes_of words).k) words 0) ≡ pixels_word words
  pixels_read = slot_word (slot_width (sizes_of words).k) 0 words pixels_index number_index (omega arith) (omega arith)

  pub pixels_there : pixels_index < length words
  pixels_there =
      let k : ℕ = (sizes_of words).k in
      let slots : ℕ = slot_count k (sizes_of words).most in
      omega (arith, usable.enough, slot_ends 0 slots (slot_width k) (omega arith))

-- the number of pixels held is that of the set
count_is : {before set : List ℕ} → Holds before set → pixels_word before ≡ length set
count_is h = sym (pixels_read h.sound.usable) ∙ held_number h

-- no pixel is in a set of none
no_member : (set : List ℕ) (code : ℕ) → length set ≡ 0 → member set code ≡ true → ⊥
no_member [] code none e = zero_is_not_one (cc)
no_member (c ∷ set) code none e = omega arith

-- how a change ends: its words past the formula are as they were
module _ {before after : List ℕ} {Case : List ℕ → Type 0} {ending : Changing} (a : ChangeAnswer Case before after ending) where
  done : Done (sizes_of before) (effect (accepted 0 0) before after)
  done = record { done = refl; within = record { past = a.past; long = a.long } }

  module _ {Answers : Effect → Type 0} {Right : List ℕ → Effect → Type 0} where
    -- no damage was met, so the store is not spoiled
    answered : UsableStore before → (given : Answer) → (ending ≡ Err Damaged → ⊥) → Answers (effect given before after)
        → ((set : List ℕ) → Holds before set → Right set (effect given before after)) → Walks before Answers (Disabled (sizes_of before)) Right (effect given before after)
    answered usable given other ends right =
        record { ends = inl ends; spoiled = λ s. absurd (other (a.closed (spoiled_shut before usable s))); sound = right }

-- damage was met: word 0 is zero, and the store was not sound
damage_met : {before after : List ℕ} {Answers : Effect → Type 0} {Right : List ℕ → Effect → Type 0} → Within (sizes_of before) (effect (refused 13) before after) → get_or after 0 0 ≡ 0
    → ((set : List ℕ) → Holds before set → ⊥) → Walks before Answers (Disabled (sizes_of before)) Right (effect (refused 13) before after)
damage_met left gone never =
    record { ends = inr (refl, record { mark_gone = gone; left = left }); spoiled = λ s. refl; sound = λ set holds. absurd (never set holds) }

pub damaged : {before after : List ℕ} {Case : List ℕ → Type 0} {Answers : Effect → Type 0} {Right : List ℕ → Effect → Type 0} → ChangeAnswer Case before after (Err Damaged)
    → ((set : List ℕ) → Case set → ⊥) → Walks before Answers (Disabled (sizes_of before)) Right (effect (refused 13) before after)
damaged a never = damage_met (record { past = a.past; long = a.long }) a.leaves (λ set holds. never set (a.sound set holds))

-- whether the change would be allowed is not looked at where the pixel is already so
module _ {before after : List ℕ} {code : ℕ} (usable : UsableStore before) where
  pub already_marked : ChangeMeets before after code true 0 (Err Already) → Marks before code (effect (refused 5) before after)
  already_marked a =
      answered a usable _ (λ e. zero_is_not_one (cc)) (inr (inl (record { is = refl; same = a.leaves })))
      (λ set holds. stopped (λ f. zero_is_not_one (cc (f, (a.sound set holds).0))) (record { is = refl; same = a.leaves }))

  pub cleared : {allowed : Bool} → ChangeMeets before after code allowed 1 (Ok tt) → Clears before code (effect (accepted 0 0) before after)
  cleared a =
      answered a usable _ (λ e. zero_is_not_one (cc)) (inl (done a))
      (λ set holds. let c = a.sound set holds in passed c.0 (record { done = done a; holds = c.2; sizes_are = c.3 }))

  pub not_marked : ChangeMeets before after code true 1 (Err Already) → Clears before code (effect (refused 7) before after)
  not_marked a =
      answered a usable _ (λ e. zero_is_not_one (cc)) (inr (record { is = refl; same = a.leaves }))
      (λ set holds. stopped (λ f. zero_is_not_one (cc (f, (a.sound set holds).0))) (record { is = refl; same = a.leaves }))

module _ {before after : List ℕ} {code : ℕ} {sizes : Sizes} (given : UsableStore before × (sizes ≡ sizes_of before)) where
  pub marked : ChangeMeets before after code (ltb (pixels_word before) sizes.most) 0 (Ok tt) → Marks before code (effect (accepted 0 0) before after)
  marked a =
      answered a given.0 _ (λ e. zero_is_not_one (cc)) (inl (done a))
      (λ set holds. let c = a.sound set holds in
      passed c.0 (passed (omega (arith, ltb-true (pixels_word before) sizes.most c.1, count_is holds, ap (λ (z : Sizes). z.most) given.1)) (record { done = done a; holds = c.2; sizes_are = c.3 })))

  -- 01: room from cleared pixels counts
  pub full : ChangeMeets before after code (ltb (pixels_word before) sizes.most) 0 (Err Disallowed) → Marks before code (effect (refused 6) before after)
  full a =
      answered a given.0 _ (λ e. zero_is_not_one (cc)) (inr (inr (record { is = refl; same = a.leaves })))
      (λ set holds. let c = a.sound set holds in
      passed c.0 (stopped (λ l. omega (arith, l, ltb-false (pixels_word before) sizes.most c.1, count_is holds, ap (λ (z : Sizes). z.most) given.1)) (record { is = refl; same = a.leaves })))

  -- a pixel that is there is counted; else word 0 is written zero
  uncounted : ChangeMeets before after code (ltb 0 (pixels_word before)) 1 (Err Disallowed) → Clears before code (effect (refused 13) before (set after 0 0))
  uncounted a =
      damage_met (record { past = drop-set-lt (store_words (sizes_of before)) after 0 0 (omega arith) ∙ a.past; long = length-set after 0 0 ∙ a.long })
      (get_or-set_same after 0 0 0 (omega (arith, a.long, given.0.long)))
      (λ set holds. let c = a.sound set holds in no_member set code (omega (arith, ltb-false 0 (pixels_word before) c.1, count_is holds)) c.0)

-- 01: what is not counted is damage, as what was met is; word 0 is written zero
pub uncounted_or_damaged : (after : List ℕ) {before : List ℕ} {code : ℕ} {sizes : Sizes} {ending : Changing} {f : Unchanged} → UsableStore before × (sizes ≡ sizes_of before)
    → ending ≡ Err f → (f ≡ Disallowed) ⊎ (f ≡ Damaged) → ChangeMeets before (disabled ending after) code (ltb 0 (pixels_word before)) 1 ending
    → Clears before code (effect (refused 13) before (set after 0 0))
uncounted_or_damaged after given is (inl d) a = uncounted given (rw (is, d) at a)
uncounted_or_damaged after given is (inr d) a = damaged (rw (is, d) at a) (λ set never. never)
