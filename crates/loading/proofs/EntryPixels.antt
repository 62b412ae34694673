-- What an image's entries give one by one: the codes of its pixels.
use Prim.Native.Nat.{ℕ, zero, suc, ◌+◌, ◌*◌}
use native.Mathlib.Omega.{arith}
use mathlib.Core.Path.{◌≡◌, refl, ap, subst, sym, ◌∙◌}
use mathlib.Core.Bool.{Bool, true, false, cond}
use mathlib.Core.List.{List, ◌∷◌}
use lib.Dec.{eqb}
use lib.ListN.{length, get_or}
use borrow.Author.Tests.{eq-eqb, ne_eqb}
use Rattle.std.specs.List.{range_with_len, filter_map, cons_option}
use Rattle.std.proofs.Common.{Option, Some, None}
use Rattle.std.proofs.lemmas.Iterator.{YieldsList}
use Rattle.pktree.specs.Entries.{Entry, pixel_entries}
use Rattle.measures.specs.declared.sizes.Sizes.{Sizes}
use Rattle.measures.specs.Sizes.{ValidSizes}
use Rattle.measures.proofs.Usable.{sizes_valid}
use Rattle.packing.specs.declared.plan.Plan.{Plan}
use Rattle.packing.specs.Growing.{stack_words}
use Rattle.building.specs.Finish.{BuildAt}
use Rattle.building.specs.Given.{AppendAllAt}
use Rattle.building.proofs.Filled.{fill_at}
use Rattle.image.specs.Parts.{four_at, entry_at, entries_at}
use Rattle.loading.specs.Filled.{pixel_of, pixels_given, ReplaceDue}

cons_cond : (b : Bool) (c : ℕ) (l : List ℕ) → cons_option (cond b (Some c) None) l ≡ cond b (c ∷ l) l
cons_cond true c l = refl
cons_cond false c l = refl

pub picked_pixels : (codes levels : List ℕ) (n at : ℕ) → filter_map (λ i. pixel_of (entry_at codes levels i)) (range_with_len at n) ≡ pixel_entries (entries_at codes levels n at)
unfolding entries_at
picked_pixels codes levels zero at = refl
picked_pixels codes levels (suc n) at =
    let e : Entry = entry_at codes levels at in
    let l : List ℕ = filter_map (λ i. pixel_of (entry_at codes levels i)) (range_with_len (suc at) n) in
    let next : at + 1 ≡ suc at = omega arith in
    rw next (cons_cond (eqb e.level 0) e.code l ∙ ap (λ (l : List ℕ). cond (eqb e.level 0) (e.code ∷ l) l) (picked_pixels codes levels n (suc at)))

-- one entry, of which the code has read the level
module _ (codes levels : List ℕ) (at : ℕ) {level : ℕ} (level_is : level ≡ get_or levels at 0) where
  pub pixel_here : {code : ℕ} → level ≡ 0 → code ≡ four_at codes (4 * at) → Some code ≡ pixel_of (entry_at codes levels at)
  pixel_here is code_is =
      let b = eq-eqb (get_or levels at 0) 0 (sym level_is ∙ is) in
      rw b (ap (λ (n : ℕ). Some n) code_is)

  pub block_here : (level ≡ 0 → ⊥) → None ≡ pixel_of (entry_at codes levels at)
  block_here ne =
      let b = ne_eqb (get_or levels at 0) 0 (λ z. ne (level_is ∙ z)) in
      rw b

-- what the public call is due
module _ {words codes levels : List ℕ} {sizes : Sizes} {number : ℕ} (due : ReplaceDue words sizes codes levels number) where
  pub replace_valid : ValidSizes sizes
  replace_valid = sizes_valid due.usable due.sizes_are

  begun_at : {plan : Plan} (stack : List ℕ) → length stack ≡ stack_words → plan.sizes ≡ sizes → BuildAt plan words stack (pixels_given codes levels)
  begun_at stack long is = fill_at stack long is (record { usable = due.usable; sizes_are = due.sizes_are; on_panel = due.given.on_panel; room = due.given.room })

  -- an iterator that takes the pixels among the entries gives the pixels of all
  pub given_at : {S : Type 0} {steps : S → Option ℕ → S → Type 0} {given : S} {plan : Plan} {stack : List ℕ} → length stack ≡ stack_words → plan.sizes ≡ sizes
      → YieldsList steps (λ x. x) given (filter_map (λ i. pixel_of (entry_at codes levels i)) (range_with_len 0 (length levels)))
      → AppendAllAt steps given plan words stack (pixels_given codes levels)
  given_at {given = given} {stack = stack} long is gives = record {
    gives = subst (YieldsList _ (λ x. x) given) (picked_pixels codes levels (length levels) 0) gives;
    begun = begun_at stack long is;
  }
