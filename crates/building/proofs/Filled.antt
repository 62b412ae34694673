-- All codes appended to an empty build, then the end: the store holds them.
use Prim.Native.Nat.{ℕ}
use native.Mathlib.Omega.{arith}
use mathlib.Core.Path.{◌≡◌, ap, subst, sym, ◌∙◌}
use mathlib.Core.List.{List, []}
use lib.ListN.{length, take, drop}
use Rattle.pktree.specs.PixelSet.{PixelSet}
use Rattle.measures.specs.Words.{head_words}
use Rattle.measures.specs.declared.sizes.Sizes.{Sizes}
use Rattle.measures.specs.declared.sizes.Layout.{Layout}
use Rattle.measures.specs.Sizes.{panel_of, sizes_of, store_words, ValidSizes}
use Rattle.measures.specs.Layout.{layout_of, store_end}
use Rattle.measures.proofs.SlotWrites.{take_less}
use Rattle.measures.proofs.Usable.{sizes_valid, sizes_kept, usable_kept, layout_fits}
use Rattle.packing.specs.declared.Build.{Build}
use Rattle.packing.specs.declared.plan.Plan.{Plan}
use Rattle.packing.specs.Growing.{stack_words}
use Rattle.building.specs.Finish.{BuildDue, Replaced, BuildAt, Appended, FinishAt, FinishDue, Finished}

module _ {plan : Plan} {words words₁ stack stack₁ codes : List ℕ} {r : Build} {number : ℕ} (begun : BuildAt plan words stack codes)
    (all : Appended plan words words₁ stack₁ r codes []) (number_is : number ≡ length codes) where
  same_head : take 4 words₁ ≡ take 4 words
  same_head = take_less 4 head_words words words₁ (omega arith) all.beside.head

  finish_at : FinishAt plan words₁ stack₁ r number codes
  finish_at = record {
    usable = usable_kept words words₁ same_head all.beside.long begun.usable;
    sizes_are = begun.sizes_are ∙ sym (sizes_kept words words₁ same_head);
    building = all.building;
    number_is = number_is;
  }

  pub finish_due : FinishDue plan words₁ stack₁ r number
  finish_due = record { codes = codes; due = finish_at }

  pub filled : {words₂ : List ℕ} → Finished plan r number words₁ words₂ stack₁ → Replaced words words₂ codes
  filled {words₂} f =
      let e = f.right codes finish_at in
      let same : sizes_of words₁ ≡ sizes_of words = sizes_kept words words₁ same_head in
      let l : plan.layout ≡ layout_of (sizes_of words) = plan.laid.is ∙ ap layout_of begun.sizes_are in
      record {
        holds = e.holds;
        sizes_same = e.sizes_same ∙ same;
        head = e.head ∙ same_head;
        past = subst (λ (z : Sizes). drop (store_words z) words₂ ≡ drop (store_words z) words₁) same e.past
            ∙ subst (λ (z : Layout). drop (store_end z) words₁ ≡ drop (store_end z) words) l all.beside.past;
        long = e.long ∙ all.beside.long;
      }

-- what the public call is due
pub fill_valid : {words codes : List ℕ} {sizes : Sizes} → BuildDue words sizes codes → ValidSizes sizes
fill_valid due = sizes_valid due.usable due.sizes_are

pub fill_at : {plan : Plan} {sizes : Sizes} {words codes : List ℕ} (stack : List ℕ) → length stack ≡ stack_words → plan.sizes ≡ sizes → BuildDue words sizes codes
    → BuildAt plan words stack codes
fill_at {plan} {words = words} {codes} stack long is due =
    let sizes_are = is ∙ due.sizes_are in
    record {
      usable = due.usable;
      sizes_are = sizes_are;
      ground = record { fits = layout_fits plan.sizes plan.layout words due.usable sizes_are plan.laid; stack_long = long };
      on_panel = subst (λ (z : Sizes). PixelSet (panel_of z) codes) (sym is) due.on_panel;
      room = rw is due.room;
    }
