-- What each call promises keeps the store in step with the survivors.
use Prim.Native.Nat.{ℕ, ◌^◌}
use native.Mathlib.Omega.{arith}
use mathlib.Core.Path.{◌≡◌, refl, ap, subst, sym, ◌∙◌}
use mathlib.Core.Bool.{Bool, true, false, ◌&&◌, not, cond}
use mathlib.Core.List.{List}
use lib.Dec.{ltb}
use lib.ListN.{length}
use borrow.Author.Tests.{ltb-true, lt-ltb}
use Rattle.morton.specs.Code.{code_of}
use Rattle.pktree.specs.Panel.{HasPixel, is_pixel}
use Rattle.pktree.specs.PixelSet.{member, added, removed}
use Rattle.measures.specs.declared.sizes.Sizes.{Sizes}
use Rattle.measures.specs.Sizes.{panel_of, sizes_of}
use Rattle.store.specs.Sound.{Holds}
use Rattle.image.specs.Parts.{pixels_of}
use Rattle.promises.specs.Answer.{Answer}
use Rattle.promises.specs.Effect.{effect}
use Rattle.promises.specs.Calls.{Marks, MarkMeets, Clears, ClearMeets, LoadMeets, FillMeets}
use Rattle.promises.proofs.Ladder.{where_holds, where_fails}
use Rattle.promises.proofs.Exactly.{image_loaded, else_unchanged, set_filled, else_unfilled}
use Rattle.promises.specs.Survivors.{mark, clear, load, fill, is_replaced, is_filled, next}
use Rattle.promises.proofs.SetTests.{set_says, set_passes}
use Rattle.promises.proofs.ImageTests.{test_says, some_passes}

-- the store holds this set, and is of these sizes
pub record InStep (sizes : Sizes) (set words : List ℕ) : Type 0 where
  pub holds : Holds words set
  pub sized : sizes_of words ≡ sizes

-- a test that was true and false
both : {A : Type 0} {b : Bool} → b ≡ true → b ≡ false → A
both e f = let z : ◌≡◌ {A = ℕ} 1 0 = ap (λ (b : Bool). cond b 1 0) (sym e ∙ f) in absurd (omega (arith, z))

on_panel : (sizes : Sizes) (x y : ℕ) → is_pixel (panel_of sizes) x y ≡ true → HasPixel (panel_of sizes) x y
on_panel sizes x y e = go (ltb x (2 ^ sizes.order)) refl (ltb y (2 ^ sizes.order)) refl
  where
    go : (p : Bool) → ltb x (2 ^ sizes.order) ≡ p → (q : Bool) → ltb y (2 ^ sizes.order) ≡ q → HasPixel (panel_of sizes) x y
    go true p true q = (ltb-true x (2 ^ sizes.order) p, ltb-true y (2 ^ sizes.order) q)
    go true p false q = both e (rw (p, q))
    go false p q r = both e (rw p)

off_panel : (sizes : Sizes) (x y : ℕ) → is_pixel (panel_of sizes) x y ≡ false → HasPixel (panel_of sizes) x y → ⊥
off_panel sizes x y e h = both (rw (lt-ltb x (2 ^ sizes.order) h.0, lt-ltb y (2 ^ sizes.order) h.1)) e

same_words : {sizes : Sizes} {set before after : List ℕ} → after ≡ before → InStep sizes set before → InStep sizes set after
same_words {sizes} {set} e h = subst (InStep sizes set) (sym e) h

module _ (before after : List ℕ) (x y : ℕ) (a : Answer) (set : List ℕ) (h : InStep (sizes_of before) set before) where
  abbrev sizes : Sizes
  sizes = sizes_of before

  pub mark_next : MarkMeets before after x y a → InStep sizes (next sizes set (mark x y)) after
  mark_next m = go (is_pixel (panel_of sizes) x y) refl (member set (code_of x y)) refl (ltb (length set) sizes.most) refl
    where
      on : is_pixel (panel_of sizes) x y ≡ true → Marks before (code_of x y) (effect a before after)
      on p = where_holds (where_holds m h.holds.sound.usable) (on_panel sizes x y p)

      go : (p : Bool) → is_pixel (panel_of sizes) x y ≡ p → (q : Bool) → member set (code_of x y) ≡ q → (t : Bool) → ltb (length set) sizes.most ≡ t
          → InStep sizes (cond (p && (not q && t)) (added (code_of x y) set) set) after
      go false p q e t f = same_words (where_fails (where_holds m h.holds.sound.usable) (off_panel sizes x y p)).same h
      go true p true e t f = same_words (where_fails ((on p).sound set h.holds) (both e)).same h
      go true p false e false f = same_words (where_fails (where_holds ((on p).sound set h.holds) e) (λ l. both (lt-ltb (length set) sizes.most l) f)).same h
      go true p false e true f =
          let d = where_holds (where_holds ((on p).sound set h.holds) e) (ltb-true (length set) sizes.most f) in
          record { holds = d.holds; sized = d.sizes_are }

  pub clear_next : ClearMeets before after x y a → InStep sizes (next sizes set (clear x y)) after
  clear_next m = go (is_pixel (panel_of sizes) x y) refl (member set (code_of x y)) refl
    where
      on : is_pixel (panel_of sizes) x y ≡ true → Clears before (code_of x y) (effect a before after)
      on p = where_holds (where_holds m h.holds.sound.usable) (on_panel sizes x y p)

      go : (p : Bool) → is_pixel (panel_of sizes) x y ≡ p → (q : Bool) → member set (code_of x y) ≡ q → InStep sizes (cond (p && q) (removed (code_of x y) set) set) after
      go false p q e = same_words (where_fails (where_holds m h.holds.sound.usable) (off_panel sizes x y p)).same h
      go true p false e = same_words (where_fails ((on p).sound set h.holds) (λ t. both t e)).same h
      go true p true e = let d = where_holds ((on p).sound set h.holds) e in record { holds = d.holds; sized = d.sizes_are }

pub load_next : (before after bytes : List ℕ) (a : Answer) (set : List ℕ) → InStep (sizes_of before) set before → LoadMeets before after bytes a
    → InStep (sizes_of before) (next (sizes_of before) set (load bytes)) after
load_next before after bytes a set h m = go (is_replaced (sizes_of before) bytes) refl
  where
    go : (p : Bool) → is_replaced (sizes_of before) bytes ≡ p → InStep (sizes_of before) (cond p (pixels_of bytes) set) after
    go true p =
        let d = image_loaded m h.holds.sound.usable (test_says (panel_of (sizes_of before)) (sizes_of before).most bytes (pixels_of bytes) p) in
        record { holds = d.holds; sized = d.sizes_are }
    go false p =
        let valid = h.holds.sound.usable.valid in
        same_words (else_unchanged m (λ s. both (some_passes (panel_of (sizes_of before)) (sizes_of before).most bytes valid.panel valid.most_to s) p)) h

pub fill_next : (before after codes : List ℕ) (a : Answer) (set : List ℕ) → InStep (sizes_of before) set before → FillMeets before after codes a
    → InStep (sizes_of before) (next (sizes_of before) set (fill codes)) after
fill_next before after codes a set h m = go (is_filled (sizes_of before) codes) refl
  where
    go : (p : Bool) → is_filled (sizes_of before) codes ≡ p → InStep (sizes_of before) (cond p codes set) after
    go true p =
        let (on, room) = set_says (panel_of (sizes_of before)) (sizes_of before).most codes p in
        let d = set_filled m h.holds.sound.usable on room in
        record { holds = d.holds; sized = d.sizes_are }
    go false p = same_words (else_unfilled m (λ on room. both (set_passes (panel_of (sizes_of before)) (sizes_of before).most codes on room) p)) h
