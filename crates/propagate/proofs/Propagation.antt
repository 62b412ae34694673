-- The loop of `propagate`: the change is pending in the block that the path names, in every setting in which it was so at the start.
use Prim.Native.Nat.{ℕ, zero, suc, ◌-◌, ◌*◌, ◌≤◌, ◌<◌}
use native.Mathlib.Omega.{arith}
use native.Mathlib.Decide.{dec_lt}
use mathlib.Core.Path.{◌≡◌, refl, ap, subst, sym, ◌∙◌}
use mathlib.Core.List.{List, [], ◌∷◌}
use Rattle.std.specs.Prelude.{Some, None, Ok, Err}
use lib.Dec.{eqb}
use lib.ListN.{length, take}
use borrow.Author.Tests.{eqb-true, eqb-false}
use Rattle.pktree.specs.Elements.{size, ◌⧺◌, block_at, empty}
use Rattle.pktree.proofs.Forests.{size_join}
use Rattle.measures.specs.declared.sizes.Layout.{Layout}
use Rattle.measures.specs.Layout.{LayoutFits}
use Rattle.descent.specs.Way.{Frame}
use Rattle.store.specs.declared.Damaged.{Damaged}
use Rattle.descent.specs.declared.Passed.{Passed}
use Rattle.descent.specs.Located.{PathNames, passed_at}
use Rattle.ascent.proofs.Pending.{Setting, Pending}
use Rattle.ascent.proofs.Completed.{Completed}
use Rattle.step.specs.declared.Change.{Change}
use Rattle.step.specs.Step.{most_handed_up, Kept, InSetting, Stepped, SteppedRight, StepMeets}
use Rattle.propagate.specs.Propagate.{PendingAt, OfChange}
use Rattle.rewrite.specs.Rewrite.{scratch_words}

-- what holds at each turn, on any words
pub record InBounds (change : Change) (passed : List Passed) (words scratch : List ℕ) (depth slot place out coming : ℕ) : Type 0 where
  pub fits : LayoutFits change.layout words
  pub scratch_long : length scratch ≡ scratch_words
  pub slot_below : slot < change.layout.slots
  pub place_to : place ≤ 75
  pub out_to : out ≤ 1
  pub coming_to : coming ≤ most_handed_up
  pub deep : depth ≤ 16
  pub path_below : (i : ℕ) → i < depth → (passed_at passed i).slot < change.layout.slots

-- and in each setting
abbrev pub Carried : Change → List Passed → List ℕ → ℕ → ℕ → ℕ → ℕ → ℕ → List ℕ → List ℕ → ℕ → ℕ → ℕ → ℕ → ℕ → Type 0
Carried change passed before depth₀ slot₀ place₀ out₀ coming₀ words scratch depth slot place out coming =
    (σ : Setting) → OfChange σ change → PendingAt σ before passed depth₀ slot₀ place₀ out₀ coming₀ (change.code ∷ 0 ∷ [])
    → PendingAt σ words passed depth slot place out coming scratch

pub fits_kept : (layout : Layout) (a b : List ℕ) → Kept layout a b → LayoutFits layout a → LayoutFits layout b
fits_kept layout a b k f = record { within = f.within; lies = omega (arith, k.long, f.lies) }

-- the root is where the path has no block left
in_setting : (σ : Setting) (change : Change) (depth : ℕ) (way : List Frame) → OfChange σ change → depth ≡ length way → InSetting σ change (eqb depth 0) way
in_setting σ change depth way o e =
    record {
      layout_is = o.layout_is;
      k_is = o.k_is;
      x_is = o.x_is;
      root_is = ((λ t. none way (omega (arith, eqb-true depth 0 t))), (λ t z. eqb-false depth 0 t (e ∙ ap length z)));
    }
  where
    none : (w : List Frame) → length w ≡ 0 → w ≡ []
    none [] n = refl
    none (f ∷ w) n = absurd (omega arith)

-- a place in a block of a register is far below what a slot can hold
place_small : (σ : Setting) (words : List ℕ) (passed : List Passed) (depth slot place out coming : ℕ) (scratch : List ℕ) → PendingAt σ words passed depth slot place out coming scratch → place ≤ 75
place_small σ words passed depth slot place out coming scratch p =
    omega (arith, p.place_is, p.pending.was_fit, σ.k_to, size_join p.a (p.old ⧺ p.b))

module _ {change : Change} {passed : List Passed} {words scratch after scratch' : List ℕ} {depth slot place out coming : ℕ} {r : Stepped}
    (m : StepMeets change (eqb depth 0) slot place out coming words after scratch scratch' r) where
  -- what the step leaves in a setting
  stepped : (σ : Setting) → OfChange σ change → (p : PendingAt σ words passed depth slot place out coming scratch) → SteppedRight σ after scratch' p.way slot r
  stepped σ o p =
      m.right σ p.way p.level p.code p.a p.old p.new p.b p.free (in_setting σ change depth p.way o p.depth_is) p.place_is p.removed_is p.inserted_is
      p.scratch_is p.pending

  pub rests : r ≡ Ok None → (σ : Setting) → OfChange σ change → PendingAt σ words passed depth slot place out coming scratch → Completed σ after
  rests e σ o p = subst (SteppedRight σ after scratch' p.way slot) e (stepped σ o p)

  pub never_damaged : {e : Damaged} → r ≡ Err e → (σ : Setting) → OfChange σ change → PendingAt σ words passed depth slot place out coming scratch → ⊥
  never_damaged e σ o p = subst (SteppedRight σ after scratch' p.way slot) e (stepped σ o p)

  above : (n : ℕ) → r ≡ Ok (Some n) → (σ : Setting) → OfChange σ change → (p : PendingAt σ words passed depth slot place out coming scratch)
      → SteppedRight σ after scratch' p.way slot (Ok (Some n))
  above n e σ o p = subst (SteppedRight σ after scratch' p.way slot) e (stepped σ o p)

  never_above_root : (n : ℕ) → r ≡ Ok (Some n) → depth ≡ 0 → (σ : Setting) → OfChange σ change → PendingAt σ words passed depth slot place out coming scratch → ⊥
  never_above_root n e z σ o p = go p.way (sym p.depth_is ∙ z) (above n e σ o p)
    where
      go : (w : List Frame) → length w ≡ 0 → SteppedRight σ after scratch' w slot (Ok (Some n)) → ⊥
      go [] q s = s
      go (f ∷ w) q s = absurd (omega arith)

  -- one block further up
  pub moves_up : (n : ℕ) → r ≡ Ok (Some n) → (σ : Setting) → OfChange σ change → PendingAt σ words passed depth slot place out coming scratch → 0 < depth
      → PendingAt σ after passed (depth - 1) (passed_at passed (depth - 1)).slot (passed_at passed (depth - 1)).place 1 n scratch'
  moves_up n e σ o p pos = go p.way p.depth_is p.names (above n e σ o p)
    where
      go : (w : List Frame) → depth ≡ length w → PathNames passed w → SteppedRight σ after scratch' w slot (Ok (Some n))
          → PendingAt σ after passed (depth - 1) (passed_at passed (depth - 1)).slot (passed_at passed (depth - 1)).place 1 n scratch'
      go [] d names s = absurd s
      go (f ∷ w) d names s =
          let q : depth - 1 ≡ length w = omega arith in
          let named : passed_at passed (depth - 1) ≡ record { slot = f.slot; place = size f.before } = ap (passed_at passed) q ∙ names.0 in
          let es : (passed_at passed (depth - 1)).slot ≡ f.slot = ap (λ (p : Passed). p.slot) named in
          let ep : (passed_at passed (depth - 1)).place ≡ size f.before = ap (λ (p : Passed). p.place) named in
          record {
            way = w;
            level = f.level;
            code = f.code;
            a = f.before;
            old = block_at slot s.level s.code empty empty;
            new = s.left;
            b = f.after;
            free = s.free;
            depth_is = q;
            names = names.1;
            place_is = sym ep;
            removed_is = refl;
            inserted_is = s.count_is;
            scratch_is = s.scratch_is;
            pending = subst (λ (t : ℕ). Pending σ after w t f.level f.code f.before (block_at slot s.level s.code empty empty) s.left f.after s.free) (sym es) s.pending;
          }

  -- so the path names the parent
  pub never_unnamed : (n : ℕ) → r ≡ Ok (Some n) → (0 < depth → 75 < (passed_at passed (depth - 1)).place) → (σ : Setting) → OfChange σ change
      → PendingAt σ words passed depth slot place out coming scratch → ⊥
  never_unnamed n e none σ o p = go (dec_lt 0 depth)
    where
      go : Dec (0 < depth) → ⊥
      go (yes pos) = omega (arith, none pos, place_small σ after passed _ _ _ _ _ _ (moves_up n e σ o p pos))
      go (no z) = never_above_root n e (omega arith) σ o p

-- the scratch words at the start have the pixel
pub begins : (σ : Setting) (words : List ℕ) (passed : List Passed) (depth slot place out coming : ℕ) (scratch scratch' : List ℕ) → coming ≤ 1 → take 2 scratch ≡ take 2 scratch'
    → PendingAt σ words passed depth slot place out coming scratch → PendingAt σ words passed depth slot place out coming scratch'
begins σ words passed depth slot place out coming scratch scratch' h e p =
    record {
      way = p.way;
      level = p.level;
      code = p.code;
      a = p.a;
      old = p.old;
      new = p.new;
      b = p.b;
      free = p.free;
      depth_is = p.depth_is;
      names = p.names;
      place_is = p.place_is;
      removed_is = p.removed_is;
      inserted_is = p.inserted_is;
      scratch_is = same coming h ∙ p.scratch_is;
      pending = p.pending;
    }
  where
    same : (n : ℕ) → n ≤ 1 → take (2 * n) scratch' ≡ take (2 * n) scratch
    same zero q = refl
    same (suc zero) q = sym e
    same (suc (suc n)) q = absurd (omega arith)
