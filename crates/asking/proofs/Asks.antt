-- What the descent finds is what ask answers: the smallest block, and by its law whether the pixel is marked.
use Prim.Native.Nat.{ℕ, suc, ◌+◌}
use native.Mathlib.Omega.{arith}
use mathlib.Core.Path.{◌≡◌, refl, ap, ap₂, subst, sym, ◌∙◌}
use mathlib.Core.Logic.{inl, inr}
use mathlib.Core.Bool.{Bool}
use mathlib.Core.List.{List}
use Rattle.pktree.specs.Panel.{OnPanel}
use Rattle.pktree.specs.PixelSet.{member}
use Rattle.pktree.specs.Tree.{tree}
use Rattle.pktree.specs.Window.{opened_by_pixel}
use Rattle.measures.specs.declared.sizes.Sizes.{Sizes}
use Rattle.measures.specs.declared.sizes.Layout.{Layout}
use Rattle.measures.specs.Sizes.{panel_of, slot_width, sizes_of, UsableStore}
use Rattle.measures.specs.Layout.{layout_of, LaidOut}
use Rattle.measures.specs.Slot.{slot_part, count_word}
use Rattle.measures.proofs.Usable.{layout_said}
use Rattle.store.specs.Opening.{HeaderSays, CannotOpen, RootCannotOpen}
use Rattle.store.specs.Sound.{Holds}
use Rattle.store.proofs.Held.{tree_of_held}
use Rattle.descent.specs.declared.Located.{Located}
use Rattle.descent.specs.declared.Passed.{Passed}
use Rattle.descent.specs.Located.{SoundArguments, NoSound, LocatedRight}
use Rattle.descent.proofs.OpenedByPixel.{opened_by_pixel_lem}
use Rattle.descent.proofs.SmallestLocated.{located_smallest, marked_exactly}
use Rattle.promises.specs.Answer.{refused, located}
use Rattle.promises.specs.Effect.{effect}
use Rattle.promises.specs.Calls.{Asks}
use Rattle.promises.proofs.Answers.{yes_no_to}
use Rattle.promises.proofs.SpoiledRoot.{spoiled_shut}

module _ (words : List ℕ) (code : ℕ) (sizes : Sizes) (layout : Layout) (path : List Passed) (usable : UsableStore words) (sizes_are : sizes ≡ sizes_of words) (laid : LaidOut sizes layout)
    (on : OnPanel (panel_of sizes) code) where
  layout_is : layout ≡ layout_of (sizes_of words)
  layout_is = layout_said words sizes_are laid

  order_is : sizes.order ≡ (sizes_of words).order
  order_is = ap (λ (s : Sizes). s.order) sizes_are

  -- where the root's slot says otherwise, the descent says so
  shut : RootCannotOpen words → CannotOpen layout.width words 0 sizes.order 0
  shut h s =
      h (subst (λ (l : ℕ). HeaderSays (slot_part (slot_width (sizes_of words).k) words 0) l 0 (count_word (slot_part (slot_width (sizes_of words).k) words 0))) order_is
      (subst (λ (w : ℕ). HeaderSays (slot_part w words 0) sizes.order 0 (count_word (slot_part w words 0))) (ap (λ (l : Layout). l.width) layout_is) s))

  -- what the descent is told of a store that holds a set
  told : {set : List ℕ} (h : Holds words set) → SoundArguments words h.placed layout sizes.order code
  told h = record { sound = h.sound; layout_is = layout_is; order_is = order_is; on_panel = on }

  pub asked_known : {r : Located} → LocatedRight words layout sizes.order code path r
      → Asks words code (effect (located r.marked (r.depth + 1) r.block.level r.block.code) words words)
  asked_known {r} m =
      record {
        ends = inl (record {
          answered = refl;
          marked_to = yes_no_to r.marked;
          opened_to = omega (arith, m.bounds.deep, m.bounds.level_from, order_is);
          level_to = omega (arith, m.bounds.deep, order_is);
          no_search = refl;
        });
        spoiled = λ s. absurd (m.opened (shut (spoiled_shut words usable s)));
        sound = λ set holds.
            let s = holds.sound in
            let l = m.sound holds.placed (told holds) in
            let marked : member set code ≡ r.marked = ap (λ (t : List ℕ). member t code) (sym holds.set_is) ∙ marked_exactly s l in
            let opened : opened_by_pixel code (tree (panel_of (sizes_of words)) (member set)) ≡ suc r.depth = ap (opened_by_pixel code) (sym (tree_of_held holds)) ∙ opened_by_pixel_lem s l in
            record {
              level = r.block.level;
              block = r.block.code;
              smallest = rw (← holds.set_is) (located_smallest s l);
              returns = record { is = ap₂ (λ (b : Bool) (n : ℕ). located b n r.block.level r.block.code) (sym marked) (omega (arith, opened)); same = refl };
            };
      }

  pub asked_damaged : NoSound words layout sizes.order code → Asks words code (effect (refused 13) words words)
  asked_damaged never =
      record { ends = inr (refl, refl); spoiled = λ s. refl; sound = λ set holds. absurd (never holds.placed (told holds)) }
