-- A walk from the root of a sound store is a walk over the tree of the set that it holds.
use Prim.Native.Nat.{ℕ}
use native.Mathlib.Omega.{arith}
use mathlib.Core.Path.{◌≡◌, ap, subst, subst₂, sym, ◌∙◌}
use mathlib.Core.List.{List}
use Rattle.pktree.specs.PixelSet.{member}
use Rattle.pktree.specs.Elements.{Forest, empty, block, unlabelled}
use Rattle.pktree.specs.Tree.{tree}
use Rattle.measures.specs.declared.sizes.Layout.{Layout}
use Rattle.measures.specs.declared.sizes.Sizes.{Sizes}
use Rattle.measures.specs.Layout.{LaidOut, level_above_root}
use Rattle.measures.specs.Sizes.{panel_of, sizes_of}
use Rattle.measures.proofs.Usable.{layout_said}
use Rattle.store.specs.Sound.{Holds}
use Rattle.store.proofs.BlockView.{BlockView, root_view}
use Rattle.store.proofs.SoundView.{sound_view}
use Rattle.store.proofs.Held.{tree_of_held}
use Rattle.walks.proofs.Walks.{BlockWalked}

-- the tree of the set that a store holds
abbrev pub held_tree : List ℕ → List ℕ → Forest
held_tree words set = tree (panel_of (sizes_of words)) (member set)

pub root_walked : {S : Type 0} {W : S → Forest → S → Type 0} {layout : Layout} {sizes : Sizes} {words set : List ℕ} {s t : S} → sizes ≡ sizes_of words → LaidOut sizes layout
    → BlockWalked W layout words level_above_root 0 sizes.order 0 s t → Holds words set → W s (held_tree words set) t
root_walked {W = W} {layout = layout} {sizes = sizes} {words = words} {set = set} {s = s} {t = t} said laid walked holds =
    let (es, v) = sound_view words holds.placed holds.sound in
    let root = root_view words holds.placed es holds.sound v in
    let view : BlockView (sizes_of words).k layout.width layout.slots words 0 sizes.order 0 es =
    subst₂ (λ (l : Layout) (z : Sizes). BlockView (sizes_of words).k l.width l.slots words 0 z.order 0 es) (sym (layout_said words said laid)) (sym said) root in
    let is : block sizes.order 0 (unlabelled es) empty ≡ held_tree words set =
    ap (λ (z : Sizes). block z.order 0 (unlabelled es) empty) said ∙ sym (ap unlabelled v.is) ∙ tree_of_held holds in
    subst (λ (f : Forest). W s f t) is (walked.right (sizes_of words).k es (omega (arith, view.level_to)) view)
