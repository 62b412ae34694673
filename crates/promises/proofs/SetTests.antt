-- The test of a set is true exactly where the codes are a set of at most N pixels on the panel.
use Prim.Native.Nat.{ℕ, suc, ◌^◌, ◌≤◌}
use mathlib.Core.Path.{◌≡◌, refl}
use mathlib.Core.Bool.{Bool, true, false, ◌&&◌}
use mathlib.Core.List.{List, [], ◌∷◌}
use lib.Dec.{leb}
use lib.ListN.{length}
use borrow.Author.Tests.{leb-true, le-leb, ltb-true, lt-ltb}
use Rattle.pktree.specs.Lists.{Every}
use Rattle.pktree.specs.Panel.{Panel, OnPanel, is_on_panel}
use Rattle.pktree.specs.PixelSet.{Ascending, PixelSet}
use Rattle.pktree.proofs.Absurd.{zero_is_not_one}
use Rattle.promises.specs.SetTest.{ascends, all_on_panel, is_set_of}

-- both of two tests were true
pub both_true : (a b : Bool) → (a && b) ≡ true → (a ≡ true) × (b ≡ true)
both_true true b e = (refl, e)
both_true false b e = zero_is_not_one (cc)

ascends_says : (from : ℕ) (codes : List ℕ) → ascends from codes ≡ true → Ascending from codes
ascends_says from [] e = tt
ascends_says from (c ∷ codes) e = let (p, q) = both_true (leb from c) (ascends (suc c) codes) e in (leb-true from c p, ascends_says (suc c) codes q)

ascending_passes : (from : ℕ) (codes : List ℕ) → Ascending from codes → ascends from codes ≡ true
ascending_passes from [] h = refl
ascending_passes from (c ∷ codes) h = rw (le-leb from c h.0) (ascending_passes (suc c) codes h.1)

on_panel_says : (panel : Panel) (codes : List ℕ) → all_on_panel panel codes ≡ true → Every (OnPanel panel) codes
on_panel_says panel [] e = tt
on_panel_says panel (c ∷ codes) e =
    let (p, q) = both_true (is_on_panel panel c) (all_on_panel panel codes) e in
    (ltb-true c (4 ^ panel.order) p, on_panel_says panel codes q)

on_panel_passes : (panel : Panel) (codes : List ℕ) → Every (OnPanel panel) codes → all_on_panel panel codes ≡ true
on_panel_passes panel [] h = refl
on_panel_passes panel (c ∷ codes) h = rw (lt-ltb c (4 ^ panel.order) h.0) (on_panel_passes panel codes h.1)

module _ (panel : Panel) (most : ℕ) (codes : List ℕ) where
  pub set_says : is_set_of panel most codes ≡ true → PixelSet panel codes × (length codes ≤ most)
  set_says e =
      let (p, q) = both_true (all_on_panel panel codes) (leb (length codes) most && ascends 0 codes) e in
      let (l, a) = both_true (leb (length codes) most) (ascends 0 codes) q in
      (record { ascending = ascends_says 0 codes a; on_panel = on_panel_says panel codes p }, leb-true (length codes) most l)

  pub set_passes : PixelSet panel codes → length codes ≤ most → is_set_of panel most codes ≡ true
  set_passes s room = rw (on_panel_passes panel codes s.on_panel, le-leb (length codes) most room) (ascending_passes 0 codes s.ascending)
