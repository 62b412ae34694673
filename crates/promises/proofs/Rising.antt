-- 02, P1: list writes its codes in ascending order, so that the output for a window is fixed to the last word.
use Prim.Native.Nat.{ℕ, suc, ◌≤◌}
use native.Mathlib.Omega.{arith}
use mathlib.Core.Path.{◌≡◌, ap, refl, subst, sym, ◌∙◌}
use mathlib.Core.Bool.{Bool, true, false, cond}
use mathlib.Core.List.{List, [], ◌∷◌}
use lib.ListN.{length, take, drop}
use lib.Seq.{take_at}
use Rattle.pktree.specs.Lists.{select}
use Rattle.pktree.specs.PixelSet.{Ascending}
use Rattle.pktree.specs.Window.{Window, in_window, Ordered, found}
use Rattle.pktree.proofs.Pixels.{ascending_lower}
use Rattle.store.specs.Sound.{Holds}
use Rattle.store.proofs.Held.{held_set}
use Rattle.promises.specs.Answer.{Answer}
use Rattle.promises.specs.Effect.{part_in}
use Rattle.promises.specs.Calls.{window_given, ListMeets}
use Rattle.promises.proofs.Answers.{first_of}
use Rattle.promises.proofs.OnSound.{list_writes}

-- what passes a test is in the order that it was in
select_ascends : (test : ℕ → Bool) (from : ℕ) (set : List ℕ) → Ascending from set → Ascending from (select test set)
select_ascends test from [] h = tt
select_ascends test from (c ∷ set) h = go (test c) (select_ascends test (suc c) set h.1)
  where
    go : (b : Bool) → Ascending (suc c) (select test set) → Ascending from (cond b (c ∷ select test set) (select test set))
    go true rest = (h.0, rest)
    go false rest = ascending_lower from (suc c) (select test set) (omega (arith, h.0)) rest

pub list_rises : {words set : List ℕ} → Holds words set → {a : Answer} {x0 y0 x1 y1 : ℕ} → Ordered (window_given x0 y0 x1 y1) → {before after : List ℕ}
    → ListMeets words x0 y0 x1 y1 before after a → length (found (part_in words (window_given x0 y0 x1 y1)) set) ≤ length before → Ascending 0 (take a.first after)
list_rises {words} {set} holds {a} {x0} {y0} {x1} {y1} ordered {before} {after} meets room =
    let part : Window = part_in words (window_given x0 y0 x1 y1) in
    let w = list_writes holds ordered meets room in
    let written : take a.first after ≡ found part set =
    ap (λ (n : ℕ). take n after) (first_of w.0) ∙ ap (take (length (found part set))) w.1
    ∙ take_at (found part set) (drop (length (found part set)) before) (length (found part set)) refl in
    subst (Ascending 0) (sym written) (select_ascends (in_window part) 0 set (held_set holds).ascending)
