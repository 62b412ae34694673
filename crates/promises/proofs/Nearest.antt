-- 02, P5: what follows from nearest's promise on a sound store: every sentence about the nearest unfit pixel, and what its numbers say to a caller.
use Prim.Native.Nat.{ℕ, ◌≤◌, ◌<◌}
use native.Mathlib.Omega.{arith}
use native.Mathlib.Decide.{dec_lt}
use mathlib.Core.Path.{◌≡◌, refl, ap, sym, subst, ◌∙◌}
use mathlib.Core.Logic.{◌⊎◌, inl, inr, ⊎_elim}
use mathlib.Core.Bool.{Bool, true, false, false≢true}
use mathlib.Core.List.{List, []}
use lib.ListN.{length}
use Rattle.morton.specs.Code.{code_of}
use Rattle.pktree.specs.PixelSet.{member}
use Rattle.pktree.specs.Tree.{tree, blocks}
use Rattle.searching.specs.Distance.{squared_distance}
use Rattle.searching.specs.Nearest.{Nearest}
use Rattle.searching.specs.NearestPromises.{nearest_on, IsNearest, NearestPromises}
use Rattle.searching.proofs.NearestPromises.{nearest_promises}
use Rattle.measures.specs.Sizes.{panel_of, sizes_of}
use Rattle.store.specs.Sound.{Holds}
use Rattle.store.proofs.Held.{held_set}
use Rattle.promises.specs.Answer.{Answer, yes_no, searched}
use Rattle.promises.specs.Effect.{HasPixelOn}
use Rattle.promises.specs.Calls.{NearestMeets}
use Rattle.promises.proofs.Ladder.{where_holds}

-- the pixel of these numbers is the nearest of all, and the limit its squared distance
pub record NearestOfAll (place : ℕ) (set : List ℕ) (a : Answer) : Type 0 where
  pub found : a.first ≡ 1
  pub nearest : IsNearest place a.further.code set
  pub limit : a.further.limit ≡ a.further.distance

-- what a caller may conclude from the numbers, whatever the budget was
pub record NumbersSay (place budget : ℕ) (set : List ℕ) (a : Answer) : Type 0 where
  pub accepted : a.refusal ≡ 0
  pub marked : a.first ≡ 1 → member set a.further.code ≡ true
  pub distance : a.first ≡ 1 → a.further.distance ≡ squared_distance place a.further.code
  pub no_pixel : a.first ≡ 0 → (a.further.code ≡ 0) × (a.further.distance ≡ 0)
  pub limit : (code : ℕ) → member set code ≡ true → a.further.limit ≤ squared_distance place code
  pub opened_to : a.second ≤ budget
  pub stopped : a.further.complete ≡ 0 → a.second ≡ budget
  pub complete : a.further.complete ≡ 1 → NearestOfAll place set a ⊎ ((a.first ≡ 0) × (set ≡ []))

said_yes : (b : Bool) → yes_no b ≡ 1 → b ≡ true
said_yes true e = refl
said_yes false e = absurd (omega (arith, e))

said_no : (b : Bool) → yes_no b ≡ 0 → b ≡ false
said_no true e = absurd (omega (arith, e))
said_no false e = refl

module _ {words set : List ℕ} (holds : Holds words set) where
  pub nearest_promised : (place budget : ℕ) → NearestPromises (panel_of (sizes_of words)) set place budget
  nearest_promised = nearest_promises (panel_of (sizes_of words)) set holds.sound.usable.valid.panel (held_set holds)

  numbers_say : (place budget : ℕ) → NumbersSay place budget set (searched (nearest_on (panel_of (sizes_of words)) set place budget))
  numbers_say place budget =
      let n : Nearest = nearest_on (panel_of (sizes_of words)) set place budget in
      let p = nearest_promised place budget in
      record {
        accepted = refl;
        marked = λ f. p.found_marked (said_yes n.is_found f);
        distance = λ f. p.found_distance (said_yes n.is_found f);
        no_pixel = λ f. let z = p.not_found_zero (said_no n.is_found f) in (z.pixel, z.distance);
        limit = p.limit;
        opened_to = p.opened_to;
        stopped = λ e. spent p.opened_to p.opened_below (said_no n.complete e);
        complete = λ e. ⊎_elim
            (λ all. inl (record { found = ap yes_no all.found; nearest = all.nearest; limit = all.limit ∙ sym (p.found_distance all.found) }))
            (λ none. inr (ap yes_no none.0, none.1)) (p.complete (said_yes n.complete e));
      }
    where
      -- opened is below the budget only when the search is complete
      spent : {opened : ℕ} {complete : Bool} → opened ≤ budget → (opened < budget → complete ≡ true) → complete ≡ false → opened ≡ budget
      spent {opened} {complete} to below e = go (dec_lt opened budget)
        where
          go : Dec (opened < budget) → opened ≡ budget
          go (yes h) = absurd (false≢true (sym e ∙ below h))
          go (no h) = omega (arith, to, h)

  module _ {x y budget : ℕ} {a : Answer} (m : NearestMeets words x y budget a) (on : HasPixelOn words x y) (some : 1 ≤ budget) where
    pub nearest_answers : a ≡ searched (nearest_on (panel_of (sizes_of words)) set (code_of x y) budget)
    nearest_answers = ((where_holds (where_holds (where_holds m holds.sound.usable) on) some).sound set holds).is

    pub nearest_says : NumbersSay (code_of x y) budget set a
    nearest_says = subst (NumbersSay (code_of x y) budget set) (sym nearest_answers) (numbers_say (code_of x y) budget)

    -- a budget of all the held blocks completes the search
    pub nearest_whole : length (blocks (tree (panel_of (sizes_of words)) (member set))) ≤ budget → a.further.complete ≡ 1
    nearest_whole all = subst (λ (b : Answer). b.further.complete ≡ 1) (sym nearest_answers) (ap yes_no ((nearest_promised (code_of x y) budget).all_held all))
