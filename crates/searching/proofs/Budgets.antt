-- How many blocks a search opens, and what a larger budget adds.
use Prim.Native.Nat.{ℕ, zero, suc, ◌+◌, ◌≤◌, ◌<◌}
use native.Mathlib.Omega.{arith}
use native.Mathlib.Nat.{suc-add, zero-add}
use mathlib.Core.Path.{◌≡◌, refl, sym}
use mathlib.Core.Bool.{Bool, true, false, cond, false≢true}
use mathlib.Core.Option.{Option}
use mathlib.Core.List.{List, [], ◌∷◌}
use lib.ListN.{length, length-append}
use Rattle.pktree.specs.Tree.{BlockOf}
use Rattle.searching.specs.Search.{next, Search, open_of, open_next, found, all_farther, is_complete, continued}

module _ (place : ℕ) where
  pub complete_stays : (n : ℕ) (s : Search) → is_complete place s ≡ true → continued place n s ≡ s
  unfolding continued
  complete_stays zero s h = refl
  complete_stays (suc n) s h = rw h

  pub none_left : (s : Search) → continued place 0 s ≡ s
  unfolding continued
  none_left s = refl

  pub goes_on_lem : (n : ℕ) (s : Search) → is_complete place s ≡ false → continued place (suc n) s ≡ continued place n (open_next place s)
  unfolding continued
  goes_on_lem n s h = rw h

  -- a larger budget goes on where a smaller one ended
  pub continued_further : (n m : ℕ) (s : Search) → continued place (n + m) s ≡ continued place m (continued place n s)
  unfolding continued
  continued_further zero m s = rw (zero-add m)
  continued_further (suc n) m s = rw (suc-add n m) (go (is_complete place s) refl (continued_further n m (open_next place s)))
    where
      go : (t : Bool) → is_complete place s ≡ t → continued place (n + m) (open_next place s) ≡ continued place m (continued place n (open_next place s))
          → continued place (suc (n + m)) s ≡ continued place m (continued place (suc n) s)
      go true h e = rw (complete_stays (suc n) s h, complete_stays m s h, complete_stays (suc (n + m)) s h)
      go false h e = rw (goes_on_lem (n + m) s h, goes_on_lem n s h) e

  opens_one : (met opened : List BlockOf) (o : Option ℕ) → all_farther place o met ≡ false → length (open_of place met opened).opened ≡ suc (length opened)
  opens_one [] opened o h = absurd (false≢true (sym h))
  opens_one (b ∷ l) opened o h = omega (arith, length-append opened (next place b l ∷ []))

  -- at most the budget, and less only if the search is complete
  pub record Spent (n : ℕ) (s later : Search) : Type 0 where
    pub to : length later.opened ≤ length s.opened + n
    pub below : length later.opened < length s.opened + n → is_complete place later ≡ true

  pub spent : (n : ℕ) (s : Search) → Spent n s (continued place n s)
  unfolding continued
  spent zero s = record { to = omega arith; below = λ h. absurd (omega arith) }
  spent (suc n) s = go (is_complete place s) refl (spent n (open_next place s))
    where
      go : (t : Bool) → is_complete place s ≡ t → Spent n (open_next place s) (continued place n (open_next place s))
          → Spent (suc n) s (cond t s (continued place n (open_next place s)))
      go true h r = record { to = omega arith; below = λ l. h }
      go false h r =
          let one = opens_one s.met s.opened (found place s) h in
          record { to = omega (arith, one, r.to); below = λ l. r.below (omega (arith, one)) }
