-- The blocks that are not farther than the pixel found: they alone tell completeness, limit and the block that is opened next.
use Prim.Native.Nat.{ℕ, min, ◌≤◌}
use native.Mathlib.Omega.{arith}
use mathlib.Core.Path.{◌≡◌, refl}
use mathlib.Core.Bool.{Bool, true, false, not, ◌&&◌, cond, false≢true}
use mathlib.Core.Option.{Option, none, some}
use mathlib.Core.List.{List, [], ◌∷◌}
use borrow.Author.Tests.{not-true}
use Rattle.pktree.specs.Lists.{select}
use Rattle.pktree.specs.Tree.{BlockOf}
use Rattle.pktree.proofs.Absurd.{false_unless}
use Rattle.searching.specs.Distance.{squared_distance}
use Rattle.searching.specs.Search.{distance_to, block_precedes, nearest_of, next, others, is_farther, all_farther}
use Rattle.searching.specs.Nearest.{least_distance, limit_of}
use Rattle.searching.proofs.NearestPixel.{nearest_from}
use Rattle.searching.proofs.NextBlock.{precedes_earlier, follows_later}
use Rattle.searching.proofs.Completion.{is_farther_lem, not_farther}

module _ (place : ℕ) where
  -- not farther than the pixel found, if any
  abbrev pub is_near : Option ℕ → BlockOf → Bool
  is_near o b = not (is_farther place o b)

  -- blocks that are farther than the pixel found tell nothing of completeness and of the limit
  pub farther_near : (o : Option ℕ) (l : List BlockOf) → all_farther place o (select (is_near o) l) ≡ all_farther place o l
  farther_near o [] = refl
  farther_near o (b ∷ l) = go (is_farther place o b) refl (farther_near o l)
    where
      go : (t : Bool) → is_farther place o b ≡ t → all_farther place o (select (is_near o) l) ≡ all_farther place o l
          → all_farther place o (cond (not t) (b ∷ select (is_near o) l) (select (is_near o) l)) ≡ (t && all_farther place o l)
      go true e ih = ih
      go false e ih = rw e

  least_near : (p n : ℕ) (l : List BlockOf) → n ≤ squared_distance place p → least_distance place n (select (is_near (some p)) l) ≡ least_distance place n l
  least_near p n [] h = refl
  least_near p n (b ∷ l) h = go (is_farther place (some p) b) refl (λ m. least_near p m l)
    where
      go : (t : Bool) → is_farther place (some p) b ≡ t
          → ((m : ℕ) → m ≤ squared_distance place p → least_distance place m (select (is_near (some p)) l) ≡ least_distance place m l)
          → least_distance place n (cond (not t) (b ∷ select (is_near (some p)) l) (select (is_near (some p)) l)) ≡ least_distance place (min n (distance_to place b)) l
      go true e ih = let same : min n (distance_to place b) ≡ n = omega (arith, is_farther_lem place p b e) in rw same (ih n h)
      go false e ih = ih (min n (distance_to place b)) (omega arith)

  all_near : (l : List BlockOf) → select (is_near none) l ≡ l
  all_near [] = refl
  all_near (b ∷ l) = rw (all_near l)

  pub limit_near : (o : Option ℕ) (l : List BlockOf) → limit_of place o (select (is_near o) l) ≡ limit_of place o l
  limit_near none l = rw (all_near l)
  limit_near (some p) l = omega (arith, least_near p (squared_distance place p) l (omega arith))

  -- of a near block and a farther one the near one is opened first
  near_first : (o : Option ℕ) (a b : BlockOf) → is_farther place o a ≡ false → is_farther place o b ≡ true → block_precedes place a b ≡ true
  near_first none a b h g = absurd (false≢true g)
  near_first (some p) a b h g = go (block_precedes place a b) refl
    where
      go : (t : Bool) → block_precedes place a b ≡ t → t ≡ true
      go true e = refl
      go false e = absurd (omega (arith, not_farther place p a h, is_farther_lem place p b g, (follows_later place a b e).no_farther))

  farther_later : (o : Option ℕ) (a b : BlockOf) → is_farther place o a ≡ false → is_farther place o b ≡ true → block_precedes place b a ≡ false
  farther_later none a b h g = absurd (false≢true g)
  farther_later (some p) a b h g =
      false_unless (block_precedes place b a) (λ e. omega (arith, not_farther place p a h, is_farther_lem place p b g, (precedes_earlier place b a e).no_farther))

  -- the next block, and of the others those that are near, are those of the near blocks alone
  pub record SameNext (o : Option ℕ) (b : BlockOf) (l : List BlockOf) (c : BlockOf) (m : List BlockOf) : Type 0 where
    pub first : next place b l ≡ next place c m
    pub rest : select (is_near o) (others place b l) ≡ others place c m

  abbrev pub NextAmong : Option ℕ → BlockOf → List BlockOf → List BlockOf → Type 0
  NextAmong o b l [] = Unit {0}
  NextAmong o b l (c ∷ m) = SameNext o b l c m

  either : (o : Option ℕ) (u t : Bool) (b c : BlockOf) → is_farther place o b ≡ t → is_farther place o c ≡ t → is_farther place o (cond u b c) ≡ t
  either o true t b c h g = h
  either o false t b c h g = g

  from_near : (o : Option ℕ) (b : BlockOf) (l : List BlockOf) → is_farther place o b ≡ false → SameNext o b l b (select (is_near o) l)
  from_near o b [] h = record { first = refl; rest = refl }
  from_near o b (c ∷ l) h = go (is_farther place o c) refl (λ d. from_near o d l)
    where
      u : Bool
      u = block_precedes place c b

      go : (t : Bool) → is_farther place o c ≡ t → ((d : BlockOf) → is_farther place o d ≡ false → SameNext o d l d (select (is_near o) l))
          → SameNext o b (c ∷ l) b (cond (not t) (c ∷ select (is_near o) l) (select (is_near o) l))
      go true e ih =
          let r = ih b h in
          let later = farther_later o b c h e in
          record { first = rw later r.first; rest = rw (later, e) r.rest }
      go false e ih =
          let r = ih (cond u c b) (either o u false c b e h) in
          record { first = r.first; rest = rw (either o u false b c h e) (rw r.rest) }

  from_farther : (o : Option ℕ) (b : BlockOf) (l : List BlockOf) → is_farther place o b ≡ true → NextAmong o b l (select (is_near o) l)
  from_farther o b [] h = tt
  from_farther o b (c ∷ l) h = go (is_farther place o c) refl (λ d. from_farther o d l)
    where
      u : Bool
      u = block_precedes place c b

      on : (k : List BlockOf) → is_farther place o c ≡ true → NextAmong o (cond u c b) l k → NextAmong o b (c ∷ l) k
      on [] e r = tt
      on (d ∷ m) e r = record { first = r.first; rest = rw (either o u true b c h e) r.rest }

      go : (t : Bool) → is_farther place o c ≡ t → ((d : BlockOf) → is_farther place o d ≡ true → NextAmong o d l (select (is_near o) l))
          → NextAmong o b (c ∷ l) (cond (not t) (c ∷ select (is_near o) l) (select (is_near o) l))
      go true e ih = on (select (is_near o) l) e (ih (cond u c b) (either o u true c b e h))
      go false e ih =
          let r = from_near o c l e in
          let earlier = near_first o c b e h in
          record { first = rw earlier r.first; rest = rw (earlier, h) r.rest }

  pub next_among : (o : Option ℕ) (b : BlockOf) (l : List BlockOf) → NextAmong o b l (select (is_near o) (b ∷ l))
  next_among o b l = go (is_farther place o b) refl
    where
      go : (t : Bool) → is_farther place o b ≡ t → NextAmong o b l (cond (not t) (b ∷ select (is_near o) l) (select (is_near o) l))
      go true e = from_farther o b l e
      go false e = from_near o b l e

  -- a block that is near by a pixel found later was near before
  pub near_before : (o : Option ℕ) (more : List ℕ) (b : BlockOf) → is_near (nearest_of place o more) b ≡ true → is_near o b ≡ true
  near_before none more b h = refl
  near_before (some p) more b h = go (is_farther place (some p) b) refl
    where
      go : (t : Bool) → is_farther place (some p) b ≡ t → not t ≡ true
      go true e =
          let n = nearest_from place p more in
          let g : is_near (some n.pixel) b ≡ true = rw n.is at h in
          let near = not_farther place n.pixel b (not-true (is_farther place (some n.pixel) b) g) in
          absurd (omega (arith, near, n.first_old.no_farther, is_farther_lem place p b e))
      go false e = refl
