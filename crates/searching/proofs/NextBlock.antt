-- The block that is opened next, and the others.
use Prim.Native.Nat.{ℕ, ◌+◌}
use native.Mathlib.Omega.{arith}
use mathlib.Core.Path.{◌≡◌, refl}
use mathlib.Core.Bool.{Bool, true, false, cond}
use mathlib.Core.List.{List, [], ◌∷◌}
use Rattle.pktree.specs.Lists.{Every, total}
use Rattle.pktree.specs.Tree.{BlockOf}
use Rattle.searching.specs.Search.{distance_to, block_precedes, next, others}
use Rattle.searching.proofs.Precedence.{NotAfter, not_after_itself, not_after_trans, precedes_true, precedes_false}

-- of two blocks one is taken and one left
both : (P : BlockOf → Type 0) (t : Bool) (b c : BlockOf) → P b → P c → P (cond t c b) × P (cond t b c)
both P true b c h g = (g, h)
both P false b c h g = (h, g)

both_back : (P : BlockOf → Type 0) (t : Bool) (b c : BlockOf) → P (cond t c b) → P (cond t b c) → P b × P c
both_back P true b c h g = (g, h)
both_back P false b c h g = (h, g)

swapped : (f : BlockOf → ℕ) (t : Bool) (b c : BlockOf) → f (cond t c b) + f (cond t b c) ≡ f b + f c
swapped f true b c = omega arith
swapped f false b c = refl

module _ (place : ℕ) where
  -- a is opened before b, or is as near and of the same code
  abbrev pub Earlier : BlockOf → BlockOf → Type 0
  Earlier a b = NotAfter (distance_to place a) a.code (distance_to place b) b.code

  pub precedes_earlier : (a b : BlockOf) → block_precedes place a b ≡ true → Earlier a b
  precedes_earlier a b h = precedes_true (distance_to place a) a.code (distance_to place b) b.code h

  pub follows_later : (a b : BlockOf) → block_precedes place a b ≡ false → Earlier b a
  follows_later a b h = precedes_false (distance_to place a) a.code (distance_to place b) b.code h

  -- of two blocks the one taken comes before the one left, and not after the first
  taken_earlier : (b c : BlockOf) → Earlier (cond (block_precedes place c b) c b) (cond (block_precedes place c b) b c)
  taken_earlier b c = go (block_precedes place c b) refl
    where
      go : (t : Bool) → block_precedes place c b ≡ t → Earlier (cond t c b) (cond t b c)
      go true e = precedes_earlier c b e
      go false e = follows_later c b e

  taken_first : (b c : BlockOf) → Earlier (cond (block_precedes place c b) c b) b
  taken_first b c = go (block_precedes place c b) refl
    where
      go : (t : Bool) → block_precedes place c b ≡ t → Earlier (cond t c b) b
      go true e = precedes_earlier c b e
      go false e = not_after_itself (distance_to place b) b.code

  next_earlier : (b : BlockOf) (l : List BlockOf) → Earlier (next place b l) b
  next_earlier b [] = not_after_itself (distance_to place b) b.code
  next_earlier b (c ∷ l) = not_after_trans (next_earlier (cond (block_precedes place c b) c b) l) (taken_first b c)

  -- the next comes before all others
  pub next_first : (b : BlockOf) (l : List BlockOf) → Every (Earlier (next place b l)) (others place b l)
  next_first b [] = tt
  next_first b (c ∷ l) =
      let n : BlockOf = cond (block_precedes place c b) c b in
      (not_after_trans (next_earlier n l) (taken_earlier b c), next_first n l)

  -- what holds of all holds of the next and of the others, and back
  pub chosen_every : (P : BlockOf → Type 0) (b : BlockOf) (l : List BlockOf) → P b → Every P l → P (next place b l) × Every P (others place b l)
  chosen_every P b [] h g = (h, tt)
  chosen_every P b (c ∷ l) h g =
      let t = both P (block_precedes place c b) b c h g.0 in
      let r = chosen_every P (cond (block_precedes place c b) c b) l t.0 g.1 in
      (r.0, (t.1, r.1))

  pub every_chosen : (P : BlockOf → Type 0) (b : BlockOf) (l : List BlockOf) → P (next place b l) → Every P (others place b l) → P b × Every P l
  every_chosen P b [] h g = (h, tt)
  every_chosen P b (c ∷ l) h g =
      let r = every_chosen P (cond (block_precedes place c b) c b) l h g.1 in
      let t = both_back P (block_precedes place c b) b c r.0 g.0 in
      (t.0, (t.1, r.1))

  pub chosen_total : (f : BlockOf → ℕ) (b : BlockOf) (l : List BlockOf) → f (next place b l) + total f (others place b l) ≡ f b + total f l
  chosen_total f b [] = refl
  chosen_total f b (c ∷ l) =
      let t : Bool = block_precedes place c b in
      omega (arith, chosen_total f (cond t c b) l, swapped f t b c)
