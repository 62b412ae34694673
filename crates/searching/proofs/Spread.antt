-- The blocks met at one time lie apart, whether or not farther ones are kept.
use Prim.Native.Nat.{ℕ, suc, ◌+◌, ◌^◌, ◌≤◌}
use native.Mathlib.Omega.{arith}
use mathlib.Core.Path.{◌≡◌, sym, subst}
use mathlib.Core.Bool.{Bool, true, false, cond}
use mathlib.Core.Logic.{◌⊎◌, inl, inr}
use mathlib.Core.List.{List, [], ◌∷◌, ◌++◌}
use Rattle.pktree.specs.Lists.{Every}
use Rattle.pktree.specs.Panel.{Panel, Valid}
use Rattle.pktree.specs.PixelSet.{member}
use Rattle.pktree.specs.Elements.{Forest, empty, pixel, block_at, gather}
use Rattle.pktree.specs.Tree.{BlockOf, block_of, tree}
use Rattle.pktree.proofs.Alignment.{pow_pos}
use Rattle.pktree.proofs.Arranged.{Arranged}
use Rattle.pktree.proofs.LocalLaw.{gather_is_local}
use Rattle.searching.specs.Search.{block_elements, block_precedes, next, others, Search, search, found}
use Rattle.searching.specs.OpeningOrder.{InOrder}
use Rattle.searching.proofs.ListLaws.{every_map, every_select, in_order_select, in_order_join}
use Rattle.searching.proofs.NextBlock.{chosen_every}
use Rattle.searching.proofs.TreeBlocks.{Gathered, Within, root_gathered, elements_within}
use Rattle.searching.proofs.Steps.{gathered_kept}
use Rattle.searching.proofs.Pruned.{is_near, keep_of, keep_next}

-- two blocks that share no position
abbrev pub Apart : BlockOf → BlockOf → Type 0
Apart a b = (a.code + 4 ^ a.level ≤ b.code) ⊎ (b.code + 4 ^ b.level ≤ a.code)

apart_turned : (a b : BlockOf) → Apart a b → Apart b a
apart_turned a b (inl h) = inr h
apart_turned a b (inr h) = inl h

pub apart_codes : (a b : BlockOf) → Apart a b → a.code ≡ b.code → ⊥
apart_codes a b (inl h) e = omega (arith, pow_pos a.level)
apart_codes a b (inr h) e = omega (arith, pow_pos b.level)

-- the elements of an arranged block lie apart
starts_after : (k n from to : ℕ) (f : Forest) → Arranged k n from to f → Every (λ b. from ≤ b.code) (block_elements f)
starts_after k n from to empty h = tt
starts_after k n from to (pixel c f) h = every_map (λ b. suc c ≤ b.code) (λ b. from ≤ b.code) (block_elements f) (λ b p. omega (arith, h.0)) (starts_after k n (suc c) to f h.1)
starts_after k n from to (block_at u i c es f) h =
    (h.0, every_map (λ b. c + 4 ^ i ≤ b.code) (λ b. from ≤ b.code) (block_elements f) (λ b p. omega (arith, h.0)) (starts_after k n (c + 4 ^ i) to f h.7))

elements_apart : (k n from to : ℕ) (f : Forest) → Arranged k n from to f → InOrder Apart (block_elements f)
elements_apart k n from to empty h = tt
elements_apart k n from to (pixel c f) h = elements_apart k n (suc c) to f h.1
elements_apart k n from to (block_at u i c es f) h =
    (every_map (λ b. c + 4 ^ i ≤ b.code) (Apart (block_of i c es)) (block_elements f) (λ b p. inl p) (starts_after k n (c + 4 ^ i) to f h.7), elements_apart k n (c + 4 ^ i) to f h.7)

-- the next lies apart from the others, and these from each other
pub chosen_apart : (place : ℕ) (b : BlockOf) (l : List BlockOf) → InOrder Apart (b ∷ l) → Every (Apart (next place b l)) (others place b l) × InOrder Apart (others place b l)
chosen_apart place b [] h = (tt, tt)
chosen_apart place b (c ∷ l) h = go (block_precedes place c b) (chosen_apart place c l) (chosen_apart place b l)
  where
    go : (t : Bool) → (InOrder Apart (c ∷ l) → Every (Apart (next place c l)) (others place c l) × InOrder Apart (others place c l))
        → (InOrder Apart (b ∷ l) → Every (Apart (next place b l)) (others place b l) × InOrder Apart (others place b l))
        → Every (Apart (next place (cond t c b) l)) (cond t b c ∷ others place (cond t c b) l) × InOrder Apart (cond t b c ∷ others place (cond t c b) l)
    go true ih ih' =
        let r = ih h.1 in
        let s = chosen_every place (Apart b) c l h.0.0 h.0.1 in
        ((apart_turned b (next place c l) s.0, r.0), (s.1, r.1))
    go false ih ih' =
        let r = ih' (h.0.1, h.1.1) in
        let s = chosen_every place (Apart c) b l (apart_turned b c h.0.0) h.1.0 in
        ((apart_turned c (next place b l) s.0, r.0), (s.1, r.1))

module _ (panel : Panel) (set : List ℕ) (valid : Valid panel) (place : ℕ) where
  abbrev Of : BlockOf → Type 0
  Of = Gathered panel (member set) valid

  gathered_apart : (b : BlockOf) → Of b → InOrder Apart (block_elements b.elements)
  gathered_apart b h =
      subst (λ (f : Forest). InOrder Apart (block_elements f)) (sym h.gathered)
      (elements_apart panel.k b.level b.code (b.code + 4 ^ b.level) (gather (member set) panel.k b.level b.code)
      (gather_is_local (member set) panel.k b.level b.code valid.k_from h.of_panel.aligned).arranged)

  within_apart : (b c d : BlockOf) → Within panel (member set) valid b c → Apart b d → Apart c d
  within_apart b c d w (inl h) = inl (omega (arith, w.ends))
  within_apart b c d w (inr h) = inr (omega (arith, w.starts))

  -- blocks of the tree that lie apart
  pub record Spread (met : List BlockOf) : Type 0 where
    pub gathered : Every (Gathered panel (member set) valid) met
    pub apart : InOrder Apart met

  pub spread_start : Spread (block_elements (tree panel (member set)))
  spread_start = record { gathered = root_gathered panel (member set) valid; apart = (tt, tt) }

  -- one block opened, and all its elements that are blocks met
  pub spread_opened : (b : BlockOf) (l : List BlockOf) → Spread (b ∷ l) → Spread (block_elements (next place b l).elements ++ others place b l)
  spread_opened b l h =
      let n : BlockOf = next place b l in
      let inner : List BlockOf = block_elements n.elements in
      let of : Of n = (chosen_every place Of b l h.gathered.0 h.gathered.1).0 in
      let rest = chosen_apart place b l h.apart in
      record {
        gathered = gathered_kept panel (member set) valid place (search (b ∷ l) []) h.gathered;
        apart = in_order_join Apart inner (others place b l) (gathered_apart n of) rest.1
            (every_map (Within panel (member set) valid n) (λ c. Every (Apart c) (others place b l)) inner
            (λ c w. every_map (Apart n) (Apart c) (others place b l) (λ d p. within_apart n c d w p) rest.0) (elements_within panel (member set) valid n of));
      }

  spread_of : (met opened : List BlockOf) → Spread met → Spread (keep_of place met opened).met
  spread_of [] opened h = h
  spread_of (b ∷ l) opened h =
      let n : BlockOf = next place b l in
      let near : BlockOf → Bool = is_near place (found place (search [] (opened ++ (n ∷ [])))) in
      let all = spread_opened b l h in
      record {
        gathered = every_select Of near (block_elements n.elements) (others place b l) all.gathered;
        apart = in_order_select Apart near (block_elements n.elements) (others place b l) all.apart;
      }

  pub spread_kept : (s : Search) → Spread s.met → Spread (keep_next place s).met
  spread_kept s h = spread_of s.met s.opened h
