-- Blocks are opened in one order, which no search is needed to tell: a block inside another comes after it, and blocks met at one time
-- lie apart.
use Prim.Native.Nat.{ℕ}
use native.Mathlib.Omega.{arith}
use mathlib.Core.Path.{◌≡◌}
use mathlib.Core.Logic.{◌⊎◌, inl, inr}
use mathlib.Core.List.{List, [], ◌∷◌, ◌++◌, Memᴰ}
use Rattle.pktree.specs.Lists.{Every}
use Rattle.pktree.specs.Panel.{Panel, Valid}
use Rattle.pktree.specs.PixelSet.{member}
use Rattle.pktree.specs.Elements.{Forest, empty, pixel, block_at}
use Rattle.pktree.specs.Tree.{BlockOf, tree, blocks}
use Rattle.pktree.proofs.EntryOrder.{every_join}
use Rattle.searching.specs.Search.{block_elements, distance_to, next, others, Search, search, open_of, open_next, searched}
use Rattle.searching.specs.NearestPromises.{opened_blocks, unopened_blocks}
use Rattle.searching.specs.OpeningOrder.{Sooner, InOrder, OpeningOrder}
use Rattle.searching.proofs.ListLaws.{every_map, every_both, every_left, every_right, every_of_all, in_order_join}
use Rattle.searching.proofs.NextBlock.{Earlier, next_first, chosen_every, every_chosen}
use Rattle.searching.proofs.TreeBlocks.{Gathered, Within, inside_within, elements_within, inside_no_nearer}
use Rattle.searching.proofs.Steps.{continued_keeps}
use Rattle.searching.proofs.Spread.{Apart, apart_codes, chosen_apart, Spread, spread_start, spread_opened}

-- a block and all inside it
abbrev Throughout : (BlockOf → Type 0) → BlockOf → Type 0
Throughout P b = P b × Every P (blocks b.elements)

blocks_joined : (P : BlockOf → Type 0) (f : Forest) → Every (Throughout P) (block_elements f) → Every P (blocks f)
blocks_joined P empty h = tt
blocks_joined P (pixel c f) h = blocks_joined P f h
blocks_joined P (block_at u i c es f) h = (h.0.0, every_join P (blocks es) (blocks f) h.0.1 (blocks_joined P f h.1))

-- every block of the tree is opened or inside a block met
record EveryBlock (P : BlockOf → Type 0) (s : Search) : Type 0 where
  opened : Every P s.opened
  met : Every (Throughout P) s.met

module _ (place : ℕ) where
  sooner_trans : (a b c : BlockOf) → Sooner place a b → Sooner place b c → Sooner place a c
  sooner_trans a b c p q =
      record {
        no_farther = omega (arith, p.no_farther, q.no_farther);
        no_higher = λ e. omega (arith, p.no_higher (first e), q.no_higher (second e));
        larger = λ e f.
            let u : a.code ≡ b.code = omega (arith, p.no_higher (first e), q.no_higher (second e)) in
            let v : b.code ≡ c.code = omega (arith, p.no_higher (first e), q.no_higher (second e)) in
            omega (arith, p.larger (first e) u, q.larger (second e) v);
      }
    where
      first : distance_to place a ≡ distance_to place c → distance_to place a ≡ distance_to place b
      first e = omega (arith, p.no_farther, q.no_farther)

      second : distance_to place a ≡ distance_to place c → distance_to place b ≡ distance_to place c
      second e = omega (arith, p.no_farther, q.no_farther)

  every_block_before : (P : BlockOf → Type 0) (met opened : List BlockOf) → EveryBlock P (open_of place met opened) → Every P opened × Every (Throughout P) met
  every_block_before P [] opened h = (h.opened, tt)
  every_block_before P (b ∷ l) opened h =
      let n : BlockOf = next place b l in
      let inner : List BlockOf = block_elements n.elements in
      let p = (every_right P opened (n ∷ []) h.opened).0 in
      let all = blocks_joined P n.elements (every_left (Throughout P) inner (others place b l) h.met) in
      let r = every_chosen place (Throughout P) b l (p, all) (every_right (Throughout P) inner (others place b l) h.met) in
      (every_left P opened (n ∷ []) h.opened, (r.0, r.1))

  every_block_back : (P : BlockOf → Type 0) (s : Search) → EveryBlock P (open_next place s) → EveryBlock P s
  every_block_back P s h = let r = every_block_before P s.met s.opened h in record { opened = r.0; met = r.1 }

module _ (panel : Panel) (set : List ℕ) (valid : Valid panel) (place : ℕ) where
  abbrev Of : BlockOf → Type 0
  Of = Gathered panel (member set) valid

  -- what is inside a block comes after it
  inside_later : (b c : BlockOf) → Of b → Within panel (member set) valid b c → Sooner place b c
  inside_later b c h w =
      record { no_farther = inside_no_nearer panel (member set) valid place b c h w; no_higher = λ e. w.starts; larger = λ e f. w.lower }

  apart_later : (b c : BlockOf) → Earlier place b c → Apart b c → Sooner place b c
  apart_later b c h a = record { no_farther = h.no_farther; no_higher = h.no_higher; larger = λ e f. absurd (apart_codes b c a f) }

  record Ordered (s : Search) : Type 0 where
    spread : Spread panel set valid place s.met
    sorted : InOrder (Sooner place) s.opened
    later : Every (λ a. Every (Sooner place a) s.met) s.opened

  ordered_opened : (met opened : List BlockOf) → Spread panel set valid place met → InOrder (Sooner place) opened
      → Every (λ a. Every (Sooner place a) met) opened → Ordered (open_of place met opened)
  ordered_opened [] opened h s l = record { spread = h; sorted = s; later = l }
  ordered_opened (b ∷ r) opened h s l =
      let n : BlockOf = next place b r in
      let inner : List BlockOf = block_elements n.elements in
      let of : Of n = (chosen_every place Of b r h.gathered.0 h.gathered.1).0 in
      let after : Every (Sooner place n) (inner ++ others place b r) =
      every_join (Sooner place n) inner (others place b r)
      (every_map (Within panel (member set) valid n) (Sooner place n) inner (λ c w. inside_later n c of w) (elements_within panel (member set) valid n of))
      (every_map (λ c. Earlier place n c × Apart n c) (Sooner place n) (others place b r) (λ c p. apart_later n c p.0 p.1)
      (every_both (Earlier place n) (Apart n) (others place b r) (next_first place b r) (chosen_apart place b r h.apart).0)) in
      let before : Every (λ a. Sooner place a n) opened =
      every_map (λ a. Every (Sooner place a) (b ∷ r)) (λ a. Sooner place a n) opened (λ a p. (chosen_every place (Sooner place a) b r p.0 p.1).0) l in
      record {
        spread = spread_opened panel set valid place b r h;
        sorted = in_order_join (Sooner place) opened (n ∷ []) s (tt, tt)
            (every_map (λ a. Sooner place a n) (λ a. Every (Sooner place a) (n ∷ [])) opened (λ a p. (p, tt)) before);
        later = every_join (λ a. Every (Sooner place a) (inner ++ others place b r)) opened (n ∷ [])
            (every_map (λ a. Sooner place a n) (λ a. Every (Sooner place a) (inner ++ others place b r)) opened
            (λ a p. every_map (Sooner place n) (Sooner place a) (inner ++ others place b r) (λ c q. sooner_trans place a n c p q) after)
            before)
            (after, tt);
      }

  ordered : (n : ℕ) → Ordered (searched (tree panel (member set)) place n)
  ordered n =
      continued_keeps place Ordered (λ s o. ordered_opened s.met s.opened o.spread o.sorted o.later) n
      (search (block_elements (tree panel (member set))) []) (record { spread = spread_start panel set valid place; sorted = tt; later = tt })

  every_block : (P : BlockOf → Type 0) (n : ℕ) → EveryBlock P (searched (tree panel (member set)) place n) → Every P (blocks (tree panel (member set)))
  every_block P n =
      continued_keeps place (λ s. EveryBlock P s → Every P (blocks (tree panel (member set)))) (λ s h g. h (every_block_back place P s g)) n
      (search (block_elements (tree panel (member set))) []) (λ g. blocks_joined P (tree panel (member set)) (g.met.0, tt))

  turn : (l r : List BlockOf) → Every (λ a. Every (Sooner place a) r) l → Every (λ b. Every (λ a. Sooner place a b) l) r
  turn [] r h = every_of_all (λ b. Unit {0}) r (λ b m. tt)
  turn (a ∷ l) r h = every_both (Sooner place a) (λ b. Every (λ a. Sooner place a b) l) r h.0 (turn l r h.1)

  pub opening_order : OpeningOrder panel set place
  opening_order =
      record {
        in_order = λ n. (ordered n).sorted;
        first = λ n.
            let opened : List BlockOf = opened_blocks panel set place n in
            let met : List BlockOf = unopened_blocks panel set place n in
            every_block (λ b. Memᴰ b opened ⊎ Every (λ a. Sooner place a b) opened) n
            (record {
              opened = every_of_all (λ b. Memᴰ b opened ⊎ Every (λ a. Sooner place a b) opened) opened (λ b m. inl m);
              met = every_map (λ b. Of b × Every (λ a. Sooner place a b) opened) (Throughout (λ b. Memᴰ b opened ⊎ Every (λ a. Sooner place a b) opened)) met
                  (λ b p. (
                    inr p.1,
                    every_map (Within panel (member set) valid b) (λ c. Memᴰ c opened ⊎ Every (λ a. Sooner place a c) opened) (blocks b.elements)
                        (λ c w. inr (every_map (λ a. Sooner place a b) (λ a. Sooner place a c) opened (λ a q. sooner_trans place a b c q (inside_later b c p.0 w)) p.1))
                        (inside_within panel (member set) valid b p.0),
                  ))
                  (every_both Of (λ b. Every (λ a. Sooner place a b) opened) met (ordered n).spread.gathered (turn opened met (ordered n).later));
            });
      }
