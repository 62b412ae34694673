-- A search over the register of a set: every marked pixel is among the elements of an opened block or inside a block met.
use Prim.Native.Nat.{ℕ, ◌+◌, ◌-◌, ◌^◌, ◌≤◌, ◌<◌}
use native.Mathlib.Omega.{arith}
use native.Mathlib.Decide.{dec_lt}
use mathlib.Core.Path.{◌≡◌, refl, sym, ap, subst, ◌∙◌}
use mathlib.Core.Bool.{true}
use mathlib.Core.Option.{none}
use mathlib.Core.List.{List, [], ◌∷◌, append-nil}
use lib.ListN.{length}
use Rattle.pktree.specs.Lists.{Every, total}
use Rattle.pktree.specs.Panel.{Panel, Valid}
use Rattle.pktree.specs.PixelSet.{member, PixelSet}
use Rattle.pktree.specs.Elements.{Forest, empty, pixel, block_at, size, gather}
use Rattle.pktree.specs.Tree.{BlockOf, tree, blocks, pixels}
use Rattle.pktree.proofs.Forests.{block_count, length_blocks}
use Rattle.pktree.proofs.Alignment.{aligned_root}
use Rattle.pktree.proofs.LocalLaw.{gather_is_local}
use Rattle.pktree.proofs.Arranged.{Arranged}
use Rattle.pktree.proofs.BlockNumber.{blocks_take_pixels}
use Rattle.pktree.proofs.EntryOrder.{every_join}
use Rattle.pktree.proofs.Pixels.{pixels_of_set}
use Rattle.searching.specs.Distance.{squared_distance}
use Rattle.searching.specs.Search.{block_elements, pixels_among, distance_to, Search, search, found, all_farther, is_complete, continued}
use Rattle.searching.proofs.ListLaws.{every_map, every_both, every_left}
use Rattle.searching.proofs.NearestPixel.{nothing_nearest}
use Rattle.searching.proofs.OpenedPixels.{Inside, held_by}
use Rattle.searching.proofs.TreeBlocks.{Gathered, root_gathered, pixels_no_nearer}
use Rattle.searching.proofs.Steps.{continued_keeps, Everywhere, everywhere_kept, everywhere_back, count_kept, gathered_kept}
use Rattle.searching.proofs.Budgets.{continued_further, spent}

-- nothing is among the elements of nothing
pub never : (l : List ℕ) → Every (λ q. ⊥) l → l ≡ []
never [] h = refl
never (q ∷ l) h = absurd h.0

-- no blocks are left where none are held
none_held : (l : List BlockOf) → total held_by l ≡ 0 → l ≡ []
none_held [] h = refl
none_held (b ∷ l) h = absurd (omega arith)

no_elements : (f : Forest) → size f ≡ 0 → f ≡ empty
no_elements empty h = refl
no_elements (pixel c f) h = absurd (omega arith)
no_elements (block_at u i c es f) h = absurd (omega arith)

module _ (panel : Panel) (set : List ℕ) (valid : Valid panel) (is : PixelSet panel set) (place : ℕ) where
  abbrev root : Forest
  root = gather (member set) panel.k panel.order 0

  abbrev start : Search
  start = search (block_elements (tree panel (member set))) []

  abbrev after : ℕ → Search
  after n = continued place n start

  abbrev Of : BlockOf → Type 0
  Of = Gathered panel (member set) valid

  pub gathered : (n : ℕ) → Every Of (after n).met
  gathered n =
      continued_keeps place (λ s. Every Of s.met) (gathered_kept panel (member set) valid place) n start (root_gathered panel (member set) valid)

  -- the pixels that a search has seen, and those inside the blocks that it has met, are the set
  pub covered : (P : ℕ → Type 0) (n : ℕ) → Everywhere P (after n) → Every P set
  covered P n =
      continued_keeps place (λ s. Everywhere P s → Every P set) (λ s h g. h (everywhere_back place P s g)) n start
      (λ g. rw (pixels_of_set panel set is) at (every_join P (pixels root) [] g.unseen.0 tt))

  pub holding : (P : ℕ → Type 0) (n : ℕ) → Every P set → Everywhere P (after n)
  holding P n h =
      continued_keeps place (Everywhere P) (everywhere_kept place P) n start
      (record { seen = tt; unseen = (every_left P (pixels root) [] (subst (Every P) (sym (pixels_of_set panel set is)) h), tt) })

  counted : (n : ℕ) → length (after n).opened + total held_by (after n).met ≡ length (blocks (tree panel (member set)))
  counted n =
      continued_keeps place (λ s. length s.opened + total held_by s.met ≡ length (blocks (tree panel (member set))))
      (count_kept place (length (blocks (tree panel (member set))))) n start
      (omega (arith, length_blocks (tree panel (member set))))

  -- a block that is no nearer than v has no pixel nearer than v
  pub inside : (v n : ℕ) → Every (λ b. v ≤ distance_to place b) (after n).met → Every (Inside (λ q. v ≤ squared_distance place q)) (after n).met
  inside v n h =
      every_map (λ b. Of b × (v ≤ distance_to place b)) (Inside (λ q. v ≤ squared_distance place q)) (after n).met
      (λ b g. every_map (λ q. distance_to place b ≤ squared_distance place q) (λ q. v ≤ squared_distance place q) (pixels b.elements)
      (λ q p. omega (arith, p, g.1)) (pixels_no_nearer panel (member set) valid place b g.0))
      (every_both Of (λ b. v ≤ distance_to place b) (after n).met (gathered n) h)

  -- nothing found and nothing left: nothing is marked
  pub neither : (n : ℕ) → found place (after n) ≡ none → (after n).met ≡ [] → set ≡ []
  neither n e f =
      never set
      (covered (λ q. ⊥) n
      (record {
        seen = subst (Every (λ q. ⊥)) (sym (nothing_nearest place (pixels_among (after n).opened) e)) tt;
        unseen = subst (Every (Inside (λ q. ⊥))) (sym f) tt;
      }))

  -- a budget of all the held blocks completes the search
  pub spent_all : (n : ℕ) → length (blocks (tree panel (member set))) ≤ n → is_complete place (after n) ≡ true
  spent_all n h = go (dec_lt (length (after n).opened) n)
    where
      go : Dec (length (after n).opened < n) → is_complete place (after n) ≡ true
      go (yes l) = (spent place n start).below (omega arith)
      go (no l) =
          let e : (after n).met ≡ [] = none_held (after n).met (omega (arith, counted n)) in
          subst (λ (m : List BlockOf). all_farther place (found place (after n)) m ≡ true) (sym e) refl

  -- with nothing marked the root is the only block
  pub only_root : set ≡ [] → length (blocks (tree panel (member set))) ≡ 1
  only_root e =
      let local = gather_is_local (member set) panel.k panel.order 0 valid.k_from (aligned_root panel.order) in
      let few = blocks_take_pixels (panel.k - 1) panel.order 0 (0 + 4 ^ panel.order) root
      (subst (λ (k : ℕ). Arranged k panel.order 0 (0 + 4 ^ panel.order) root) (omega (arith, valid.k_from)) local.arranged) in
      let p : pixels root ≡ [] = rw (append-nil (pixels root)) at (pixels_of_set panel set is ∙ e) in
      let r : root ≡ empty = no_elements root (omega (arith, few, ap length p)) in
      omega (arith, length_blocks (tree panel (member set)), ap block_count r)

  -- a larger budget goes on where a smaller one ended
  pub further : (n m : ℕ) → n ≤ m → continued place (m - n) (after n) ≡ after m
  further n m h = sym (continued_further place n (m - n) start) ∙ ap (λ (b : ℕ). continued place b start) (omega arith)
