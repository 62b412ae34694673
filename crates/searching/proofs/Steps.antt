-- What one opened block keeps, and so every search.
use Prim.Native.Nat.{ℕ, zero, suc, ◌+◌, ◌≤◌}
use native.Mathlib.Omega.{arith}
use mathlib.Core.Path.{◌≡◌, refl, ◌∙◌}
use mathlib.Core.Bool.{Bool, true, false, cond}
use mathlib.Core.Option.{Option, none, some}
use mathlib.Core.List.{List, [], ◌∷◌, ◌++◌}
use lib.ListN.{length, length-append}
use Rattle.pktree.specs.Lists.{Every, total}
use Rattle.pktree.specs.Panel.{Panel, Valid}
use Rattle.pktree.specs.Tree.{BlockOf, pixels}
use Rattle.pktree.proofs.EntryOrder.{every_join}
use Rattle.pktree.proofs.WindowParts.{total_join}
use Rattle.searching.specs.Distance.{squared_distance}
use Rattle.searching.specs.Search.{pixel_elements, block_elements, pixels_among, distance_to, nearest_of, next, others, Search, open_of, open_next, found, is_complete, continued}
use Rattle.searching.proofs.ListLaws.{every_map, every_left, every_right}
use Rattle.searching.proofs.NearestPixel.{nearest_from, nearest_append}
use Rattle.searching.proofs.NextBlock.{chosen_every, every_chosen, chosen_total}
use Rattle.searching.proofs.OpenedPixels.{Inside, pixels_split, pixels_joined, among_end, held_by, held_elements}
use Rattle.searching.proofs.TreeBlocks.{Gathered, Within, elements_within, pixels_no_nearer, inside_no_nearer}

-- of every pixel among the elements of opened blocks, and of every pixel inside a block met
pub record Everywhere (P : ℕ → Type 0) (s : Search) : Type 0 where
  pub seen : Every P (pixels_among s.opened)
  pub unseen : Every (Inside P) s.met

among_opened : (P : ℕ → Type 0) (opened : List BlockOf) (b : BlockOf) → Every P (pixels_among opened) → Every P (pixel_elements b.elements)
    → Every P (pixels_among (opened ++ (b ∷ [])))
among_opened P opened b h g =
    rw (among_end opened b) (every_join P (pixels_among opened) (pixel_elements b.elements) h g)

opened_among : (P : ℕ → Type 0) (opened : List BlockOf) (b : BlockOf) → Every P (pixels_among (opened ++ (b ∷ [])))
    → Every P (pixels_among opened) × Every P (pixel_elements b.elements)
opened_among P opened b h =
    let e : Every P (pixels_among opened ++ pixel_elements b.elements) = rw (among_end opened b) at h in
    (every_left P (pixels_among opened) (pixel_elements b.elements) e, every_right P (pixels_among opened) (pixel_elements b.elements) e)

module _ (place : ℕ) where
  -- what each opened block keeps, a search keeps
  pub continued_keeps : (Q : Search → Type 0) → ((s : Search) → Q s → Q (open_next place s)) → (n : ℕ) (s : Search) → Q s → Q (continued place n s)
  unfolding continued
  continued_keeps Q keeps zero s h = h
  continued_keeps Q keeps (suc n) s h = go (is_complete place s) (continued_keeps Q keeps n (open_next place s) (keeps s h))
    where
      go : (t : Bool) → Q (continued place n (open_next place s)) → Q (cond t s (continued place n (open_next place s)))
      go true g = h
      go false g = g

  -- an opened block hides no pixel
  everywhere_before : (P : ℕ → Type 0) (met opened : List BlockOf) → Everywhere P (open_of place met opened) → Every P (pixels_among opened) × Every (Inside P) met
  everywhere_before P [] opened h = (h.seen, tt)
  everywhere_before P (b ∷ l) opened h =
      let n : BlockOf = next place b l in
      let e = opened_among P opened n h.seen in
      let inner = every_left (Inside P) (block_elements n.elements) (others place b l) h.unseen in
      let rest = every_right (Inside P) (block_elements n.elements) (others place b l) h.unseen in
      let t = every_chosen place (Inside P) b l (pixels_joined P n.elements e.1 inner) rest in
      (e.0, (t.0, t.1))

  pub everywhere_back : (P : ℕ → Type 0) (s : Search) → Everywhere P (open_next place s) → Everywhere P s
  everywhere_back P s h = let e = everywhere_before P s.met s.opened h in record { seen = e.0; unseen = e.1 }

  -- and brings no new one
  everywhere_opened : (P : ℕ → Type 0) (met opened : List BlockOf) → Every P (pixels_among opened) → Every (Inside P) met → Everywhere P (open_of place met opened)
  everywhere_opened P [] opened h g = record { seen = h; unseen = tt }
  everywhere_opened P (b ∷ l) opened h g =
      let n : BlockOf = next place b l in
      let t = chosen_every place (Inside P) b l g.0 g.1 in
      let e = pixels_split P n.elements t.0 in
      record {
        seen = among_opened P opened n h e.0;
        unseen = every_join (Inside P) (block_elements n.elements) (others place b l) e.1 t.1;
      }

  pub everywhere_kept : (P : ℕ → Type 0) (s : Search) → Everywhere P s → Everywhere P (open_next place s)
  everywhere_kept P s h = everywhere_opened P s.met s.opened h.seen h.unseen

  -- opened blocks and blocks still held by those met are always as many
  count_opened : (met opened : List BlockOf)
      → length (open_of place met opened).opened + total held_by (open_of place met opened).met ≡ length opened + total held_by met
  count_opened [] opened = refl
  count_opened (b ∷ l) opened =
      let n : BlockOf = next place b l in
      omega (arith, length-append opened (n ∷ []), total_join held_by (block_elements n.elements) (others place b l), held_elements n.elements, chosen_total place held_by b l)

  pub count_kept : (number : ℕ) (s : Search) → length s.opened + total held_by s.met ≡ number
      → length (open_next place s).opened + total held_by (open_next place s).met ≡ number
  count_kept number s h = count_opened s.met s.opened ∙ h

  -- the nearest pixel found, after one block more
  pub found_end : (opened : List BlockOf) (b : BlockOf)
      → nearest_of place none (pixels_among (opened ++ (b ∷ []))) ≡ nearest_of place (nearest_of place none (pixels_among opened)) (pixel_elements b.elements)
  found_end opened b = rw (among_end opened b) (nearest_append place none (pixels_among opened) (pixel_elements b.elements))

  -- a pixel found stays, or makes way for one that is no farther
  pub record FoundWithin (distance : ℕ) (o : Option ℕ) : Type 0 where
    pub pixel : ℕ
    pub is : o ≡ some pixel
    pub near : squared_distance place pixel ≤ distance

  within_more : (distance : ℕ) (o : Option ℕ) (l : List ℕ) → FoundWithin distance o → FoundWithin distance (nearest_of place o l)
  within_more distance o l h =
      let n = nearest_from place h.pixel l in
      rw h.is (record { pixel = n.pixel; is = n.is; near = omega (arith, n.first_old.no_farther, h.near) })

  within_opened : (distance : ℕ) (met opened : List BlockOf) → FoundWithin distance (nearest_of place none (pixels_among opened))
      → FoundWithin distance (nearest_of place none (pixels_among (open_of place met opened).opened))
  within_opened distance [] opened h = h
  within_opened distance (b ∷ l) opened h =
      let n : BlockOf = next place b l in
      rw (found_end opened n) (within_more distance (nearest_of place none (pixels_among opened)) (pixel_elements n.elements) h)

  pub within_kept : (distance : ℕ) (s : Search) → FoundWithin distance (found place s) → FoundWithin distance (found place (open_next place s))
  within_kept distance s h = within_opened distance s.met s.opened h

-- over the tree of a set
module _ (panel : Panel) (marked : ℕ → Bool) (valid : Valid panel) (place : ℕ) where
  abbrev Of : BlockOf → Type 0
  Of = Gathered panel marked valid

  gathered_opened : (met opened : List BlockOf) → Every Of met → Every Of (open_of place met opened).met
  gathered_opened [] opened h = tt
  gathered_opened (b ∷ l) opened h =
      let n : BlockOf = next place b l in
      let t = chosen_every place Of b l h.0 h.1 in
      every_join Of (block_elements n.elements) (others place b l)
      (every_map (Within panel marked valid n) Of (block_elements n.elements) (λ c w. w.is) (elements_within panel marked valid n t.0))
      t.1

  pub gathered_kept : (s : Search) → Every Of s.met → Every Of (open_next place s).met
  gathered_kept s h = gathered_opened s.met s.opened h

  -- a number that exceeds no distance of a pixel seen or of a block met
  pub record AtLeast (v : ℕ) (s : Search) : Type 0 where
    pub gathered : Every Of s.met
    pub seen : Every (λ q. v ≤ squared_distance place q) (pixels_among s.opened)
    pub unseen : Every (λ b. v ≤ distance_to place b) s.met

  at_least_opened : (v : ℕ) (met opened : List BlockOf) → Every Of met → Every (λ q. v ≤ squared_distance place q) (pixels_among opened)
      → Every (λ b. v ≤ distance_to place b) met → AtLeast v (open_of place met opened)
  at_least_opened v [] opened h g u = record { gathered = tt; seen = g; unseen = tt }
  at_least_opened v (b ∷ l) opened h g u =
      let n : BlockOf = next place b l in
      let t = chosen_every place Of b l h.0 h.1 in
      let d = chosen_every place (λ b. v ≤ distance_to place b) b l u.0 u.1 in
      let far : Every (λ q. v ≤ squared_distance place q) (pixels n.elements) =
      every_map (λ q. distance_to place n ≤ squared_distance place q) (λ q. v ≤ squared_distance place q) (pixels n.elements)
      (λ q p. omega (arith, p, d.0)) (pixels_no_nearer panel marked valid place n t.0) in
      let inner : Every (λ b. v ≤ distance_to place b) (block_elements n.elements) =
      every_map (Within panel marked valid n) (λ b. v ≤ distance_to place b) (block_elements n.elements)
      (λ c w. omega (arith, d.0, inside_no_nearer panel marked valid place n c t.0 w)) (elements_within panel marked valid n t.0) in
      record {
        gathered = gathered_opened (b ∷ l) opened h;
        seen = among_opened (λ q. v ≤ squared_distance place q) opened n g (pixels_split (λ q. v ≤ squared_distance place q) n.elements far).0;
        unseen = every_join (λ b. v ≤ distance_to place b) (block_elements n.elements) (others place b l) inner d.1;
      }

  pub at_least_kept : (v : ℕ) (s : Search) → AtLeast v s → AtLeast v (open_next place s)
  at_least_kept v s h = at_least_opened v s.met s.opened h.gathered h.seen h.unseen
