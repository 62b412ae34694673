-- The blocks of a set's tree: where they and their pixels lie, and so how far they are.
use Prim.Native.Nat.{ℕ, zero, suc, ◌+◌, ◌^◌, ◌≤◌, ◌<◌}
use native.Mathlib.Omega.{arith}
use mathlib.Core.Path.{◌≡◌, refl, sym, subst}
use mathlib.Core.Bool.{Bool, true, false}
use mathlib.Core.List.{List, Memᴰ}
use Rattle.pktree.specs.Lists.{Every}
use Rattle.pktree.specs.Panel.{Panel, Valid, Block}
use Rattle.pktree.specs.Elements.{Forest, empty, pixel, block_at, gather}
use Rattle.pktree.specs.Tree.{BlockOf, tree, blocks, pixels}
use Rattle.pktree.proofs.Alignment.{pow_pos, aligned_root, aligned_multiple, blocks_nest}
use Rattle.pktree.proofs.Pixels.{keep, marked_from, pixels_of_gather}
use Rattle.pktree.proofs.InTree.{gather_has_many}
use Rattle.searching.specs.Distance.{squared_distance}
use Rattle.searching.specs.Search.{block_elements, distance_to}
use Rattle.searching.specs.NearestPosition.{Position}
use Rattle.searching.proofs.Distances.{nearest_position}
use Rattle.searching.proofs.ListLaws.{every_map, every_right, every_of_all}

-- a block's elements that are blocks are among all blocks inside it
elements_inside : (P : BlockOf → Type 0) (f : Forest) → Every P (blocks f) → Every P (block_elements f)
elements_inside P empty h = tt
elements_inside P (pixel c f) h = elements_inside P f h
elements_inside P (block_at u i c es f) h = (h.0, elements_inside P f (every_right P (blocks es) (blocks f) h.1))

-- the marked codes among the n codes from c on lie there
positions_kept : (level code c : ℕ) (t : Bool) (l : List ℕ) → Position level code c → Every (Position level code) l → Every (Position level code) (keep t c l)
positions_kept level code c true l p h = (p, h)
positions_kept level code c false l p h = h

marked_positions : (M : ℕ → Bool) (level code n c : ℕ) → code ≤ c → c + n ≤ code + 4 ^ level → Every (Position level code) (marked_from M n c)
marked_positions M level code zero c p q = tt
marked_positions M level code (suc n) c p q =
    positions_kept level code c (M c) (marked_from M n (suc c)) (record { starts = p; ends = omega arith })
    (marked_positions M level code n (suc c) (omega arith) (omega arith))

module _ (panel : Panel) (marked : ℕ → Bool) (valid : Valid panel) where
  -- a block of the panel with the elements that 01 gathers for it
  pub record Gathered (b : BlockOf) : Type 0 where
    pub of_panel : Block panel b.level b.code
    pub gathered : b.elements ≡ gather marked panel.k b.level b.code

  pub root_gathered : Every Gathered (block_elements (tree panel marked))
  root_gathered = (record { of_panel = record { low = omega arith; aligned = aligned_root panel.order; corner = pow_pos panel.order }; gathered = refl }, tt)

  -- a block that stands inside another
  pub record Within (b c : BlockOf) : Type 0 where
    pub is : Gathered c
    pub lower : c.level < b.level
    pub starts : b.code ≤ c.code
    pub ends : c.code + 4 ^ c.level ≤ b.code + 4 ^ b.level

  pub inside_within : (b : BlockOf) → Gathered b → Every (Within b) (blocks b.elements)
  inside_within b h =
      subst (λ (f : Forest). Every (Within b) (blocks f)) (sym h.gathered)
      (every_of_all (Within b) (blocks (gather marked panel.k b.level b.code)) within)
    where
      end : b.code + 4 ^ b.level ≤ 4 ^ panel.order
      end =
          let edge = aligned_multiple panel.order (4 ^ panel.order) 1 (omega arith) in
          blocks_nest b.level panel.order b.code (4 ^ panel.order) h.of_panel.low h.of_panel.aligned edge h.of_panel.corner

      within : (c : BlockOf) → Memᴰ c (blocks (gather marked panel.k b.level b.code)) → Within b c
      within c m =
          let has = gather_has_many marked panel.k b.level b.code h.of_panel.aligned in
          let many = has.only c.level c.code c.elements m in
          record {
            is = record {
              of_panel = record { low = omega (arith, many.below, h.of_panel.low); aligned = many.aligned; corner = omega (arith, many.ends, end, pow_pos c.level) };
              gathered = many.elements;
            };
            lower = many.below;
            starts = many.starts;
            ends = many.ends;
          }

  pub elements_within : (b : BlockOf) → Gathered b → Every (Within b) (block_elements b.elements)
  elements_within b h = elements_inside (Within b) b.elements (inside_within b h)

  pixels_are_positions : (b : BlockOf) → Gathered b → Every (Position b.level b.code) (pixels b.elements)
  pixels_are_positions b h =
      rw (h.gathered, pixels_of_gather marked panel.k b.level b.code)
      (marked_positions marked b.level b.code (4 ^ b.level) b.code (omega arith) (omega arith))

  module _ (place : ℕ) where
    -- no pixel of a block is nearer than the block, and no block inside it
    pub pixels_no_nearer : (b : BlockOf) → Gathered b → Every (λ q. distance_to place b ≤ squared_distance place q) (pixels b.elements)
    pixels_no_nearer b h =
        every_map (Position b.level b.code) (λ q. distance_to place b ≤ squared_distance place q) (pixels b.elements)
        (nearest_position panel place b.level b.code valid h.of_panel).least (pixels_are_positions b h)

    pub inside_no_nearer : (b c : BlockOf) → Gathered b → Within b c → distance_to place b ≤ distance_to place c
    inside_no_nearer b c h w =
        let p = nearest_position panel place c.level c.code valid w.is.of_panel in
        let least = (nearest_position panel place b.level b.code valid h.of_panel).least p.position
        (record { starts = omega (arith, w.starts, p.is_position); ends = omega (arith, w.ends, p.is_position) }) in
        omega (arith, least, p.reached)
