-- The answers that the walk gives for one element.
use Prim.Native.Nat.{ℕ, ◌≤◌, ◌<◌}
use native.Mathlib.Omega.{arith}
use native.Mathlib.Nat.{add-zero}
use mathlib.Core.Path.{◌≡◌, refl, subst, sym}
use mathlib.Core.List.{List}
use Rattle.pktree.specs.Elements.{block_at, empty, pixel}
use Rattle.elements.specs.declared.Element.{Element}
use Rattle.elements.specs.declared.Element.TheVariants.{Pixel}
use Rattle.elements.specs.Element.{named}
use Rattle.measures.specs.Layout.{LayoutWithin}
use Rattle.store.specs.Placed.{Placed}
use Rattle.traversal.specs.declared.Seen.{Seen}
use Rattle.std.specs.Prelude.{Result, Ok, Err}
use Rattle.store.specs.declared.Damaged.{Damaged}
use Rattle.traversal.specs.Walk.{Limits, WithinLimits, seen_with, StandsRight, BlockAt, claimed, PixelMeets, WalkMeets, NoneNamed, WalkElementMeets, unsound}
use Rattle.traversal.proofs.RightParts.{child, right_pixel, block_right, right_block}

module _ (limits : Limits) (words : List ℕ) (seen : Seen) {element : Element} where
  -- the answer for an element that is known
  element_as : (e : Element) (r : Result Seen Damaged) → element ≡ e → WalkElementMeets limits words e seen r → WalkElementMeets limits words element seen r
  element_as e r p h = subst (λ (x : Element). WalkElementMeets limits words x seen r) (sym p) h

  pub pixel_walked : {c : ℕ} (r : Result Seen Damaged) → element ≡ Pixel c → PixelMeets limits seen r → WalkElementMeets limits words element seen r
  pixel_walked {c} r e p = element_as (Pixel c) r e (go r p)
    where
      go : (r : Result Seen Damaged) → PixelMeets limits seen r → WalkElementMeets limits words (Pixel c) seen r
      go (Ok now) p = record { found = pixel c empty; names = refl; at = right_pixel c; now_is = rw (p.0, add-zero); within = p.1 }
      go (Err _) p = record { none = λ t n right room. let z : t ≡ pixel c empty = n in omega (arith, (rw z at room).pixels_to) }

  module _ {s i c : ℕ} (e : element ≡ named s i c) where
    -- a block that is right is of a level above 0, in a slot that there is
    not_right : ((es : Placed) → ((s < limits.layout.slots) × (1 ≤ i)) × BlockAt limits words (child limits s i c) es → WithinLimits limits (seen_with seen (claimed (child limits s i c) es)) → ⊥)
        → NoneNamed limits words element seen
    not_right wrong =
        element_as (named s i c) unsound e (record {
          none = λ t n right room.
              let b = right_block s i c n.0 (subst (StandsRight limits words) n.1 right) in
              wrong n.0 ((b.0, b.1), b.2) (subst (λ (u : Placed). WithinLimits limits (seen_with seen u)) n.1 room);
        })

    pub block_walked : {at : ℕ} → LayoutWithin limits.layout → at ≡ s → at < limits.layout.slots → 1 ≤ i → (r : Result Seen Damaged)
        → WalkMeets limits words (child limits s i c) seen r → WalkElementMeets limits words element seen r
    block_walked laid same below low r h = element_as (named s i c) r e (go r h)
      where
        go : (r : Result Seen Damaged) → WalkMeets limits words (child limits s i c) seen r → WalkElementMeets limits words (named s i c) seen r
        go (Ok now) h =
            record {
              found = block_at s i c h.found empty;
              names = (h.found, refl);
              at = block_right s i c h.found (omega arith) (omega (arith, laid.slots_to)) low h.at;
              now_is = h.now_is;
              within = h.within;
            }
        go (Err _) h = subst (λ (x : Element). NoneNamed limits words x seen) e (not_right (λ es b room. h.none es b.1 room))
