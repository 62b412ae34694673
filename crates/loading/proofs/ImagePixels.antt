-- The arrays of an image that was judged: their pixels are the image's set, and the register can hold them.
use Prim.Native.Nat.{ℕ, ◌*◌}
use native.Mathlib.Omega.{arith}
use mathlib.Core.Path.{◌≡◌, ap, sym, ◌∙◌, subst}
use mathlib.Core.List.{List}
use lib.ListN.{length}
use Rattle.pktree.specs.Panel.{Panel, Valid}
use Rattle.pktree.specs.PixelSet.{PixelSet}
use Rattle.measures.specs.declared.sizes.Sizes.{Sizes}
use Rattle.measures.specs.Sizes.{panel_of}
use Rattle.image.specs.Parts.{codes_part, levels_part}
use Rattle.image.specs.Judged.{WellFormed, FitsRegister, ImageOfSome}
use Rattle.image.proofs.ImageBytes.{length_codes, length_levels}
use Rattle.image.proofs.ImageOfSet.{image_tells_pixels}
use Rattle.loading.specs.Filled.{pixels_to, pixels_given, EntriesFit}

module _ (bytes : List ℕ) (formed : WellFormed bytes) where
  pub arrays_tell_set : (panel : Panel) → Valid panel → (some : ImageOfSome panel bytes) → pixels_given (codes_part bytes) (levels_part bytes) ≡ some.set
  arrays_tell_set panel valid some =
      ap (pixels_to (codes_part bytes) (levels_part bytes)) (length_levels bytes formed) ∙ image_tells_pixels panel some.set bytes valid some.on_panel formed some.is

  pub arrays_fit : (sizes : Sizes) → Valid (panel_of sizes) → FitsRegister (panel_of sizes) sizes.most bytes → ImageOfSome (panel_of sizes) bytes
      → EntriesFit sizes (codes_part bytes) (levels_part bytes)
  arrays_fit sizes valid fits some =
      let e = arrays_tell_set (panel_of sizes) valid some in
      record {
        codes_long = length_codes bytes formed ∙ ap (λ (n : ℕ). 4 * n) (sym (length_levels bytes formed));
        on_panel = subst (PixelSet (panel_of sizes)) (sym e) some.on_panel;
        room = omega (arith, ap length e, some.of_n, fits.pixels);
      }
