-- Which images load accepts: the image of a set that the register can hold passes every judgement, and is of no other set.
use Prim.Native.Nat.{ℕ}
use native.Mathlib.Omega.{arith}
use mathlib.Core.Path.{◌≡◌, sym, ◌∙◌}
use mathlib.Core.List.{List}
use Rattle.measures.specs.Sizes.{UsableStore}
use Rattle.image.specs.Judged.{WellFormed, FitsRegister, ImageOfSome}
use Rattle.image.proofs.ImageOfSet.{SaysItself, image_is_well_formed, image_tells_pixels}
use Rattle.image.specs.Held.{HasImage, panel_in, most_in}

module _ {before bytes : List ℕ} (usable : UsableStore before) {set : List ℕ} (has : HasImage (panel_in before) (most_in before) bytes set) where
  says : SaysItself (panel_in before) set bytes
  says = image_is_well_formed (panel_in before) set bytes usable.valid.panel has.on_panel (omega (arith, has.room, usable.valid.most_to)) has.is

  pub image_well_formed : WellFormed bytes
  image_well_formed = says.formed

  pub image_fits : FitsRegister (panel_in before) (most_in before) bytes
  image_fits = record { order = says.order; k = says.k; pixels = omega (arith, says.pixels, has.room) }

  pub image_of_some : ImageOfSome (panel_in before) bytes
  image_of_some = record { set = set; on_panel = has.on_panel; of_n = sym says.pixels; is = has.is }

  pub one_set : {other : List ℕ} → HasImage (panel_in before) (most_in before) bytes other → set ≡ other
  one_set {other} also =
      let valid = usable.valid.panel in
      sym (image_tells_pixels (panel_in before) set bytes valid has.on_panel says.formed has.is)
      ∙ image_tells_pixels (panel_in before) other bytes valid also.on_panel says.formed also.is
