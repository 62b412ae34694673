-- `image::writing::put_four` meets its contract.
use mathlib.Core.Path.{refl, ◌∙◌}
use Rattle.pktree.specs.Image.{four_bytes}
use Rattle.image.proofs.BytesPut.{part_put}
use Rattle.image.proofs.writing.put_four.Goals as goal

pub returns : goal.returns
returns c =
    part_put c.args.output.now (four_bytes c.args.value) c.copy_from_slice.new.self c.args.at 4 (c.copy_from_slice.ensures.after ∙ c.to_le_bytes.ensures) refl c.requires
