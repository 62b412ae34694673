-- `reader::is_image_of_some` meets its contract: bytes that pass each test are laid out as an image, and an image passes each. Assumes nothing.
use native.Mathlib.Omega.{arith}
use borrow.Author.Rules.{rules}
use Rattle.image.proofs.ImageBytes.{Bytes}
use Rattle.reader.proofs.RootRead.{no_root, root_can, root_wrong, entries_unread, pixels_decide}
use Rattle.reader.proofs.is_image_of_some.Goals as goal

pub returns-then-not-is_entry : goal.returns-then-not-is_entry
returns-then-not-is_entry c = search (rules, no_root)

pub read_elements-requires : goal.read_elements-requires
read_elements-requires c = search (rules, root_can)

pub returns-in_default : goal.returns-in_default
returns-in_default c = search (rules, root_wrong)

pub returns-then-root-entries : goal.returns-then-root-entries
returns-then-root-entries c = search (rules, entries_unread)

pub returns : goal.returns
returns c =
    let bytes : Bytes c.args.image.now = λ i. omega (arith, c.type_inv.image i) in
    pixels_decide c.requires c.codes_part.ensures c.levels_part.ensures c.is_entry.ensures c.if-not-is_entry.false c.read_elements.ensures c.in-Some.is bytes
    c.if-root-entries.false c.count_pixels.ensures c.pixel_number.ensures c.wide.ensures
