-- The image of a set, read back: its header, its entries and its pixels.
use Prim.Native.Nat.{ℕ, zero, suc, ◌+◌, ◌*◌, ◌^◌, ◌≤◌}
use native.Mathlib.Omega.{arith}
use mathlib.Core.Path.{◌≡◌, refl, ap, ap₂, subst, sym, ◌∙◌}
use mathlib.Core.List.{List, ◌++◌, append-nil}
use lib.ListN.{length, get_or, take, drop}
use lib.Seq.{take_at, drop_at, drop-drop, take_all}
use Rattle.measures.specs.Sizes.{largest_most}
use Rattle.pktree.specs.Panel.{Panel, Valid}
use Rattle.pktree.specs.PixelSet.{member, PixelSet}
use Rattle.pktree.specs.Elements.{Forest, gather}
use Rattle.pktree.specs.Tree.{tree, pixels}
use Rattle.pktree.specs.Entries.{Entry, entries, pixel_entries}
use Rattle.pktree.specs.Image.{code_bytes, level_bytes, header, arrays, image, header_length}
use Rattle.pktree.proofs.Forests.{block_count, length_blocks}
use Rattle.pktree.proofs.Alignment.{aligned_root}
use Rattle.pktree.proofs.Arranged.{LocallyRight}
use Rattle.pktree.proofs.LocalLaw.{gather_is_local}
use Rattle.pktree.proofs.BlockNumber.{blocks_take_pixels}
use Rattle.pktree.proofs.Pixels.{pixels_of_set}
use Rattle.pktree.proofs.EntryOrder.{number_of_entries, pixel_entries_of_tree}
use Rattle.pktree.proofs.Images.{image_length_lem, length_code_bytes, length_level_bytes, entries_in_32_bits}
use Rattle.image.specs.Parts.{entry_number, pixel_number, codes_part, levels_part, entries_at, entries_of, pixels_of, image_length, levels_start}
use Rattle.image.specs.Judged.{WellFormed}
use Rattle.image.proofs.FourBytes.{four_bytes_sum}
use Rattle.image.proofs.EntryParts.{entries_of_arrays}

-- the parts of an image that says its own number of entries
module _ (panel : Panel) (l : List Entry) (n : ℕ) where
  whole : List ℕ
  whole = header panel (length l) n ++ arrays l

  codes_are : (e : ℕ) → e ≡ length l → take (4 * e) (drop header_length whole) ≡ code_bytes l
  unfolding whole
  codes_are e is = rw is (take_at (code_bytes l) (level_bytes l) (4 * length l) (length_code_bytes l))

  levels_are : (e : ℕ) → e ≡ length l → take e (drop (levels_start e) whole) ≡ level_bytes l
  unfolding whole
  levels_are e is =
      rw (is, ← drop-drop (4 * length l) header_length (header panel (length l) n ++ arrays l), drop_at (code_bytes l) (level_bytes l) (4 * length l) (length_code_bytes l))
      (take_all (length l) (level_bytes l) (omega (arith, length_level_bytes l)))

-- the entries of a well-formed image are those of the set's tree
pub image_tells_entries : (panel : Panel) (set bytes : List ℕ) → Valid panel → WellFormed bytes → image panel set ≡ bytes
    → entries_of bytes ≡ entries (tree panel (member set))
unfolding whole
image_tells_entries panel set bytes valid formed is =
    let l : List Entry = entries (tree panel (member set)) in
    let e : entry_number bytes ≡ length l = omega (arith, formed.arrays, image_length_lem panel set, ap length is) in
    let c : codes_part bytes ≡ code_bytes l = ap (λ (b : List ℕ). take (4 * entry_number bytes) (drop header_length b)) (sym is) ∙ codes_are panel l (length set) (entry_number bytes) e in
    let v : levels_part bytes ≡ level_bytes l =
    ap (λ (b : List ℕ). take (entry_number bytes) (drop (levels_start (entry_number bytes)) b)) (sym is) ∙ levels_are panel l (length set) (entry_number bytes) e in
    ap₂ (λ (codes levels : List ℕ). entries_at codes levels (entry_number bytes) 0) c v
    ∙ ap (λ (n : ℕ). entries_at (code_bytes l) (level_bytes l) n 0) e
    ∙ entries_of_arrays panel.order l (entries_in_32_bits panel (member set) valid)

-- and its pixels are the set
pub image_tells_pixels : (panel : Panel) (set bytes : List ℕ) → Valid panel → PixelSet panel set → WellFormed bytes → image panel set ≡ bytes → pixels_of bytes ≡ set
image_tells_pixels panel set bytes valid h formed is =
    ap pixel_entries (image_tells_entries panel set bytes valid formed is) ∙ pixel_entries_of_tree panel (member set) valid ∙ pixels_of_set panel set h

-- no more blocks below the root than pixels
few_blocks : (k m : ℕ) (es : Forest) → 2 ≤ k → LocallyRight k m 0 es → block_count es ≤ length (pixels es)
few_blocks zero m es h r = absurd (omega arith)
few_blocks (suc zero) m es h r = absurd (omega arith)
few_blocks (suc (suc j)) m es h r = omega (arith, blocks_take_pixels (suc j) m 0 (0 + 4 ^ m) es r.arranged)

-- the entries of the most pixels are far below 2 ^ 32
entries_few : (panel : Panel) (set : List ℕ) → Valid panel → PixelSet panel set → length set ≤ largest_most → length (entries (tree panel (member set))) ≤ 1 + 2 * largest_most
entries_few panel set valid h few =
    let es : Forest = gather (member set) panel.k panel.order 0 in
    let e : pixels es ≡ set = rw (append-nil (pixels es)) at (pixels_of_set panel set h) in
    let b : block_count es ≤ length (pixels es) =
    few_blocks panel.k panel.order es valid.k_from (gather_is_local (member set) panel.k panel.order 0 valid.k_from (aligned_root panel.order)) in
    omega (arith, number_of_entries (tree panel (member set)), length_blocks (tree panel (member set)), ap length (pixels_of_set panel set h), ap length e)

-- what the image of a set says of itself
pub record SaysItself (panel : Panel) (set bytes : List ℕ) : Type 0 where
  pub formed : WellFormed bytes
  pub order : get_or bytes 0 0 ≡ panel.order
  pub k : get_or bytes 1 0 ≡ panel.k
  pub pixels : pixel_number bytes ≡ length set

pub image_is_well_formed : (panel : Panel) (set bytes : List ℕ) → Valid panel → PixelSet panel set → length set ≤ largest_most → image panel set ≡ bytes → SaysItself panel set bytes
image_is_well_formed panel set bytes valid h few is = subst (SaysItself panel set) is whole_says
  where
    l : List Entry
    l = entries (tree panel (member set))

    e : entry_number (image panel set) ≡ length l
    e = four_bytes_sum (length l) (omega (arith, entries_few panel set valid h few))

    whole_says : SaysItself panel set (image panel set)
    whole_says =
        record {
          formed = record { header = omega (arith, image_length_lem panel set); arrays = image_length_lem panel set ∙ ap image_length (sym e) };
          order = refl;
          k = refl;
          pixels = four_bytes_sum (length set) (omega arith);
        }
