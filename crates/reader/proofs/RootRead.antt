-- From the root's entry and its elements to the set of an image, and back.
use Prim.Native.Nat.{ℕ, ◌+◌, ◌-◌, ◌*◌, ◌≤◌, ◌<◌}
use native.Mathlib.Omega.{arith}
use mathlib.Core.Path.{◌≡◌, ap, ap₂, sym, ◌∙◌}
use mathlib.Core.Bool.{Bool, true, false}
use mathlib.Core.List.{List, [], ◌∷◌, ◌++◌}
use lib.Dec.{eqb}
use lib.ListN.{length, length-append}
use Rattle.pktree.specs.Panel.{Panel}
use Rattle.pktree.specs.PixelSet.{member}
use Rattle.pktree.specs.Elements.{Forest, size, gather}
use Rattle.pktree.specs.Tree.{tree, pixels}
use Rattle.pktree.specs.Entries.{Entry, entry, entries, pixel_entries}
use Rattle.pktree.specs.Image.{header, arrays}
use Rattle.pktree.proofs.Alignment.{aligned_root}
use Rattle.pktree.proofs.Locality.{tree_depends_on_panel}
use Rattle.pktree.proofs.Pixels.{pixels_of_tree_are_set, member_of_tree}
use Rattle.pktree.proofs.EntryOrder.{pixel_entries_of_tree}
use Rattle.measures.specs.Decides.{Decides}
use Rattle.measures.proofs.Decides.{decided_true, decided_false, eqb_decides}
use Rattle.reader.specs.declared.ElementsRead.{ElementsRead}
use Rattle.std.specs.Prelude.{Option}
use Rattle.image.specs.Parts.{entry_number, pixel_number, codes_part, levels_part, entries_of, pixels_of}
use Rattle.image.specs.Judged.{ImageOfSome}
use Rattle.reader.specs.PixelCount.{pixel_levels}
use Rattle.reader.specs.Reading.{elements, wrong, entries_from, EntryIs, CanReadBlock, elements_of, ReadAs, ElementsMeet, CanRead, most_of_block}
use Rattle.reader.proofs.BlockSize.{panel_size}
use Rattle.reader.proofs.EntriesFrom.{FirstIs, entry_first, entries_from_end, first_entry}
use Rattle.image.proofs.EntryParts.{length_entries_at}
use Rattle.image.proofs.ImageBytes.{Bytes, length_codes, length_levels, bytes_again}
use Rattle.image.proofs.ImageOfSet.{image_tells_entries, image_tells_pixels}
use Rattle.reader.proofs.ForestRead.{same_read}
use Rattle.reader.proofs.PixelNumber.{pixel_entries_number}

-- what the parts tell
record Tells (bytes codes levels : List ℕ) : Type 0 where
  columns : length codes ≡ 4 * length levels
  entries_are : entries_from codes levels 0 ≡ entries_of bytes
  pixels_are : length (pixels_of bytes) ≡ pixel_levels levels

-- entries that are those of a tree are the image of the tree's pixels
image_of_tree : {panel : Panel} {bytes : List ℕ} (marked : ℕ → Bool) → CanRead panel bytes → Bytes bytes → entries_of bytes ≡ entries (tree panel marked)
    → length (pixels_of bytes) ≡ pixel_number bytes → length (entries_of bytes) ≡ entry_number bytes → ImageOfSome panel bytes
image_of_tree {panel} {bytes} marked can h is number all =
    let set : List ℕ = pixels (tree panel marked) in
    let own : tree panel (member set) ≡ tree panel marked = tree_depends_on_panel panel (member set) marked (λ x on. member_of_tree panel marked x on) in
    let its : entries (tree panel (member set)) ≡ entries_of bytes = ap entries own ∙ sym is in
    let n : length set ≡ pixel_number bytes = ap length (sym (pixel_entries_of_tree panel marked can.valid) ∙ ap pixel_entries (sym is)) ∙ number in
    record {
      set = set;
      on_panel = pixels_of_tree_are_set panel marked;
      of_n = n;
      is = ap (λ (l : List Entry). header panel (length l) (length set) ++ arrays l) its
          ∙ ap₂ (λ (e n : ℕ). header panel e n ++ arrays (entries_of bytes)) all n
          ∙ bytes_again bytes can.formed panel h can.order can.k;
    }

abbrev panel_with : ℕ → ℕ → Panel
panel_with order k = record { order = order; k = k }

-- codes and levels are the parts of the bytes
module _ {order k : ℕ} {bytes codes levels : List ℕ} (can : CanRead (panel_with order k) bytes) (codes_are : codes ≡ codes_part bytes) (levels_are : levels ≡ levels_part bytes) where
  told : Tells bytes codes levels
  told =
      let n : length levels ≡ entry_number bytes = ap length levels_are ∙ length_levels bytes can.formed in
      let all : length levels - 0 ≡ entry_number bytes = omega (arith, n) in
      record {
        columns = omega (arith, ap length codes_are, length_codes bytes can.formed);
        entries_are = rw (all, codes_are, levels_are);
        pixels_are = rw levels_are (pixel_entries_number (codes_part bytes) (levels_part bytes) (entry_number bytes) 0 (omega (arith, length_levels bytes can.formed)));
      }

  pub as_long : length codes ≡ 4 * length levels
  as_long = told.columns

  -- an image begins with the root's entry, and its elements follow
  image_begins : (some : ImageOfSome (panel_with order k) bytes)
      → FirstIs codes levels 0 (entry order 0) (entries (gather (member some.set) k order 0) ++ [])
  image_begins some =
      first_entry codes levels 0 (entry order 0) (entries (gather (member some.set) k order 0) ++ [])
      (told.entries_are ∙ image_tells_entries (panel_with order k) some.set bytes can.valid can.formed some.is)

  pixels_told : ImageOfSome (panel_with order k) bytes → pixel_levels levels ≡ pixel_number bytes
  pixels_told some = sym told.pixels_are ∙ ap length (image_tells_pixels (panel_with order k) some.set bytes can.valid some.on_panel can.formed some.is) ∙ some.of_n

  -- the root's entry and elements, no entry more and n pixels: the bytes are an image
  root_read : {count next : ℕ} → Bytes bytes → EntryIs codes levels 0 order 0
      → ReadAs (elements_of k order 0) codes levels 1 most_of_block count next → length levels ≤ next → pixel_levels levels ≡ pixel_number bytes → ImageOfSome (panel_with order k) bytes
  root_read {next = next} h is read all number =
      let es : Forest = gather read.marked k order 0 in
      let whole : entries_of bytes ≡ entries (tree (panel_with order k) read.marked) =
      sym told.entries_are ∙ entry_first codes levels is
      ∙ ap (λ (l : List Entry). entry order 0 ∷ l) (read.entries_are ∙ ap (λ (l : List Entry). entries es ++ l) (entries_from_end codes levels next all)) in
      image_of_tree read.marked can h whole (told.pixels_are ∙ number) (length_entries_at (codes_part bytes) (levels_part bytes) (entry_number bytes) 0)

  -- whether the first entry is the root's
  module _ {t : Bool} (decides : Decides t (EntryIs codes levels 0 order 0)) where
    pub no_root : t ≡ false → ImageOfSome (panel_with order k) bytes → ⊥
    no_root none some = decided_false none decides (image_begins some).is

    module _ (is_true : t ≡ true) where
      root_there : EntryIs codes levels 0 order 0
      root_there = decided_true is_true decides

      pub root_can : CanReadBlock levels k order 0 1
      root_can =
          record {
            k_from = can.valid.k_from;
            k_to = can.valid.k_to;
            level_to = can.valid.order_to;
            aligned = aligned_root order;
            code_to = panel_size order can.valid.order_to;
            at_to = root_there.below;
          }

      module _ {r : Option ElementsRead} (root : ElementsMeet codes levels k order 0 1 r) where
        -- the elements of an image's root are read, up to the last entry
        root_told : (some : ImageOfSome (panel_with order k) bytes) → (count : ℕ) × (r ≡ elements count (length levels))
        root_told some =
            let es : Forest = gather (member some.set) k order 0 in
            let n : 1 + length (entries es) ≡ length levels =
            omega (
              arith,
              ap length (told.entries_are ∙ image_tells_entries (panel_with order k) some.set bytes can.valid can.formed some.is),
              length-append (entries es) [],
              length_entries_at codes levels (length levels - 0) 0,
            ) in
            (size es, root.complete (member some.set) [] (image_begins some).after tt ∙ ap (elements (size es)) n)

        pub root_wrong : r ≡ wrong → ImageOfSome (panel_with order k) bytes → ⊥
        root_wrong is-wrong some = let e = (root_told some).1 in let z : ◌≡◌ {A = ℕ} 0 1 = cc in omega arith

        module _ {count next : ℕ} (answered : r ≡ elements count next) where
          pub entries_unread : next < length levels → ImageOfSome (panel_with order k) bytes → ⊥
          entries_unread short some = omega (arith, (same_read (sym answered ∙ (root_told some).1)).1)

          pub pixels_decide : {counted said n : ℕ} → Bytes bytes → length levels ≤ next → counted ≡ pixel_levels levels → said ≡ pixel_number bytes → n ≡ said
              → Decides (eqb counted n) (ImageOfSome (panel_with order k) bytes)
          pixels_decide {counted} {said} {n} h all c s e =
              eqb_decides counted n _ (λ same. root_read h root_there (rw answered at root.sound) all (omega (arith, c, s, e, same)))
              (λ other some. other (omega (arith, c, s, e, pixels_told some)))
