-- What save writes of a sound store: as many entries as it has pixels and blocks, and their bytes are the image.
use Rattle.std.proofs.Common.{◌≡◌, ℕ, ◌+◌, ◌*◌, ◌≤◌, List, ◌++◌, length, drop, sym, refl, ap, ◌∙◌, ap₂, append_assoc, arith, length-drop, drop-drop}
use Rattle.pktree.specs.Panel.{Panel}
use Rattle.pktree.specs.PixelSet.{member}
use Rattle.pktree.specs.Tree.{tree, blocks}
use Rattle.pktree.specs.Entries.{Entry, entries}
use Rattle.pktree.specs.Image.{code_bytes, level_bytes, header, image, header_length}
use Rattle.pktree.proofs.EntryOrder.{number_of_entries}
use Rattle.pktree.proofs.Images.{image_length_lem}
use Rattle.store.specs.Sound.{Holds}
use Rattle.store.proofs.Held.{pixels_of_held}
use Rattle.walks.proofs.RootWalk.{held_tree}
use Rattle.image.specs.Writing.{put_entries, HeaderPut}
use Rattle.image.proofs.EntryWrites.{all_entries_land}

-- 01: e is the number of pixels and of blocks
pub entries_counted : {words set : List ℕ} → Holds words set → length set + length (blocks (held_tree words set)) ≡ length (entries (held_tree words set))
entries_counted {words} {set} holds = omega (arith, number_of_entries (held_tree words set), ap length (pixels_of_held holds))

-- the bytes after the header and all entries
pub image_put : (panel : Panel) (set before headed after : List ℕ) (e : ℕ) → e ≡ length (entries (tree panel (member set))) → header_length + 5 * e ≤ length before
    → HeaderPut before panel.order panel.k e (length set) headed → after ≡ put_entries e 0 headed (entries (tree panel (member set)))
    → after ≡ image panel set ++ drop (length (image panel set)) before
image_put panel set before headed after e is room h put =
    let l : List Entry = entries (tree panel (member set)) in
    let start : headed ≡ header panel (length l) (length set) ++ drop header_length before = rw is at h.is in
    let all : after ≡ put_entries (length l) 0 (header panel (length l) (length set) ++ drop header_length before) l = put ∙ ap₂ (λ (n : ℕ) (o : List ℕ). put_entries n 0 o l) is start in
    let rest : List ℕ = drop (length (image panel set)) before in
    let past : drop (5 * length l) (drop header_length before) ≡ rest = drop-drop (5 * length l) header_length before ∙ ap (λ (n : ℕ). drop n before) (sym (image_length_lem panel set)) in
    all ∙ all_entries_land (header panel (length l) (length set)) (drop header_length before) l refl (omega (arith, length-drop header_length before))
    ∙ rw (past, append_assoc (code_bytes l) (level_bytes l) rest)
