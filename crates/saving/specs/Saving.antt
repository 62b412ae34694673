-- What the walk that writes an image leaves in the output.
use Rattle.std.specs.Prelude.{◌≡◌, ℕ, ◌+◌, ◌*◌, ◌<◌, ◌≤◌, ◌⊎◌, List, ◌++◌, length, take, drop, Result, Ok, Err}
use Rattle.pktree.specs.Elements.{Forest}
use Rattle.pktree.specs.Entries.{entries}
use Rattle.pktree.specs.Image.{header_length}
use Rattle.pktree.proofs.Forests.{block_count}
use Rattle.store.specs.Opening.{CannotOpen}
use Rattle.store.specs.declared.Damaged.{Damaged}
use Rattle.measures.specs.declared.sizes.Sizes.{Sizes}
use Rattle.measures.specs.declared.sizes.Layout.{Layout}
use Rattle.measures.specs.Layout.{LaidOut, level_above_root}
use Rattle.walks.proofs.Walks.{BlockWalked}
use Rattle.image.specs.Writing.{put_entry, put_entries, HeaderPut}
use Rattle.saving.specs.declared.ImageWalk.{ImageWalk}
use Rattle.saving.specs.declared.Progress.{Progress}

-- where the slots lie, and how many entries the image has
pub record Places : Type 0 where
  pub layout : Layout
  pub entries : ℕ

abbrev pub places_of : ImageWalk → Places
places_of walk = record { layout = walk.slots.layout; entries = walk.entries }

pub record CanSave (saving : Places) (above : ℕ) (output : List ℕ) : Type 0 where
  pub above_to : above ≤ level_above_root
  pub long : header_length + 5 * saving.entries ≤ length output

-- the output, the index of the next entry, and how many blocks may still be entered
abbrev pub reached : List ℕ → Progress → List ℕ × ℕ × ℕ
reached output progress = (output, progress.next, progress.left)

-- a pixel's entry is written, where it has room
pub record PixelPut (n code : ℕ) (before after : List ℕ) (at : ℕ) (r : Result ℕ Damaged) : Type 0 where
  pub long : length after ≡ length before
  pub put : at < n → (r ≡ Ok (at + 1)) × (after ≡ put_entry n at before 0 code)

-- from index `s.1` on there is room for the entries of these elements, and each of their blocks is one of the `s.2` that may still be entered
pub record RoomFor (saving : Places) (s : List ℕ × ℕ × ℕ) (f : Forest) : Type 0 where
  pub room : s.1 + length (entries f) ≤ saving.entries
  pub few : block_count f ≤ s.2

-- then their entries are written
pub record EntriesPut (saving : Places) (s : List ℕ × ℕ × ℕ) (f : Forest) (t : List ℕ × ℕ × ℕ) : Type 0 where
  pub says : RoomFor saving s f → (t.1 ≡ s.1 + length (entries f)) × (t.0 ≡ put_entries saving.entries s.1 s.0 (entries f)) × (t.2 + block_count f ≡ s.2)

-- a walk has come to its end, or the words are damaged
abbrev pub Ending : Type 0
Ending = Result (Unit {0}) Damaged

abbrev pub done : Ending
done = Ok tt

abbrev pub broken : Ending
broken = Err (record {})

-- and the walk ends
pub record EntriesPutTo (r : Ending) (saving : Places) (s : List ℕ × ℕ × ℕ) (f : Forest) (t : List ℕ × ℕ × ℕ) : Type 0 where
  pub put : EntriesPut saving s f t
  pub ends : RoomFor saving s f → r ≡ done

pub record BlockSaved (saving : Places) (words : List ℕ) (above slot level code : ℕ) (s t : List ℕ × ℕ × ℕ) (r : Ending) : Type 0 where
  pub right : BlockWalked (EntriesPutTo r saving) saving.layout words above slot level code s t
  pub long : length t.0 ≡ length s.0
  pub closed : CannotOpen saving.layout.width words slot level code → (saving.entries < t.1) × (r ≡ broken)
  -- whatever the words are: a block that is entered lowers the number of those that may be; else nothing is written, no further block is entered, and the walk breaks off
  pub lowers : (t.2 < s.2) ⊎ ((t ≡ (s.0, saving.entries + 1, 0)) × (r ≡ broken))

-- the index past the last entry, where the walk came to its end
abbrev pub EndingSaid : ℕ → Ending → Result ℕ Damaged → Type 0
EndingSaid next ending (Ok n) = (n ≡ next) × (ending ≡ done)
EndingSaid next ending (Err _) = ending ≡ broken

-- the header, and then a walk from the root, which may enter as many blocks as were said
pub record ImageWritten (sizes : Sizes) (pixels blocks : ℕ) (words before after : List ℕ) (r : Result ℕ Damaged) : Type 0 where
  pub layout : Layout
  pub laid : LaidOut sizes layout
  pub headed : List ℕ
  pub head : HeaderPut before sizes.order sizes.k (pixels + blocks) pixels headed
  pub next : ℕ
  pub left : ℕ
  pub ending : Ending
  pub walk : BlockSaved (record { layout = layout; entries = pixels + blocks }) words level_above_root 0 sizes.order 0 (headed, 0, blocks) (after, next, left) ending
  pub said : EndingSaid next ending r

-- so in the first n bytes; the rest is as it was
pub record FrontWritten (sizes : Sizes) (pixels blocks n : ℕ) (words before after : List ℕ) (r : Result ℕ Damaged) : Type 0 where
  pub part : List ℕ
  pub written : ImageWritten sizes pixels blocks words (take n before) part r
  pub is : after ≡ part ++ drop n before
