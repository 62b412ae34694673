-- 01 "The image": what bytes say when they are read as an image.
use Rattle.std.specs.Prelude.{ℕ, zero, suc, ◌+◌, ◌*◌, List, [], ◌∷◌, get_or, take, drop}
use Rattle.pktree.specs.Image.{header_length}
use Rattle.pktree.specs.Entries.{Entry, entry, pixel_entries}

-- four bytes from this place on, the low one first
abbrev pub four_at : List ℕ → ℕ → ℕ
four_at bytes at = get_or bytes at 0 + 256 * get_or bytes (at + 1) 0 + 65536 * get_or bytes (at + 2) 0 + 16777216 * get_or bytes (at + 3) 0

-- e and n
abbrev pub entry_number : List ℕ → ℕ
entry_number bytes = four_at bytes 2

abbrev pub pixel_number : List ℕ → ℕ
pixel_number bytes = four_at bytes 6

-- an entry has 5 bytes, a code of 4 and a level of 1
abbrev pub image_length : ℕ → ℕ
image_length e = header_length + 5 * e

abbrev pub levels_start : ℕ → ℕ
levels_start e = header_length + 4 * e

-- 01: codes and levels are parts of the sender's bytes
abbrev pub codes_part : List ℕ → List ℕ
codes_part bytes = take (4 * entry_number bytes) (drop header_length bytes)

abbrev pub levels_part : List ℕ → List ℕ
levels_part bytes = take (entry_number bytes) (drop (levels_start (entry_number bytes)) bytes)

abbrev pub entry_at : List ℕ → List ℕ → ℕ → Entry
entry_at codes levels at = entry (get_or levels at 0) (four_at codes (4 * at))

-- so many entries, from this index on
unfoldable pub entries_at : List ℕ → List ℕ → ℕ → ℕ → List Entry
entries_at codes levels zero at = []
entries_at codes levels (suc n) at = entry_at codes levels at ∷ entries_at codes levels n (suc at)

-- all entries of an image, and the codes of its pixels
abbrev pub entries_of : List ℕ → List Entry
entries_of bytes = entries_at (codes_part bytes) (levels_part bytes) (entry_number bytes) 0

abbrev pub pixels_of : List ℕ → List ℕ
pixels_of bytes = pixel_entries (entries_of bytes)
