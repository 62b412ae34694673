-- 01 "The image": sizes first, then two parallel arrays.
use Rattle.std.specs.Prelude.{ℕ, ◌/◌, ◌%◌, List, [], ◌∷◌, ◌++◌, length}
use Rattle.pktree.specs.Panel.{Panel}
use Rattle.pktree.specs.PixelSet.{member}
use Rattle.pktree.specs.Tree.{tree}
use Rattle.pktree.specs.Entries.{Entry, entries}

-- low byte first
abbrev pub four_bytes : ℕ → List ℕ
four_bytes n = n % 256 ∷ n / 256 % 256 ∷ n / 65536 % 256 ∷ n / 16777216 % 256 ∷ []

abbrev pub code_bytes : List Entry → List ℕ
code_bytes [] = []
code_bytes (e ∷ es) = four_bytes e.code ++ code_bytes es

abbrev pub level_bytes : List Entry → List ℕ
level_bytes [] = []
level_bytes (e ∷ es) = e.level ∷ level_bytes es

-- m, k, e and n take so many bytes
abbrev pub header_length : ℕ
header_length = 10

-- m, k, the number of entries and the number of pixels
abbrev pub header : Panel → ℕ → ℕ → List ℕ
header panel e n = (panel.order ∷ panel.k ∷ []) ++ (four_bytes e ++ four_bytes n)

abbrev pub arrays : List Entry → List ℕ
arrays es = code_bytes es ++ level_bytes es

abbrev pub image : Panel → List ℕ → List ℕ
image panel set =
    let es = entries (tree panel (member set)) in
    header panel (length es) (length set) ++ arrays es
