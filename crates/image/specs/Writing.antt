-- 01 "The image": its header and entries, written into bytes.
use Rattle.std.specs.Prelude.{ℕ, suc, ◌+◌, ◌*◌, ◌≡◌, List, [], ◌∷◌, ◌++◌, drop, set}
use Rattle.std.proofs.lemmas.List.Edits.{sets}
use Rattle.pktree.specs.Entries.{Entry}
use Rattle.pktree.specs.Image.{four_bytes, header_length}

abbrev pub put_four : List ℕ → ℕ → ℕ → List ℕ
put_four output at value = sets output at (four_bytes value)

-- entry `at` of n: its code in the first array, its level in the second
abbrev pub put_entry : ℕ → ℕ → List ℕ → ℕ → ℕ → List ℕ
put_entry n at output level code = set (put_four output (header_length + 4 * at) code) (header_length + 4 * n + at) level

-- entries from index `at` on
abbrev pub put_entries : ℕ → ℕ → List ℕ → List Entry → List ℕ
put_entries n at output [] = output
put_entries n at output (e ∷ es) = put_entries n (suc at) (put_entry n at output e.level e.code) es

-- the header in the first ten bytes
pub record HeaderPut (before : List ℕ) (order k e n : ℕ) (after : List ℕ) : Type 0 where
  pub is : after ≡ (order ∷ k ∷ []) ++ (four_bytes e ++ (four_bytes n ++ drop header_length before))
