-- Well-formed bytes are the image's layout of what they say: their sizes, then the arrays of their entries.
use Prim.Native.Nat.{ℕ, zero, suc, ◌+◌, ◌*◌, ◌≤◌, ◌<◌}
use native.Mathlib.Omega.{arith}
use mathlib.Core.Path.{◌≡◌, ap, ap₂, sym, ◌∙◌}
use mathlib.Core.List.{List, [], ◌∷◌, ◌++◌}
use lib.ListN.{length, get_or, take, drop, length-drop, take-append-drop}
use lib.Seq.{drop-cons, drop-length, drop-drop, get_or-drop, take_all, length-take-le}
use Rattle.pktree.specs.Panel.{Panel}
use Rattle.pktree.specs.Image.{four_bytes, code_bytes, level_bytes, header, arrays, header_length}
use Rattle.image.specs.Parts.{four_at, entry_number, pixel_number, codes_part, levels_part, entries_at, entries_of, levels_start}
use Rattle.image.specs.Judged.{WellFormed}
use Rattle.image.proofs.FourBytes.{sum_four_bytes}

-- each byte, and 0 past the end, is below 256
abbrev pub Bytes : List ℕ → Type 0
Bytes l = (i : ℕ) → get_or l i 0 < 256

bytes_take : (n : ℕ) (l : List ℕ) → Bytes l → Bytes (take n l)
bytes_take zero l h i = omega arith
bytes_take (suc n) [] h i = omega arith
bytes_take (suc n) (b ∷ l) h zero = h 0
bytes_take (suc n) (b ∷ l) h (suc i) = bytes_take n l (λ j. h (suc j)) i

bytes_drop : (n : ℕ) (l : List ℕ) → Bytes l → Bytes (drop n l)
bytes_drop n l h i = rw (get_or-drop n l i 0) (h (n + i))

-- four bytes, and what follows them
pub four_ahead : (l : List ℕ) (i : ℕ) → Bytes l → i + 4 ≤ length l → drop i l ≡ four_bytes (four_at l i) ++ drop (i + 4) l
four_ahead l i h to =
    let a : i + 1 ≡ suc i = omega arith in
    let b : i + 2 ≡ suc (suc i) = omega arith in
    let c : i + 3 ≡ suc (suc (suc i)) = omega arith in
    let d : i + 4 ≡ suc (suc (suc (suc i))) = omega arith in
    let plain : drop i l ≡ (get_or l i 0 ∷ get_or l (i + 1) 0 ∷ get_or l (i + 2) 0 ∷ get_or l (i + 3) 0 ∷ []) ++ drop (i + 4) l =
    rw (a, b, c, d)
    (drop-cons l i 0 (omega arith)
    ∙ ap (λ (r : List ℕ). get_or l i 0 ∷ r) (drop-cons l (suc i) 0 (omega arith)
    ∙ ap (λ (r : List ℕ). get_or l (suc i) 0 ∷ r) (drop-cons l (suc (suc i)) 0 (omega arith)
    ∙ ap (λ (r : List ℕ). get_or l (suc (suc i)) 0 ∷ r) (drop-cons l (suc (suc (suc i))) 0 (omega arith))))) in
    plain
    ∙ ap (λ (r : List ℕ). r ++ drop (i + 4) l)
    (sym (sum_four_bytes (get_or l i 0) (get_or l (i + 1) 0) (get_or l (i + 2) 0) (get_or l (i + 3) 0) (h i) (h (i + 1)) (h (i + 2)) (h (i + 3))))

-- the arrays of the entries that codes and levels say
codes_again : (codes levels : List ℕ) (n at : ℕ) → Bytes codes → length codes ≡ 4 * (at + n) → code_bytes (entries_at codes levels n at) ≡ drop (4 * at) codes
unfolding entries_at
codes_again codes levels zero at h e = let z : 4 * at ≡ length codes = omega arith in rw (z, drop-length codes)
codes_again codes levels (suc n) at h e =
    let z : 4 * suc at ≡ 4 * at + 4 = omega arith in
    ap (λ (r : List ℕ). four_bytes (four_at codes (4 * at)) ++ r) (codes_again codes levels n (suc at) h (omega arith) ∙ ap (λ (i : ℕ). drop i codes) z)
    ∙ sym (four_ahead codes (4 * at) h (omega arith))

levels_again : (codes levels : List ℕ) (n at : ℕ) → length levels ≡ at + n → level_bytes (entries_at codes levels n at) ≡ drop at levels
unfolding entries_at
levels_again codes levels zero at e = let z : at ≡ length levels = omega arith in rw (z, drop-length levels)
levels_again codes levels (suc n) at e =
    ap (λ (r : List ℕ). get_or levels at 0 ∷ r) (levels_again codes levels n (suc at) (omega arith)) ∙ sym (drop-cons levels at 0 (omega arith))

module _ (bytes : List ℕ) (formed : WellFormed bytes) where
  pub length_codes : length (codes_part bytes) ≡ 4 * entry_number bytes
  length_codes = length-take-le (4 * entry_number bytes) (drop header_length bytes) (omega (arith, length-drop header_length bytes, formed.arrays))

  pub length_levels : length (levels_part bytes) ≡ entry_number bytes
  length_levels = length-take-le (entry_number bytes) (drop (levels_start (entry_number bytes)) bytes) (omega (arith, length-drop (levels_start (entry_number bytes)) bytes, formed.arrays))

  -- after the header come the codes and the levels
  two_parts : drop header_length bytes ≡ codes_part bytes ++ levels_part bytes
  two_parts =
      let e : ℕ = entry_number bytes in
      let levels : drop (levels_start e) bytes ≡ levels_part bytes =
      sym (take_all e (drop (levels_start e) bytes) (omega (arith, length-drop (levels_start e) bytes, formed.arrays))) in
      sym (take-append-drop (4 * e) (drop header_length bytes)) ∙ ap (λ (l : List ℕ). codes_part bytes ++ l) (drop-drop (4 * e) header_length bytes ∙ levels)

  arrays_again : Bytes bytes → arrays (entries_of bytes) ≡ drop header_length bytes
  arrays_again h =
      let e : ℕ = entry_number bytes in
      ap₂ ◌++◌ (codes_again (codes_part bytes) (levels_part bytes) e 0 (bytes_take (4 * e) (drop header_length bytes) (bytes_drop header_length bytes h)) (omega (arith, length_codes)))
      (levels_again (codes_part bytes) (levels_part bytes) e 0 (omega (arith, length_levels)))
      ∙ sym two_parts

  -- m and k, the number of entries and that of pixels, and the arrays
  pub bytes_again : (panel : Panel) → Bytes bytes → get_or bytes 0 0 ≡ panel.order → get_or bytes 1 0 ≡ panel.k
      → header panel (entry_number bytes) (pixel_number bytes) ++ arrays (entries_of bytes) ≡ bytes
  bytes_again panel h order k =
      let ten = formed.header in
      let head : bytes ≡ get_or bytes 0 0 ∷ get_or bytes 1 0 ∷ drop 2 bytes =
      drop-cons bytes 0 0 (omega arith) ∙ ap (λ (r : List ℕ). get_or bytes 0 0 ∷ r) (drop-cons bytes 1 0 (omega arith)) in
      let rest : drop 2 bytes ≡ four_bytes (entry_number bytes) ++ (four_bytes (pixel_number bytes) ++ arrays (entries_of bytes)) =
      four_ahead bytes 2 h (omega arith) ∙ ap (λ (r : List ℕ). four_bytes (entry_number bytes) ++ r)
      (four_ahead bytes 6 h (omega arith) ∙ ap (λ (r : List ℕ). four_bytes (pixel_number bytes) ++ r) (sym (arrays_again h))) in
      sym (head ∙ ap₂ (λ (m n : ℕ). m ∷ n ∷ drop 2 bytes) order k ∙ ap (λ (r : List ℕ). panel.order ∷ panel.k ∷ r) rest)
