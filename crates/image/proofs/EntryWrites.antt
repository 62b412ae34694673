-- Entries written one after another: the lengths, entries of joined elements, and the bytes that all entries of an image leave.
use Prim.Native.Nat.{ℕ, suc, ◌+◌, ◌*◌, ◌≤◌}
use native.Mathlib.Omega.{arith}
use native.Mathlib.Nat.{add-zero, add-suc, suc-add}
use mathlib.Core.Path.{◌≡◌, refl, ap, ap₂, sym, ◌∙◌}
use mathlib.Core.List.{List, [], ◌∷◌, ◌++◌, append_assoc, append-nil}
use lib.ListN.{length, take, drop, set, length-append, length-drop, length-set, take-append-drop}
use lib.Seq.{sets, sets-eq, length-sets, take_at, drop_at, drop-drop, length-take-le}
use Rattle.pktree.specs.Entries.{Entry}
use Rattle.pktree.specs.Image.{four_bytes, code_bytes, level_bytes, header_length}
use Rattle.image.specs.Writing.{put_four, put_entry, put_entries, HeaderPut}

-- stores keep the length
pub length_put_entry : (n at : ℕ) (output : List ℕ) (level code : ℕ) → length (put_entry n at output level code) ≡ length output
length_put_entry n at output level code =
    length-set (put_four output (header_length + 4 * at) code) (header_length + 4 * n + at) level ∙ length-sets output (header_length + 4 * at) (four_bytes code)

-- entries, then those after them
pub put_entries_append : (n at : ℕ) (output : List ℕ) (a b : List Entry)
    → put_entries n at output (a ++ b) ≡ put_entries n (at + length a) (put_entries n at output a) b
put_entries_append n at output [] b = rw add-zero
put_entries_append n at output (e ∷ a) b =
    rw (add-suc at (length a), ← suc-add at (length a)) (put_entries_append n (suc at) (put_entry n at output e.level e.code) a b)

-- values stored over as many others
sets_at : (start old values rest : List ℕ) (i : ℕ) → length start ≡ i → length old ≡ length values
    → sets (start ++ (old ++ rest)) i values ≡ start ++ (values ++ rest)
sets_at start old values rest i e n =
    let l : length (start ++ (old ++ rest)) ≡ i + (length values + length rest) = omega (arith, length-append start (old ++ rest), length-append old rest) in
    let t : take i (start ++ (old ++ rest)) ≡ start = take_at start (old ++ rest) i e in
    let d : drop (i + length values) (start ++ (old ++ rest)) ≡ rest =
    rw (← append_assoc start old rest) (drop_at (start ++ old) rest (i + length values) (omega (arith, length-append start old))) in
    sets-eq values (start ++ (old ++ rest)) i (omega arith) ∙ ap₂ (λ (a b : List ℕ). (a ++ values) ++ b) t d ∙ append_assoc start values rest

-- the stores of the header are one run of ten
pub header_lands : (output : List ℕ) (order k e n : ℕ) → header_length ≤ length output
    → put_four (put_four (set (set output 0 order) 1 k) 2 e) 6 n ≡ (order ∷ k ∷ []) ++ (four_bytes e ++ (four_bytes n ++ drop header_length output))
header_lands output order k e n h = sets-eq ((order ∷ k ∷ []) ++ (four_bytes e ++ four_bytes n)) output 0 h

-- the header takes the place of ten bytes
pub length_headed : {before headed : List ℕ} {order k e n : ℕ} → HeaderPut before order k e n headed → header_length ≤ length before → length headed ≡ length before
length_headed {before} h long = omega (arith, ap length h.is, length-drop header_length before)

-- one entry takes the four bytes after the codes before it, and the byte after the levels before it;
-- `gap` are the codes still to come, `past` is what follows the levels
put_entry_lands : (n at level code : ℕ) (start old gap levels one past : List ℕ) → length start ≡ header_length + 4 * at → length old ≡ 4
    → 4 * at + (4 + length gap) ≡ 4 * n → length levels ≡ at → length one ≡ 1
    → put_entry n at (start ++ ((old ++ gap) ++ (levels ++ (one ++ past)))) level code
    ≡ (start ++ four_bytes code) ++ (gap ++ ((levels ++ (level ∷ [])) ++ past))
put_entry_lands n at level code start old gap levels one past hs ho hg hl h1 =
    let till : List ℕ = ((start ++ four_bytes code) ++ gap) ++ levels in
    let lt : length till ≡ header_length + 4 * n + at =
    omega (arith, length-append ((start ++ four_bytes code) ++ gap) levels, length-append (start ++ four_bytes code) gap, length-append start (four_bytes code)) in
    let f : put_four (start ++ ((old ++ gap) ++ (levels ++ (one ++ past)))) (header_length + 4 * at) code ≡ till ++ (one ++ past) =
    rw (append_assoc old gap (levels ++ (one ++ past)), sets_at start old (four_bytes code) (gap ++ (levels ++ (one ++ past))) (header_length + 4 * at) hs ho)
    (simp append_assoc) in
    rw (f, sets_at till one (level ∷ []) past (header_length + 4 * n + at) lt h1) (simp append_assoc)

-- the last entries of n, after `at` others
put_entries_land : (n at : ℕ) (start gap levels past : List ℕ) (l : List Entry) → length start ≡ header_length + 4 * at → length gap ≡ 4 * length l
    → length levels ≡ at → at + length l ≡ n → length l ≤ length past
    → put_entries n at (start ++ (gap ++ (levels ++ past))) l ≡ (start ++ code_bytes l) ++ ((levels ++ level_bytes l) ++ drop (length l) past)
put_entries_land n at start [] levels past [] hs hg hl hn hp = simp append-nil
put_entries_land n at start (b ∷ gap) levels past [] hs hg hl hn hp = absurd (omega arith)
put_entries_land n at start gap levels [] (e ∷ l) hs hg hl hn hp = absurd (omega arith)
put_entries_land n at start gap levels (b ∷ past) (e ∷ l) hs hg hl hn hp =
    let four : List ℕ = four_bytes e.code in
    let step : put_entry n at (start ++ (gap ++ (levels ++ (b ∷ past)))) e.level e.code
    ≡ (start ++ four) ++ (drop 4 gap ++ ((levels ++ (e.level ∷ [])) ++ past)) =
    ap (λ (g : List ℕ). put_entry n at (start ++ (g ++ (levels ++ (b ∷ past)))) e.level e.code) (sym (take-append-drop 4 gap))
    ∙ put_entry_lands n at e.level e.code start (take 4 gap) (drop 4 gap) levels (b ∷ []) past hs (length-take-le 4 gap (omega arith))
    (omega (arith, length-drop 4 gap)) hl refl in
    ap (λ (o : List ℕ). put_entries n (suc at) o l) step
    ∙ put_entries_land n (suc at) (start ++ four) (drop 4 gap) (levels ++ (e.level ∷ [])) past l (omega (arith, length-append start four))
    (omega (arith, length-drop 4 gap)) (omega (arith, length-append levels (e.level ∷ []))) (omega arith) (omega arith)
    ∙ simp append_assoc

-- all entries of an image, after a header of ten bytes
pub all_entries_land : (head rest : List ℕ) (l : List Entry) → length head ≡ header_length → 5 * length l ≤ length rest
    → put_entries (length l) 0 (head ++ rest) l ≡ head ++ (code_bytes l ++ (level_bytes l ++ drop (5 * length l) rest))
all_entries_land head rest l ten room =
    let n : ℕ = length l in
    let e : 4 * n + n ≡ 5 * n = omega arith in
    ap (λ (r : List ℕ). put_entries n 0 (head ++ r) l) (sym (take-append-drop (4 * n) rest))
    ∙ put_entries_land n 0 head (take (4 * n) rest) [] (drop (4 * n) rest) l ten (length-take-le (4 * n) rest (omega arith)) refl (omega arith)
    (omega (arith, length-drop (4 * n) rest))
    ∙ rw (drop-drop n (4 * n) rest, e) (append_assoc head (code_bytes l) (level_bytes l ++ drop (5 * n) rest))
