-- Codes written one run after another.
use Rattle.std.proofs.Common.{◌≡◌, ℕ, ◌+◌, ◌<◌, ◌≤◌, List, [], ◌∷◌, ◌++◌, length, take, drop, set, sym, ap, ◌∙◌, ap₂, append_assoc, append-nil, add-zero, add_assoc, add-one, arith, length-append, length-drop, take-append-drop, length-take-le, drop-drop, take_at}
use lib.Seq.{drop-length, drop-append-add, set_split}
use Rattle.collecting.specs.Listing.{written_at}

pub written_none : (output : List ℕ) (at : ℕ) → written_at output at [] ≡ output
written_none output at = rw (add-zero at) (take-append-drop at output)

pub written_one : (output : List ℕ) (at code : ℕ) → at < length output → set output at code ≡ written_at output at (code ∷ [])
written_one output at code h = rw (add-one at) (set_split output at code h)

-- these codes, and then those behind them
pub written_join : (output : List ℕ) (at : ℕ) (a b : List ℕ) → at ≤ length output → written_at (written_at output at a) (at + length a) b ≡ written_at output at (a ++ b)
written_join output at a b h =
    let p : List ℕ = take at output ++ a in
    let q : List ℕ = drop (at + length a) output in
    let lp : length p ≡ at + length a = omega (arith, length-append (take at output) a, length-take-le at output h) in
    let whole : written_at output at a ≡ p ++ q = sym (append_assoc (take at output) a q) in
    let t : take (at + length a) (p ++ q) ≡ p = take_at p q (at + length a) lp in
    let d : drop (at + length a + length b) (p ++ q) ≡ drop (at + length (a ++ b)) output =
    ap (λ (n : ℕ). drop (n + length b) (p ++ q)) (sym lp) ∙ drop-append-add p q (length b) ∙ drop-drop (length b) (at + length a) output ∙ rw (length-append a b, add_assoc) in
    rw (whole, t, d) (append_assoc (take at output) a (b ++ drop (at + length (a ++ b)) output) ∙ rw (append_assoc a b))

pub length_written : (output : List ℕ) (at : ℕ) (codes : List ℕ) → at + length codes ≤ length output → length (written_at output at codes) ≡ length output
length_written output at codes h =
    omega (arith, length-append (take at output) (codes ++ drop (at + length codes) output), length-append codes (drop (at + length codes) output), length-take-le at output (omega arith), length-drop (at + length codes) output)

-- codes that fill the part that was lent, before the rest
pub written_front : (before part codes : List ℕ) (n : ℕ) → n ≡ length codes → n ≤ length before → part ≡ written_at (take n before) 0 codes
    → part ++ drop n before ≡ written_at before 0 codes
written_front before part codes n is room e =
    let l : List ℕ = take n before in
    let full : 0 + length codes ≡ length l = omega (arith, length-take-le n before room) in
    let filled : part ≡ codes = e ∙ ap (λ (i : ℕ). codes ++ drop i l) full ∙ ap (λ (r : List ℕ). codes ++ r) (drop-length l) ∙ append-nil codes in
    let same : n ≡ 0 + length codes = omega arith in
    ap₂ (λ (p : List ℕ) (i : ℕ). p ++ drop i before) filled same
