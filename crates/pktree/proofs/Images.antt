-- An image has length 10 + 5e and bytes below 256, and tells m, k and the set.
use Prim.Native.Nat.{ℕ, suc, ◌+◌, ◌*◌, ◌/◌, ◌%◌, ◌^◌, ◌≤◌, ◌<◌}
use native.Mathlib.Omega.{arith}
use native.Mathlib.Nat.{pow-le-pow_right, div-div-eq-div-mul, mod-eq_of_lt, lt_of_lt_of_le}
use mathlib.Core.Path.{◌≡◌, refl, ap, ap₂, sym, ◌∙◌}
use mathlib.Core.Logic.{◌↔◌}
use mathlib.Core.Bool.{Bool}
use mathlib.Core.List.{List, [], ◌∷◌, ◌++◌}
use lib.ListN.{length, take, drop, length-append}
use lib.Seq.{take_at, drop_at}
use Rattle.pktree.specs.Lists.{Every}
use Rattle.pktree.specs.Panel.{Panel, Valid}
use Rattle.pktree.specs.PixelSet.{member, PixelSet}
use Rattle.pktree.specs.Tree.{tree}
use Rattle.pktree.specs.Entries.{Entry, entry, entries, pixel_entries}
use Rattle.pktree.specs.Image.{four_bytes, code_bytes, level_bytes, header, arrays, image, header_length}
use Rattle.pktree.proofs.Pixels.{pixels_of_set}
use Rattle.pktree.proofs.EntryOrder.{pixel_entries_of_tree, EntryWithin, entries_within}
use Rattle.pktree.proofs.Absurd.{zero_is_not_one}

-- four bytes tell a number below 2 ^ 32
digit : (a b : ℕ) → a % 256 ≡ b % 256 → a / 256 ≡ b / 256 → a ≡ b
digit a b p q = omega arith

pub top_byte : (a : ℕ) → a < 4294967296 → a / 256 / 256 / 256 < 256
top_byte a h =
    let u : a / 256 < 16777216 = omega arith in
    let v : a / 256 / 256 < 65536 = omega (arith, u) in
    omega (arith, v)

second_byte : (a : ℕ) → a / 256 / 256 % 256 ≡ a / 65536 % 256
second_byte a = rw (div-div-eq-div-mul a 256 256)

third_byte : (a : ℕ) → a < 4294967296 → a / 256 / 256 / 256 ≡ a / 16777216 % 256
third_byte a h = sym (mod-eq_of_lt (top_byte a h)) ∙ rw (div-div-eq-div-mul a 256 256, div-div-eq-div-mul a 65536 256)

four_bytes_determine : (a b : ℕ) → a < 4294967296 → b < 4294967296 → four_bytes a ≡ four_bytes b → a ≡ b
four_bytes_determine a b p q e =
    digit a b (cc)
    (digit (a / 256) (b / 256) (cc)
    (digit (a / 256 / 256) (b / 256 / 256) (second_byte a ∙ (cc) ∙ sym (second_byte b)) (third_byte a p ∙ (cc) ∙ sym (third_byte b q))))

pub length_code_bytes : (l : List Entry) → length (code_bytes l) ≡ 4 * length l
length_code_bytes [] = refl
length_code_bytes (e ∷ l) = omega (arith, length_code_bytes l)

pub length_level_bytes : (l : List Entry) → length (level_bytes l) ≡ length l
length_level_bytes [] = refl
length_level_bytes (e ∷ l) = ap suc (length_level_bytes l)

length_arrays : (l : List Entry) → length (arrays l) ≡ 5 * length l
length_arrays l = omega (arith, length-append (code_bytes l) (level_bytes l), length_code_bytes l, length_level_bytes l)

pub image_length_lem : (panel : Panel) (set : List ℕ) → length (image panel set) ≡ header_length + 5 * length (entries (tree panel (member set)))
image_length_lem panel set = omega (arith, length_arrays (entries (tree panel (member set))))

-- two lists that are cut at the same place
cut_left : {A : Type 0} (a b a' b' : List A) → length a ≡ length a' → a ++ b ≡ a' ++ b' → a ≡ a'
cut_left a b a' b' e p = sym (take_at a b (length a) refl) ∙ ap (take (length a)) p ∙ take_at a' b' (length a) (sym e)

cut_right : {A : Type 0} (a b a' b' : List A) → length a ≡ length a' → a ++ b ≡ a' ++ b' → b ≡ b'
cut_right a b a' b' e p = sym (drop_at a b (length a) refl) ∙ ap (drop (length a)) p ∙ drop_at a' b' (length a) (sym e)

-- the arrays tell the entries
columns_determine : (l l' : List Entry) (top top' : ℕ) → Every (EntryWithin 4294967296 top) l → Every (EntryWithin 4294967296 top') l'
    → code_bytes l ≡ code_bytes l' → level_bytes l ≡ level_bytes l' → l ≡ l'
columns_determine [] [] t t' h h' p q = refl
columns_determine [] (e ∷ l') t t' h h' p q = zero_is_not_one (cc)
columns_determine (e ∷ l) [] t t' h h' p q = zero_is_not_one (cc)
columns_determine (e ∷ l) (e' ∷ l') t t' h h' p q =
    let c : e.code ≡ e'.code =
    four_bytes_determine e.code e'.code h.0.0 h'.0.0 (cut_left (four_bytes e.code) (code_bytes l) (four_bytes e'.code) (code_bytes l') refl p) in
    let v : e.level ≡ e'.level = cc in
    let r : l ≡ l' =
    columns_determine l l' t t' h.1 h'.1 (cut_right (four_bytes e.code) (code_bytes l) (four_bytes e'.code) (code_bytes l') refl p) (cc) in
    ap₂ ◌∷◌ (ap₂ entry v c) r

arrays_determine : (l l' : List Entry) (top top' : ℕ) → Every (EntryWithin 4294967296 top) l → Every (EntryWithin 4294967296 top') l'
    → arrays l ≡ arrays l' → l ≡ l'
arrays_determine l l' t t' h h' e =
    let n : length (code_bytes l) ≡ length (code_bytes l') =
    omega (arith, length_code_bytes l, length_code_bytes l', length_arrays l, length_arrays l', ap length e) in
    columns_determine l l' t t' h h' (cut_left (code_bytes l) (level_bytes l) (code_bytes l') (level_bytes l') n e)
    (cut_right (code_bytes l) (level_bytes l) (code_bytes l') (level_bytes l') n e)

within_32_bits : (m top : ℕ) (l : List Entry) → m ≤ 16 → Every (EntryWithin (4 ^ m) top) l → Every (EntryWithin 4294967296 top) l
within_32_bits m top [] h p = tt
within_32_bits m top (e ∷ l) h p = ((lt_of_lt_of_le p.0.0 (pow-le-pow_right (omega arith) h), p.0.1), within_32_bits m top l h p.1)

pub entries_in_32_bits : (panel : Panel) (M : ℕ → Bool) → Valid panel → Every (EntryWithin 4294967296 panel.order) (entries (tree panel M))
entries_in_32_bits panel M valid = within_32_bits panel.order panel.order (entries (tree panel M)) valid.order_to (entries_within panel M valid)

panel_equal : (p p' : Panel) → p.order ≡ p'.order → p.k ≡ p'.k → p ≡ p'
panel_equal p p' e f = λ i. record { order = e i; k = f i }

-- two images are the same bytes exactly when m, k and the sets are the same
pub image_determines_set : (panel panel' : Panel) (set set' : List ℕ) → Valid panel → Valid panel' → PixelSet panel set → PixelSet panel' set'
    → (image panel set ≡ image panel' set') ↔ ((panel ≡ panel') × (set ≡ set'))
image_determines_set panel panel' set set' v v' s s' = (to, (λ p. ap₂ image p.0 p.1))
  where
    es : List Entry
    es = entries (tree panel (member set))

    es' : List Entry
    es' = entries (tree panel' (member set'))

    set_of : (p : Panel) (l : List ℕ) → Valid p → PixelSet p l → pixel_entries (entries (tree p (member l))) ≡ l
    set_of p l valid h = pixel_entries_of_tree p (member l) valid ∙ pixels_of_set p l h

    to : image panel set ≡ image panel' set' → (panel ≡ panel') × (set ≡ set')
    to e =
        let a : arrays es ≡ arrays es' = ap (drop header_length) e in
        let f : es ≡ es' =
        arrays_determine es es' panel.order panel'.order (entries_in_32_bits panel (member set) v) (entries_in_32_bits panel' (member set') v') a in
        (panel_equal panel panel' (cc) (cc), sym (set_of panel set v s) ∙ ap pixel_entries f ∙ set_of panel' set' v' s')

-- every byte is below 256
Byte : ℕ → Type 0
Byte b = b < 256

bytes_join : (a b : List ℕ) → Every Byte a → Every Byte b → Every Byte (a ++ b)
bytes_join [] b p q = q
bytes_join (x ∷ a) b p q = (p.0, bytes_join a b p.1 q)

four_bytes_lem : (n : ℕ) → Every Byte (four_bytes n)
unfolding Byte
four_bytes_lem n = (omega arith, (omega arith, (omega arith, (omega arith, tt))))

code_bytes_lem : (l : List Entry) → Every Byte (code_bytes l)
code_bytes_lem [] = tt
code_bytes_lem (e ∷ l) = bytes_join (four_bytes e.code) (code_bytes l) (four_bytes_lem e.code) (code_bytes_lem l)

level_bytes_lem : (to top : ℕ) (l : List Entry) → top ≤ 16 → Every (EntryWithin to top) l → Every Byte (level_bytes l)
unfolding Byte
level_bytes_lem to top [] h p = tt
level_bytes_lem to top (e ∷ l) h p = (omega arith, level_bytes_lem to top l h p.1)

pub image_is_bytes : (panel : Panel) (set : List ℕ) → Valid panel → Every (λ b. b < 256) (image panel set)
unfolding Byte
image_is_bytes panel set valid =
    let es : List Entry = entries (tree panel (member set)) in
    bytes_join (header panel (length es) (length set)) (arrays es)
    (omega (arith, valid), (omega (arith, valid), bytes_join (four_bytes (length es)) (four_bytes (length set)) (four_bytes_lem (length es)) (four_bytes_lem (length set))))
    (bytes_join (code_bytes es) (level_bytes es) (code_bytes_lem es)
    (level_bytes_lem (4 ^ panel.order) panel.order es valid.order_to (entries_within panel (member set) valid)))
