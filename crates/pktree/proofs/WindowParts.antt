-- What a window finds, opens and tests singly among elements, from what it finds, opens and tests in their parts.
use Prim.Native.Nat.{ℕ, suc, ◌+◌, ◌^◌, ◌≤◌, ◌<◌}
use native.Mathlib.Omega.{arith}
use native.Mathlib.Nat.{zero-add}
use mathlib.Core.Path.{◌≡◌, refl, ap, ap₂, sym, ◌∙◌}
use mathlib.Core.Bool.{Bool, true, false, not, ◌&&◌, cond, false≢true}
use mathlib.Core.List.{List, [], ◌∷◌, ◌++◌, append-nil}
use lib.ListN.{length, length-append}
use Rattle.pktree.specs.Lists.{select, total}
use Rattle.pktree.specs.Elements.{Forest, empty, pixel, block, ◌⧺◌, block_at, size}
use Rattle.pktree.specs.Tree.{BlockOf, block_of, blocks, pixels}
use Rattle.pktree.specs.Window.{Window, in_window, found, shares_pixel, wholly_inside, over_edge, opened_by_window, crossed_by_window, tested_by_window}
use Rattle.pktree.proofs.Absurd.{false_unless}
use Rattle.pktree.proofs.Arranged.{Arranged, LocallyRight, arranged_le}
use Rattle.pktree.proofs.Forests.{block_count, length_blocks, pixels_join, blocks_join}
use Rattle.pktree.proofs.Windows.{shares_pixel_exactly}

-- a list and what passes a test of it
cond_append : {A : Type 0} (b : Bool) (a : A) (l r : List A) → cond b (a ∷ (l ++ r)) (l ++ r) ≡ cond b (a ∷ l) l ++ r
cond_append true a l r = refl
cond_append false a l r = refl

pub select_join : {A : Type 0} (test : A → Bool) (l r : List A) → select test (l ++ r) ≡ select test l ++ select test r
select_join test [] r = refl
select_join test (a ∷ l) r = rw (select_join test l r) (cond_append (test a) a (select test l) (select test r))

cond_short : {A : Type 0} (b : Bool) (a : A) (l : List A) (n : ℕ) → length l ≤ n → length (cond b (a ∷ l) l) ≤ suc n
cond_short true a l n h = omega arith
cond_short false a l n h = omega arith

select_short : {A : Type 0} (test : A → Bool) (l : List A) → length (select test l) ≤ length l
select_short test [] = omega arith
select_short test (a ∷ l) = cond_short (test a) a (select test l) (length l) (select_short test l)

pub total_join : {A : Type 0} (number : A → ℕ) (l r : List A) → total number (l ++ r) ≡ total number l + total number r
total_join number [] r = omega arith
total_join number (a ∷ l) r = omega (arith, total_join number l r)

-- what passes one test and another is none where nothing passes the one
none_of_both : {A : Type 0} (one other : A → Bool) (l : List A) → length (select one l) ≡ 0 → select (λ a. one a && other a) l ≡ []
none_of_both one other [] none = refl
none_of_both one other (a ∷ l) none = go (one a) none (none_of_both one other l)
  where
    go : (t : Bool) → length (cond t (a ∷ select one l) (select one l)) ≡ 0 → (length (select one l) ≡ 0 → select (λ x. one x && other x) l ≡ [])
        → cond (t && other a) (a ∷ select (λ x. one x && other x) l) (select (λ x. one x && other x) l) ≡ []
    go true e rest = absurd (omega arith)
    go false e rest = rest e

-- no more is found and opened than there is
pub found_few : (window : Window) (set : List ℕ) → length (found window set) ≤ length set
found_few window set = select_short (in_window window) set

-- whichever blocks a walk opens
blocks_few : (test : BlockOf → Bool) (f : Forest) → length (select test (blocks f)) ≤ block_count f
blocks_few test f = omega (arith, select_short test (blocks f), length_blocks f)

pub opened_few : (window : Window) (f : Forest) → opened_by_window window f ≤ block_count f
opened_few window f = blocks_few (shares_pixel window) f

pub crossed_few : (window : Window) (f : Forest) → crossed_by_window window f ≤ block_count f
crossed_few window f = blocks_few (over_edge window) f

-- joined elements
pub found_join : (window : Window) (f g : Forest) → found window (pixels (f ⧺ g)) ≡ found window (pixels f) ++ found window (pixels g)
found_join window f g = rw (pixels_join f g) (select_join (in_window window) (pixels f) (pixels g))

selected_join : (test : BlockOf → Bool) (f g : Forest) → length (select test (blocks (f ⧺ g))) ≡ length (select test (blocks f)) + length (select test (blocks g))
selected_join test f g = rw (blocks_join f g, select_join test (blocks f) (blocks g)) (length-append (select test (blocks f)) (select test (blocks g)))

pub opened_join : (window : Window) (f g : Forest) → opened_by_window window (f ⧺ g) ≡ opened_by_window window f + opened_by_window window g
opened_join window f g = selected_join (shares_pixel window) f g

pub crossed_join : (window : Window) (f g : Forest) → crossed_by_window window (f ⧺ g) ≡ crossed_by_window window f + crossed_by_window window g
crossed_join window f g = selected_join (over_edge window) f g

pub tested_join : (window : Window) (f g : Forest) → tested_by_window window (f ⧺ g) ≡ tested_by_window window f + tested_by_window window g
tested_join window f g =
    rw (blocks_join f g, select_join (over_edge window) (blocks f) (blocks g))
    (total_join _ (select (over_edge window) (blocks f)) (select (over_edge window) (blocks g)))

-- what count opens in a block: itself if it lies over the window's edge, and what it opens in its elements
pub crossed_block
    : (window : Window) (i c : ℕ) (es : Forest)
    → crossed_by_window window (block i c es empty) ≡ cond (over_edge window (block_of i c es)) 1 0 + crossed_by_window window es
crossed_block window i c es = rw (append-nil (blocks es)) (go (over_edge window (block_of i c es)))
  where
    go : (t : Bool) → length (cond t (block_of i c es ∷ select (over_edge window) (blocks es)) (select (over_edge window) (blocks es))) ≡ cond t 1 0 + crossed_by_window window es
    go true = omega arith
    go false = omega arith

-- what is tested in a block: its elements if it lies over the window's edge, and what is tested in these
pub tested_block
    : (window : Window) (i c : ℕ) (es : Forest)
    → tested_by_window window (block i c es empty) ≡ cond (over_edge window (block_of i c es)) (size es) 0 + tested_by_window window es
tested_block window i c es = rw (append-nil (blocks es)) (go (over_edge window (block_of i c es)))
  where
    go : (t : Bool) → total (λ b. size b.elements) (cond t (block_of i c es ∷ select (over_edge window) (blocks es)) (select (over_edge window) (blocks es))) ≡ cond t (size es) 0 + tested_by_window window es
    go true = refl
    go false = rw zero-add

-- so a block that has pixels in the window and others outside it has all its elements tested
pub edge_tested
    : (window : Window) (i c : ℕ) (es : Forest)
    → shares_pixel window (block_of i c es) ≡ true → wholly_inside window (block_of i c es) ≡ false
    → tested_by_window window (block i c es empty) ≡ size es + tested_by_window window es
edge_tested window i c es shares out = rw (tested_block window i c es, shares, out)

pub edge_crossed
    : (window : Window) (i c : ℕ) (es : Forest)
    → shares_pixel window (block_of i c es) ≡ true → wholly_inside window (block_of i c es) ≡ false
    → crossed_by_window window (block i c es empty) ≡ suc (crossed_by_window window es)
edge_crossed window i c es shares out = rw (crossed_block window i c es, shares, out) (omega arith)

at_most : (t : Bool) (n : ℕ) → cond t n 0 ≤ n
at_most true n = omega arith
at_most false n = omega arith

-- an element is tested once at most, and the outermost are not tested: with them it is at most all pixels and blocks
pub tested_few : (window : Window) (f : Forest) → size f + tested_by_window window f ≤ length (pixels f) + block_count f
tested_few window empty = omega arith
tested_few window (pixel c f) = omega (arith, tested_few window f)
tested_few window (block_at u i c es f) =
    omega (
      arith,
      tested_join window (block i c es empty) f,
      tested_block window i c es,
      at_most (over_edge window (block_of i c es)) (size es),
      length-append (pixels es) (pixels f),
      tested_few window es,
      tested_few window f,
    )

-- no code of this run is in the window
abbrev Outside : Window → ℕ → ℕ → Type 0
Outside window from to = (code : ℕ) → from ≤ code → code < to → in_window window code ≡ true → ⊥

-- then nothing that lies in the run is found or opened
nothing_outside : (window : Window) (k n from to : ℕ) (f : Forest) → Arranged k n from to f → Outside window from to
    → (found window (pixels f) ≡ []) × (select (shares_pixel window) (blocks f) ≡ [])
nothing_outside window k n from to empty h out = (refl, refl)
nothing_outside window k n from to (pixel c f) h out =
    let rest = nothing_outside window k n (suc c) to f h.1 (λ code p q. out code (omega arith) q) in
    let no : in_window window c ≡ false = false_unless _ (out c h.0 (omega (arith, arranged_le k n (suc c) to f h.1))) in
    (rw no rest.0, rest.1)
nothing_outside window k n from to (block_at v i c es f) h out =
    let end = arranged_le k n (c + 4 ^ i) to f h.7 in
    let inside = nothing_outside window k i c (c + 4 ^ i) es h.6 (λ code p q. out code (omega arith) (omega arith)) in
    let rest = nothing_outside window k n (c + 4 ^ i) to f h.7 (λ code p q. out code (omega arith) q) in
    let no : shares_pixel window (block_of i c es) ≡ false =
    false_unless _ (λ t. let s = (shares_pixel_exactly window (block_of i c es)).0 t in out s.0 (omega (arith, s.1)) (omega (arith, s.2)) s.3) in (
      select_join (in_window window) (pixels es) (pixels f) ∙ ap₂ ◌++◌ inside.0 rest.0,
      rw no (select_join (shares_pixel window) (blocks es) (blocks f) ∙ ap₂ ◌++◌ inside.1 rest.1),
    )

-- what is not opened does not lie over the edge either
none_over_edge : (window : Window) (f : Forest) → opened_by_window window f ≡ 0 → select (over_edge window) (blocks f) ≡ []
none_over_edge window f none = none_of_both (shares_pixel window) (λ b. not (wholly_inside window b)) (blocks f) none

-- a block that has no pixel in common with the window
pub record NothingSeen (window : Window) (f : Forest) : Type 0 where
  pub none_found : found window (pixels f) ≡ []
  pub none_opened : opened_by_window window f ≡ 0
  pub none_crossed : crossed_by_window window f ≡ 0
  pub none_tested : tested_by_window window f ≡ 0

pub block_apart
    : (window : Window) (k i c : ℕ) (es : Forest) → LocallyRight k i c es → shares_pixel window (block_of i c es) ≡ false → NothingSeen window (block i c es empty)
block_apart window k i c es right e =
    let shares = shares_pixel_exactly window (block_of i c es) in
    let inside = nothing_outside window k i c (c + 4 ^ i) es right.arranged (λ code p q t. false≢true (sym e ∙ shares.1 (code, p, q, t))) in
    let opened : opened_by_window window (block i c es empty) ≡ 0 = rw (e, append-nil (blocks es)) (ap length inside.1) in
    let none = none_over_edge window (block i c es empty) opened in
    record { none_found = rw (append-nil (pixels es)) inside.0; none_opened = opened; none_crossed = ap length none; none_tested = rw none }

-- a block that has one is opened, and its elements are looked at
pub record OneOpened (window : Window) (f es : Forest) : Type 0 where
  pub same_found : found window (pixels f) ≡ found window (pixels es)
  pub one_opened : opened_by_window window f ≡ suc (opened_by_window window es)

pub block_opened : (window : Window) (i c : ℕ) (es : Forest) → shares_pixel window (block_of i c es) ≡ true → OneOpened window (block i c es empty) es
block_opened window i c es e = record { same_found = rw (append-nil (pixels es)); one_opened = rw (e, append-nil (blocks es)) }
