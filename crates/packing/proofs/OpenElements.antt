-- How many elements are open, and how many blocks there are: the stack and the slots suffice.
use Prim.Native.Nat.{ℕ, zero, suc, ◌+◌, ◌-◌, ◌*◌, ◌/◌, ◌^◌, ◌≤◌, ◌<◌}
use native.Mathlib.Omega.{arith}
use native.Mathlib.Nat.{le-div_iff_mul-le, div-div-eq-div-mul, div-eq_of_lt}
use native.Mathlib.Decide.{ℕ_discrete}
use mathlib.Core.Path.{◌≡◌, ap}
use lib.Dec.{eqb}
use lib.ListN.{length}
use borrow.Author.Tests.{eq-eqb, ne_eqb}
use Rattle.pktree.specs.Elements.{ForestOf, empty, pixel, block_at, size}
use Rattle.pktree.specs.Tree.{pixels}
use Rattle.pktree.proofs.Forests.{block_count}
use Rattle.pktree.proofs.Counting.{indicator, indicator_le, count_in}
use Rattle.pktree.proofs.Arranged.{Arranged, count_in_all, count_in_before}
use Rattle.pktree.proofs.Regroup.{count_around}
use Rattle.pktree.proofs.BlockNumber.{blocks_take_pixels}
use Rattle.measures.specs.Sizes.{slot_count}
use Rattle.packing.specs.Growing.{OnlyAround, open_in_block, most_open}

-- an element of a block is in one of its quarters
quarter_indicator : (a q : ℕ) → indicator (eqb (a / 4) q) ≤ indicator (eqb a (4 * q)) + indicator (eqb a (4 * q + 1)) + indicator (eqb a (4 * q + 2)) + indicator (eqb a (4 * q + 3))
quarter_indicator a q = go (ℕ_discrete (a / 4) q) (ℕ_discrete a (4 * q)) (ℕ_discrete a (4 * q + 1)) (ℕ_discrete a (4 * q + 2)) (ℕ_discrete a (4 * q + 3))
  where
    go : Dec (a / 4 ≡ q) → Dec (a ≡ 4 * q) → Dec (a ≡ 4 * q + 1) → Dec (a ≡ 4 * q + 2) → Dec (a ≡ 4 * q + 3)
        → indicator (eqb (a / 4) q) ≤ indicator (eqb a (4 * q)) + indicator (eqb a (4 * q + 1)) + indicator (eqb a (4 * q + 2)) + indicator (eqb a (4 * q + 3))
    go (no p) e0 e1 e2 e3 = omega (arith, ap indicator (ne_eqb (a / 4) q p))
    go (yes p) (yes e) e1 e2 e3 = omega (arith, indicator_le (eqb (a / 4) q), ap indicator (eq-eqb a (4 * q) e))
    go (yes p) (no e0) (yes e) e2 e3 = omega (arith, indicator_le (eqb (a / 4) q), ap indicator (eq-eqb a (4 * q + 1) e))
    go (yes p) (no e0) (no e1) (yes e) e3 = omega (arith, indicator_le (eqb (a / 4) q), ap indicator (eq-eqb a (4 * q + 2) e))
    go (yes p) (no e0) (no e1) (no e2) (yes e) = omega (arith, indicator_le (eqb (a / 4) q), ap indicator (eq-eqb a (4 * q + 3) e))
    go (yes p) (no e0) (no e1) (no e2) (no e3) = absurd (omega arith)

four_less : (l c : ℕ) → c / 4 ^ suc l ≡ c / 4 ^ l / 4
four_less l c = let e : 4 ^ suc l ≡ 4 ^ l * 4 = omega arith in rw (e, div-div-eq-div-mul c (4 ^ l) 4)

indicator_above : (l q c : ℕ) → indicator (eqb (c / 4 ^ suc l) q)
    ≤ indicator (eqb (c / 4 ^ l) (4 * q)) + indicator (eqb (c / 4 ^ l) (4 * q + 1)) + indicator (eqb (c / 4 ^ l) (4 * q + 2)) + indicator (eqb (c / 4 ^ l) (4 * q + 3))
indicator_above l q c = rw (four_less l c) (quarter_indicator (c / 4 ^ l) q)

quarters_count : {A : Type 0} (l q : ℕ) (f : ForestOf A) → count_in (suc l) q f ≤ count_in l (4 * q) f + count_in l (4 * q + 1) f + count_in l (4 * q + 2) f + count_in l (4 * q + 3) f
quarters_count l q empty = omega arith
quarters_count l q (pixel c f) = omega (arith, indicator_above l q c, quarters_count l q f)
quarters_count l q (block_at v i c es f) = omega (arith, indicator_above l q c, quarters_count l q f)

-- three quarters of each block around the next code are complete: so few elements are open
open_around : {A : Type 0} (k m d l : ℕ) (f : ForestOf A) → k ≤ 16 → Arranged k m 0 d f → OnlyAround k m d f → l ≤ m → count_around l d f ≤ open_in_block * l
open_around k m d zero f h a o lm = omega (arith, count_in_before k m 0 (d / 4 ^ 0) 0 d f a (omega arith))
open_around k m d (suc l) f h a o lm =
    go (ℕ_discrete (4 * q) p) (ℕ_discrete (4 * q + 1) p) (ℕ_discrete (4 * q + 2) p) (ℕ_discrete (4 * q + 3) p) (open_around k m d l f h a o (omega arith))
  where
    p : ℕ
    p = d / 4 ^ l

    q : ℕ
    q = d / 4 ^ suc l

    is : {v : ℕ} → v ≡ p → count_around l d f ≤ open_in_block * l → count_in l v f ≤ open_in_block * l
    is e ih = rw e ih

    other : (v : ℕ) → (v ≡ p → ⊥) → count_in l v f ≤ 15
    other v ne = omega (arith, o l v (omega arith) ne)

    go : Dec (4 * q ≡ p) → Dec (4 * q + 1 ≡ p) → Dec (4 * q + 2 ≡ p) → Dec (4 * q + 3 ≡ p) → count_around l d f ≤ open_in_block * l → count_around (suc l) d f ≤ open_in_block * suc l
    go (yes e) e1 e2 e3 ih = omega (arith, quarters_count l q f, is e ih, other (4 * q + 1) (λ z. omega arith), other (4 * q + 2) (λ z. omega arith), other (4 * q + 3) (λ z. omega arith))
    go (no e0) (yes e) e2 e3 ih = omega (arith, quarters_count l q f, other (4 * q) e0, is e ih, other (4 * q + 2) (λ z. omega arith), other (4 * q + 3) (λ z. omega arith))
    go (no e0) (no e1) (yes e) e3 ih = omega (arith, quarters_count l q f, other (4 * q) e0, other (4 * q + 1) e1, is e ih, other (4 * q + 3) (λ z. omega arith))
    go (no e0) (no e1) (no e2) (yes e) ih = omega (arith, quarters_count l q f, other (4 * q) e0, other (4 * q + 1) e1, other (4 * q + 2) e2, is e ih)
    go (no e0) (no e1) (no e2) (no e3) ih = absurd (omega (arith, four_less l d))

-- where the next code is on the panel, all elements lie around it
pub few_open : {A : Type 0} (k m d : ℕ) (f : ForestOf A) → k ≤ 16 → m ≤ 16 → d < 4 ^ m → Arranged k m 0 d f → OnlyAround k m d f → size f ≤ most_open
few_open k m d f h hm dm a o =
    let e : d / 4 ^ m ≡ 0 = div-eq_of_lt dm in
    let n : count_in m 0 f ≡ size f = count_in_all k m m 0 0 d f a (omega arith) (omega arith) in
    omega (arith, n, ap (λ (q : ℕ). count_in m q f) e, open_around k m d m f h a o (omega arith))

-- with an element there, fewer blocks than slots
pub slot_left : {A : Type 0} (k m most to : ℕ) (f : ForestOf A) → 2 ≤ k → Arranged k m 0 to f → 1 ≤ size f → length (pixels f) ≤ most → block_count f < slot_count k most
slot_left zero m most to f h a one n = absurd (omega arith)
slot_left (suc K) m most to f h a one n =
    let e : suc K - 1 ≡ K = omega arith in
    let pos : 0 < K = omega arith in
    let q : block_count f ≤ (most - 1) / K = (le-div_iff_mul-le pos).1 (omega (arith, blocks_take_pixels K m 0 to f a)) in
    rw e (omega arith)
