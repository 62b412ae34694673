-- The elements near a code: in ascending order those in one block around it are one run around its place.
use Prim.Native.Nat.{ℕ, zero, suc, ◌+◌, ◌-◌, ◌*◌, ◌/◌, ◌^◌, ◌≤◌, ◌<◌}
use mathlib.Core.Path.{◌≡◌}
use mathlib.Core.Logic.{⊎_elim}
use mathlib.Core.List.{List}
use lib.ListN.{length, get_or, take, drop}
use Rattle.std.proofs.lemmas.List.{take_all, length-drop, get_or-drop}
use native.Mathlib.Nat.{lt_of_not-le, le-div_iff_mul-le, div-mul-le_self, eq-or-lt_of_le, le_refl}
use native.Mathlib.Omega.{arith}
use native.Mathlib.Decide.{dec_lt, ℕ_discrete}
use borrow.Author.Tests.{eq-eqb, ne_eqb}
use Rattle.morton.specs.CommonLevel.{CommonLevel}
use Rattle.morton.proofs.Blocks.{block_up}
use Rattle.pktree.proofs.Alignment.{pow_pos}
use Rattle.measures.specs.Slot.{slot_head}
use Rattle.elements.specs.Splice.{code_at, PlaceOf}
use Rattle.elements.specs.RunStart.{RunStart}
use Rattle.runs.specs.Run.{Near, codes_from, count_near, AscendingCodes, LevelBefore, LevelAt, ReachedLeft, ReachedRight, IsRun}

-- all from left' up to right' are near, where x is and so are those from left up to right
pub near_with : (part : List ℕ) (level code x : ℕ) {left right left' right' : ℕ} → ((i : ℕ) → left' ≤ i → i < right' → (i ≡ x → ⊥) → (left ≤ i) × (i < right))
    → Near level code (code_at part x) → ((i : ℕ) → left ≤ i → i < right → Near level code (code_at part i))
    → (i : ℕ) → left' ≤ i → i < right' → Near level code (code_at part i)
near_with part level code x others here near i a b =
    elim (ℕ_discrete i x) [
      | yes e ↦ rw e here
      | no e ↦ let w = others i a b e in near i w.0 w.1
    ]

-- codes whose common block is higher are not near
not_near_at : {c code r : ℕ} (level : ℕ) → CommonLevel c code r → level < r → Near level code c → ⊥
not_near_at level l h e = omega (arith, l.least level e)

-- the words of the elements are the slot's past its head
pub reached_left : {from code level r : ℕ} (part : List ℕ) → RunStart (take (length part - slot_head) (drop slot_head part)) from code level r → ReachedLeft part from code level r
reached_left {from} {code} {level} part h =
    let all : take (length part - slot_head) (drop slot_head part) ≡ drop slot_head part = take_all _ (drop slot_head part) (omega (arith, length-drop slot_head part)) in
    let s : RunStart (drop slot_head part) from code level _ = rw all at h in
    let word : (i : ℕ) → get_or (drop slot_head part) (2 * i) 0 ≡ code_at part i = λ i. get_or-drop slot_head part (2 * i) 0 in
    record { within = s.within; near = λ i a b. rw (← word i) (s.near i a b); ends = λ i a e. s.ends i a (rw (word i) e) }

-- a level of the panel is that of an element, which there is
pub some_before : {part : List ℕ} {i code r : ℕ} → LevelBefore part i code r → r ≤ 16 → 0 < i
some_before l h = lt_of_not-le (λ w. omega (arith, l.missing (omega arith)))

pub some_at : {part : List ℕ} {count i code r : ℕ} → LevelAt part count i code r → r ≤ 16 → i < count
some_at l h = lt_of_not-le (λ w. omega (arith, l.missing w))

-- where all that are near lie from left up to right, they are no more than these places
near_count : (h code : ℕ) (part : List ℕ) (n i left right : ℕ) → ((j : ℕ) → i ≤ j → j < i + n → Near h code (code_at part j) → (left ≤ j) × (j < right)) → count_near h code (codes_from part i n) ≤ right - left
near_count h code part zero i left right inside = omega arith
near_count h code part (suc n) i left right inside =
    elim (ℕ_discrete (code_at part i / 4 ^ h) (code / 4 ^ h)) [
      | yes e ↦
          rw (eq-eqb _ _ e) (omega (arith, inside i (omega arith) (omega arith) e, near_count h code part n (suc i) (suc i) right (λ j p q w. (p, (inside j (omega arith) (omega arith) w).1))))
      | no e ↦ rw (ne_eqb _ _ e) (near_count h code part n (suc i) left right (λ j p q. inside j (omega arith) (omega arith)))
    ]

-- blocks are in the order of their codes
block_mono : (h : ℕ) {a b : ℕ} → a ≤ b → a / 4 ^ h ≤ b / 4 ^ h
block_mono h {a} e = (le-div_iff_mul-le (pow_pos h)).1 (omega (arith, div-mul-le_self a (4 ^ h)))

-- so far outwards: all from left up to right are near at the level reached, and lower blocks hold only such elements, fewer than k
pub record Outward (part : List ℕ) (count k code left right reached : ℕ) : Type 0 where
  pub near : (i : ℕ) → left ≤ i → i < right → Near reached code (code_at part i)
  pub inside : (h j : ℕ) → h < reached → j < count → Near h code (code_at part j) → (left ≤ j) × (j < right)
  pub few : (h : ℕ) → h < reached → count_near h code (codes_from part 0 count) < k

-- the places from left up to right, with the element x outside them, are those from left' up to right'
record OneMore (count left right x left' right' : ℕ) : Type 0 where
  there : x < count
  outside : left ≤ x → x < right → ⊥
  low : left' ≤ left
  high : right ≤ right'
  others : (i : ℕ) → left' ≤ i → i < right' → (i ≡ x → ⊥) → (left ≤ i) × (i < right)

module _ {part : List ℕ} {count code place : ℕ} (ascending : AscendingCodes part count) (at : PlaceOf part count code place) where
  -- ascending codes, at one place too
  codes_up : (i j : ℕ) → i ≤ j → j < count → code_at part i ≤ code_at part j
  codes_up i j p q = ⊎_elim (λ e. rw e (le_refl _)) (λ s. omega (arith, ascending i j s q)) (eq-or-lt_of_le p)

  -- with an element before the place every later one before it is near
  near_before : (h i j : ℕ) → i ≤ j → j < place → Near h code (code_at part i) → Near h code (code_at part j)
  near_before h i j p q e =
      let up : code_at part j ≤ code_at part (place - 1) = codes_up j (place - 1) (omega arith) (omega (arith, at.within)) in
      let below : code_at part j ≤ code = omega (arith, at.before (place - 1) (omega arith)) in
      omega (arith, block_mono h (codes_up i j p (omega (arith, at.within))), block_mono h below)

  -- with an element from the place on every earlier one from it on is near
  near_after : (h i j : ℕ) → place ≤ i → i ≤ j → j < count → Near h code (code_at part j) → Near h code (code_at part i)
  near_after h i j p q r e =
      let above : code ≤ code_at part i = omega (arith, at.after (omega arith), codes_up place i p (omega arith)) in
      omega (arith, block_mono h (codes_up i j q r), block_mono h above)

  -- the widened run is all of the block
  pub run_found : {k left right reached first end : ℕ} → left ≤ place → place ≤ right → Outward part count k code left right reached → ReachedLeft part left code reached first → ReachedRight part count right code reached end → IsRun part count k code reached first (end - first)
  run_found {k} {left} {right} {reached} {first} {end} p q o l r =
      record {
        inside = λ i a b. elim (dec_lt i left) [
          | yes u ↦ l.near i a u
          | no u ↦ elim (dec_lt i right) [
            | yes v ↦ o.near i (omega arith) v
            | no v ↦ r.near i (omega arith) (omega arith)
          ]
        ];
        before = λ i a e. l.ends (first - 1) (omega arith) (near_before reached i (first - 1) (omega arith) (omega arith) e);
        after = λ i a b e. r.ends (omega arith) (near_after reached end i (omega arith) (omega arith) b e);
        least = o.few;
      }

  -- where few are near at a level, lower blocks hold no more
  pub few_reached : {level left right : ℕ} (k h : ℕ) → ReachedLeft part place code level left → ReachedRight part count place code level right → right - left < k → h ≤ level
      → count_near h code (codes_from part 0 count) < k
  few_reached {level} {left} {right} k h l r room low =
      omega (
        arith,
        near_count h code part count 0 left right (λ j a b e.
            let n : Near level code (code_at part j) = block_up _ _ low e in
            let from : left < suc j = lt_of_not-le (λ w. l.ends (left - 1) (omega arith) (near_before level j (left - 1) (omega arith) (omega (arith, l.within)) n)) in
            (omega arith, lt_of_not-le (λ w. r.ends (omega arith) (near_after level right j r.low w (omega arith) n)))),
      )

  module _ {left right below above : ℕ} (p : left ≤ place) (q : place ≤ right) (low : LevelBefore part left code below) (high : LevelAt part count right code above) where
    -- neither side's next element is near at a lower level, so none farther out is
    inside_of : (h j : ℕ) → h < below → h < above → j < count → Near h code (code_at part j) → (left ≤ j) × (j < right)
    inside_of h j u v s e =
        let l : left < suc j = lt_of_not-le (λ w. not_near_at h (low.there (omega arith)) u (near_before h j (left - 1) (omega arith) (omega arith) e)) in
        (omega arith, lt_of_not-le (λ w. not_near_at h (high.there (omega arith)) v (near_after h right j q w s e)))

    -- so lower blocks hold few
    pub few_near : (k h : ℕ) → right - left < k → h < below → h < above → count_near h code (codes_from part 0 count) < k
    few_near k h room u v = omega (arith, near_count h code part count 0 left right (λ j a b. inside_of h j u v (omega arith)))

    -- x is taken, whose level is no higher than that of either side's next element
    taken : {k reached : ℕ} (r x left' right' : ℕ) → r ≤ below → r ≤ above → CommonLevel (code_at part x) code r → right - left < k → OneMore count left right x left' right' → Outward part count k code left right reached → Outward part count k code left' right' r
    taken {k} {reached} r x left' right' u v l room m o =
        let up : reached < suc r = lt_of_not-le (λ w. let i = o.inside r x w m.there l.common in m.outside i.0 i.1) in
        record {
          near = near_with part r code x m.others l.common (λ i a b. block_up _ _ (omega arith) (o.near i a b));
          inside = λ h j a b e. let w = inside_of h j (omega arith) (omega arith) b e in omega arith;
          few = λ h a. few_near k h room (omega arith) (omega arith);
        }

    -- the element below is taken, as it is the nearer
    pub take_left : {k reached : ℕ} → below ≤ above → below ≤ 16 → right ≤ count → right - left < k → Outward part count k code left right reached → Outward part count k code (left - 1) right below
    take_left h s c room =
        let z = some_before low s in
        taken below (left - 1) (left - 1) right (omega arith) h (low.there z) room (omega arith)

    -- or the one above
    pub take_right : {k reached : ℕ} → above < below → above ≤ 16 → right - left < k → Outward part count k code left right reached → Outward part count k code left (right + 1) above
    take_right h s room =
        let c = some_at high s in
        taken above right left (right + 1) (omega arith) (omega arith) (high.there c) room (omega arith)
