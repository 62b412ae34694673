-- Slots in use one after the other: the root's, those of the blocks from 1 on, and the free ones after them.
use Prim.Native.Nat.{ℕ, zero, suc, ◌+◌, ◌-◌, ◌≤◌, ◌<◌}
use native.Mathlib.Omega.{arith}
use native.Mathlib.Decide.{dec_lt}
use mathlib.Core.Path.{◌≡◌, refl, ap, sym, ◌∙◌}
use mathlib.Core.List.{List, [], ◌∷◌, ◌++◌, append-nil}
use Rattle.pktree.specs.Lists.{Every}
use Rattle.freeslots.specs.FreeSlots.{occurrences, numbers_from}
use Rattle.store.specs.Sound.{SlotsShared}
use Rattle.freeslots.proofs.FreeChains.{occurrences_join, occurrences_same, occurrences_other}
use Rattle.freeslots.proofs.FreedSlots.{numbers_once}

numbers_join : (first a b : ℕ) → numbers_from first (a + b) ≡ numbers_from first a ++ numbers_from (first + a) b
numbers_join first zero b =
    let e : 0 + b ≡ b = omega arith in
    let e' : first + 0 ≡ first = omega arith in
    rw (e, e')
numbers_join first (suc a) b =
    let e : suc a + b ≡ suc (a + b) = omega arith in
    let e' : first + suc a ≡ suc first + a = omega arith in
    rw (e, e') (ap (λ (l : List ℕ). first ∷ l) (numbers_join (suc first) a b))

-- the next number after n of them
pub next_number : (n next : ℕ) → next ≡ suc n → numbers_from 1 (suc n) ≡ numbers_from 1 n ++ (next ∷ [])
next_number n next is =
    let e : suc n ≡ n + 1 = omega arith in
    let e' : 1 + n ≡ next = omega arith in
    ap (numbers_from 1) e ∙ numbers_join 1 n 1 ∙ ap (λ (m : ℕ). numbers_from 1 n ++ (m ∷ [])) e'

pub numbers_past : (s first n : ℕ) → first + n ≤ s → occurrences s (numbers_from first n) ≡ 0
numbers_past s first zero h = refl
numbers_past s first (suc n) h = occurrences_other s first (numbers_from (suc first) n) (λ e. omega arith) ∙ numbers_past s (suc first) n (omega arith)

-- numbers that do not occur from a limit on are below it
all_below : (limit : ℕ) (l : List ℕ) → ((s : ℕ) → limit ≤ s → occurrences s l ≡ 0) → Every (λ s. s < limit) l
all_below limit [] h = tt
all_below limit (x ∷ l) h = (
  first (dec_lt x limit),
  all_below limit l (λ s b. omega (arith, h s b, occurrences_join s (x ∷ []) l)),
)
  where
    first : Dec (x < limit) → x < limit
    first (yes b) = b
    first (no b) = absurd (omega (arith, h x (omega arith), occurrences_same x l))

-- the slots of blocks numbered from 1 on are below a limit that the last one is below
pub numbered_below : (n limit : ℕ) (l : List ℕ) → suc n ≤ limit → ((s : ℕ) → occurrences s l ≡ occurrences s (numbers_from 1 n)) → Every (λ s. s < limit) l
numbered_below n limit l h same = all_below limit l (λ s b. same s ∙ numbers_past s 1 n (omega arith))

pub shared_out : (slots n : ℕ) (used : List ℕ) → suc n ≤ slots → ((s : ℕ) → occurrences s used ≡ occurrences s (numbers_from 1 n))
    → SlotsShared slots (0 ∷ (used ++ [])) (numbers_from (suc n) (slots - suc n))
shared_out slots n used h same =
    record {
      once = λ s b. all s ∙ numbers_once s 0 slots (omega arith) (omega arith);
      inside = all_below slots ((0 ∷ (used ++ [])) ++ numbers_from (suc n) (slots - suc n)) (λ s b. all s ∙ numbers_past s 0 slots (omega arith));
    }
  where
    rest : List ℕ
    rest = numbers_from (suc n) (slots - suc n)

    parts : numbers_from 0 slots ≡ numbers_from 0 (suc n) ++ rest
    parts =
        let e : suc n + (slots - suc n) ≡ slots = omega arith in
        let e' : 0 + suc n ≡ suc n = omega arith in
        ap (numbers_from 0) (sym e) ∙ numbers_join 0 (suc n) (slots - suc n) ∙ ap (λ (m : ℕ). numbers_from 0 (suc n) ++ numbers_from m (slots - suc n)) e'

    all : (s : ℕ) → occurrences s ((0 ∷ (used ++ [])) ++ rest) ≡ occurrences s (numbers_from 0 slots)
    all s =
        omega (
          arith,
          occurrences_join s (0 ∷ (used ++ [])) rest,
          occurrences_join s (0 ∷ []) (used ++ []),
          ap (occurrences s) (append-nil used),
          ap (occurrences s) parts ∙ occurrences_join s (numbers_from 0 (suc n)) rest,
          occurrences_join s (0 ∷ []) (numbers_from 1 n),
          same s,
        )
