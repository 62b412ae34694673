-- Slots counted all together: a list of slots that there are, none twice, has each of them exactly if it is as long as there are slots.
use Prim.Native.Nat.{ℕ, zero, suc, ◌+◌, ◌≤◌, ◌<◌}
use native.Mathlib.Omega.{arith}
use native.Mathlib.Decide.{ℕ_discrete}
use mathlib.Core.Path.{◌≡◌, refl, subst}
use mathlib.Core.List.{List, [], ◌∷◌, ◌++◌}
use lib.ListN.{length, length-append}
use Rattle.pktree.specs.Lists.{Every}
use Rattle.freeslots.specs.FreeSlots.{occurrences}
use Rattle.store.specs.Sound.{SlotsShared}
use Rattle.freeslots.proofs.FreeChains.{occurrences_same, occurrences_other}

-- a slot that is in a list has what every slot there has
pub every_occurs : (P : ℕ → Type 0) (s : ℕ) (l : List ℕ) → Every P l → 1 ≤ occurrences s l → P s
every_occurs P s [] h p = absurd (omega arith)
every_occurs P s (t ∷ l) h p = go (ℕ_discrete t s) (every_occurs P s l h.1)
  where
    go : Dec (t ≡ s) → (1 ≤ occurrences s l → P s) → P s
    go (yes e) f = subst P e h.0
    go (no ne) f = f (omega (arith, occurrences_other s t l ne))

-- how often the slots below n are in a list
abbrev total : ℕ → List ℕ → ℕ
total zero l = 0
total (suc n) l = total n l + occurrences n l

total_of_none : (n : ℕ) → total n [] ≡ 0
total_of_none zero = refl
total_of_none (suc n) = omega (arith, total_of_none n)

total_past : (n s : ℕ) (l : List ℕ) → n ≤ s → total n (s ∷ l) ≡ total n l
total_past zero s l h = refl
total_past (suc n) s l h = omega (arith, total_past n s l (omega arith), occurrences_other n s l (λ e. omega arith))

total_one_more : (n s : ℕ) (l : List ℕ) → s < n → total n (s ∷ l) ≡ suc (total n l)
total_one_more zero s l h = absurd (omega arith)
total_one_more (suc n) s l h = go (ℕ_discrete s n) (total_one_more n s l)
  where
    go : Dec (s ≡ n) → (s < n → total n (s ∷ l) ≡ suc (total n l)) → total (suc n) (s ∷ l) ≡ suc (total (suc n) l)
    go (yes e) f =
        let o : occurrences n (s ∷ l) ≡ suc (occurrences n l) = rw e (occurrences_same n l) in
        omega (arith, total_past n s l (omega arith))
    go (no ne) f = omega (arith, f (omega arith), occurrences_other n s l ne)

total_is_length : (n : ℕ) (l : List ℕ) → Every (λ s. s < n) l → total n l ≡ length l
total_is_length n [] h = total_of_none n
total_is_length n (s ∷ l) h = omega (arith, total_one_more n s l h.0, total_is_length n l h.1)

total_of_ones : (n : ℕ) (l : List ℕ) → ((s : ℕ) → s < n → occurrences s l ≡ 1) → total n l ≡ n
total_of_ones zero l h = refl
total_of_ones (suc n) l h = omega (arith, total_of_ones n l (λ s p. h s (omega arith)), h n (omega arith))

total_few : (n : ℕ) (l : List ℕ) → ((s : ℕ) → occurrences s l ≤ 1) → total n l ≤ n
total_few zero l h = omega arith
total_few (suc n) l h = omega (arith, total_few n l h, h n)

-- none is missing where the total is full
ones_of_total : (n : ℕ) (l : List ℕ) → ((s : ℕ) → occurrences s l ≤ 1) → total n l ≡ n → (s : ℕ) → s < n → occurrences s l ≡ 1
ones_of_total zero l h e s p = absurd (omega arith)
ones_of_total (suc n) l h e s p = go (ℕ_discrete s n) (ones_of_total n l h)
  where
    go : Dec (s ≡ n) → (total n l ≡ n → (t : ℕ) → t < n → occurrences t l ≡ 1) → occurrences s l ≡ 1
    go (yes q) f = rw q (omega (arith, total_few n l h, h n))
    go (no ne) f = f (omega (arith, total_few n l h, h n)) s (omega arith)

pub shared_length : {n : ℕ} {used free : List ℕ} → SlotsShared n used free → length used + length free ≡ n
shared_length {n} {used} {free} h =
    omega (arith, total_is_length n (used ++ free) h.inside, total_of_ones n (used ++ free) h.once, length-append used free)

pub shared_of_length : {n : ℕ} {used free : List ℕ} → ((s : ℕ) → occurrences s (used ++ free) ≤ 1) → Every (λ s. s < n) (used ++ free)
    → length used + length free ≡ n → SlotsShared n used free
shared_of_length {n} {used} {free} few inside full =
    record {
      once = ones_of_total n (used ++ free) few (omega (arith, total_is_length n (used ++ free) inside, length-append used free));
      inside = inside;
    }
