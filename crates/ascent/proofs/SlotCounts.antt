-- Slots moved about: what counts is how often each slot is in a list.
use Prim.Native.Nat.{ℕ, ◌+◌, ◌≤◌, ◌<◌}
use native.Mathlib.Omega.{arith}
use native.Mathlib.Decide.{dec_lt}
use mathlib.Core.Path.{◌≡◌, refl, ap, ◌∙◌}
use mathlib.Core.List.{List, [], ◌∷◌, ◌++◌}
use Rattle.pktree.specs.Elements.{◌⧺◌, block_at}
use Rattle.pktree.specs.Lists.{Every}
use Rattle.store.specs.Placed.{Placed, slots_of}
use Rattle.freeslots.specs.FreeSlots.{occurrences}
use Rattle.store.specs.Sound.{SlotsShared}
use Rattle.freeslots.proofs.FreeChains.{occurrences_same, occurrences_other, occurrences_join}
use Rattle.store.proofs.PlacedJoin.{slots_join}
use Rattle.descent.specs.Way.{Frame, plug}
use Rattle.ascent.proofs.Frames.{way_slots}

-- a slot that is in a list is counted there
every_counted : (n : ℕ) (l : List ℕ) → ((t : ℕ) → 1 ≤ occurrences t l → t < n) → Every (λ s. s < n) l
every_counted n [] h = tt
every_counted n (s ∷ l) h = (h s (omega (arith, occurrences_same s l)), every_counted n l (λ t p. h t (more t p)))
  where
    more : (t : ℕ) → 1 ≤ occurrences t l → 1 ≤ occurrences t (s ∷ l)
    more t p = omega (arith, occurrences_join t (s ∷ []) l)

counted_every : (n : ℕ) (l : List ℕ) → Every (λ s. s < n) l → (t : ℕ) → n ≤ t → occurrences t l ≡ 0
counted_every n [] h t p = refl
counted_every n (s ∷ l) h t p = occurrences_other t s l (λ e. omega arith) ∙ counted_every n l h.1 t p

-- lists with the same counts share the slots alike
pub shared_moves : (n : ℕ) (used free used' free' : List ℕ) → SlotsShared n used free
    → ((t : ℕ) → occurrences t (used' ++ free') ≡ occurrences t (used ++ free)) → SlotsShared n used' free'
shared_moves n used free used' free' h same =
    record {
      once = λ t p. same t ∙ h.once t p;
      inside = every_counted n (used' ++ free') (λ t p. go t p (dec_lt t n));
    }
  where
    go : (t : ℕ) → 1 ≤ occurrences t (used' ++ free') → Dec (t < n) → t < n
    go t p (yes q) = q
    go t p (no q) = absurd (omega (arith, same t, counted_every n (used ++ free) h.inside t (omega arith)))

pub plug_slots : (t : ℕ) (way : List Frame) (s i d : ℕ) (es : Placed)
    → occurrences t (slots_of (plug way s i d es)) ≡ occurrences t (way_slots way) + occurrences t (s ∷ slots_of es)
plug_slots t [] s i d es = rw (mathlib.Core.List.append-nil (slots_of es)) (omega arith)
plug_slots t (f ∷ way) s i d es =
    let u : List ℕ = slots_of f.before in
    let v : List ℕ = slots_of f.after in
    let w : List ℕ = way_slots way in
    let p = plug_slots t way f.slot f.level f.code (f.before ⧺ block_at s i d es f.after) in
    omega (
      arith,
      p,
      occurrences_join t (f.slot ∷ []) (slots_of (f.before ⧺ block_at s i d es f.after)),
      ap (occurrences t) (slots_join f.before (block_at s i d es f.after)),
      occurrences_join t u (s ∷ (slots_of es ++ v)),
      occurrences_join t (s ∷ slots_of es) v,
      occurrences_join t (f.slot ∷ []) (u ++ (v ++ w)),
      occurrences_join t u (v ++ w),
      occurrences_join t v w,
    )
