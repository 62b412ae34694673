-- The slots from one on put into the chain, from the last down.
use Prim.Native.Nat.{ℕ, zero, suc, ◌+◌, ◌-◌, ◌≤◌, ◌<◌}
use native.Mathlib.Omega.{arith}
use native.Mathlib.Decide.{ℕ_discrete}
use mathlib.Core.Path.{◌≡◌, refl, ap, sym, ◌∙◌}
use mathlib.Core.List.{List}
use lib.ListN.{length, take, set, length-set}
use lib.Seq.{take-set-le, take-set-lt, get_or-set_same, get_or-set_other}
use Rattle.pktree.specs.Lists.{Every}
use Rattle.measures.specs.Words.{head_words, blocks_index, first_free_index}
use Rattle.measures.specs.declared.sizes.Layout.{Layout}
use Rattle.measures.specs.Layout.{LayoutFits}
use Rattle.freeslots.specs.FreeSlots.{no_slot, occurrences, Released, numbers_from, FreeFrom}
use Rattle.measures.proofs.SlotWrites.{take_less, word_in_front, head_word_set, head_written_then}
use Rattle.freeslots.proofs.FreeChains.{occurrences_same, occurrences_other, chain_released}

-- of the numbers from `first` on, those before it are none
pub numbers_before : (s first n : ℕ) → s < first → occurrences s (numbers_from first n) ≡ 0
numbers_before s first zero h = refl
numbers_before s first (suc n) h = occurrences_other s first (numbers_from (suc first) n) (λ e. omega arith) ∙ numbers_before s (suc first) n (omega arith)

-- each occurs once
pub numbers_once : (s first n : ℕ) → first ≤ s → s < first + n → occurrences s (numbers_from first n) ≡ 1
numbers_once s first zero h l = absurd (omega arith)
numbers_once s first (suc n) h l = go (ℕ_discrete first s) (numbers_once s (suc first) n)
  where
    go : Dec (first ≡ s) → (suc first ≤ s → s < suc first + n → occurrences s (numbers_from (suc first) n) ≡ 1)
        → occurrences s (numbers_from first (suc n)) ≡ 1
    go (yes e) f = rw e (occurrences_same s (numbers_from (suc s) n) ∙ ap suc (numbers_before s (suc s) n (omega arith)))
    go (no ne) f = occurrences_other s first (numbers_from (suc first) n) ne ∙ f (omega arith) (omega arith)

-- none is past the last
pub numbers_inside : (first n limit : ℕ) → first + n ≤ limit → Every (λ s. s < limit) (numbers_from first n)
numbers_inside first zero limit h = tt
numbers_inside first (suc n) limit h = (omega arith, numbers_inside (suc first) n limit (omega arith))

-- a chain that ends at once, and all slots counted as blocks
abbrev pub none_free : Layout → List ℕ → List ℕ
none_free layout words = set (set words first_free_index no_slot) blocks_index layout.slots

pub none_long : (layout : Layout) (words : List ℕ) → length (none_free layout words) ≡ length words
none_long layout words = length-set (set words first_free_index no_slot) blocks_index layout.slots ∙ length-set words first_free_index no_slot

pub none_fits : (layout : Layout) (words : List ℕ) → LayoutFits layout words → LayoutFits layout (none_free layout words)
none_fits layout words fits = record { within = fits.within; lies = omega (arith, fits.lies, none_long layout words) }

pub none_freed : (layout : Layout) (words : List ℕ) → LayoutFits layout words → FreeFrom layout layout.slots (none_free layout words) (none_free layout words)
none_freed layout words fits =
    let e : layout.slots - layout.slots ≡ 0 = omega arith in
    let long = length-set words first_free_index no_slot in
    record {
      long = refl;
      head = refl;
      kept = λ s h. refl;
      counted = get_or-set_same (set words first_free_index no_slot) blocks_index layout.slots 0 (omega (arith, fits.lies));
      chain = rw e (get_or-set_other (set words first_free_index no_slot) blocks_index first_free_index layout.slots 0 (λ z. omega arith)
          ∙ get_or-set_same words first_free_index no_slot 0 (omega (arith, fits.lies)));
      past = refl;
    }

-- one slot released before the chain of those above it
pub one_more_freed : (layout : Layout) (slot : ℕ) (before during after : List ℕ) → LayoutFits layout before → 1 ≤ slot → slot ≤ layout.slots → FreeFrom layout slot before during
    → Released layout.width (slot - 1) (slot - 1) during after → FreeFrom layout (slot - 1) before after
one_more_freed layout slot before during after fits low high f r =
    let named : List ℕ = set (set during first_free_index (slot - 1)) blocks_index (slot - 1) in
    let front : take head_words after ≡ take head_words named =
    r.head ∙ sym (take-set-lt head_words (set during first_free_index (slot - 1)) blocks_index (slot - 1) (omega arith)
    ∙ ap (λ (l : List ℕ). set l blocks_index (slot - 1)) (take-set-lt head_words during first_free_index (slot - 1) (omega arith))) in
    let n : layout.slots - (slot - 1) ≡ suc (layout.slots - slot) = omega arith in
    let s : suc (slot - 1) ≡ slot = omega arith in
    let rest : List ℕ = numbers_from slot (layout.slots - slot) in
    let out : occurrences (slot - 1) rest ≡ 0 = numbers_before (slot - 1) slot (layout.slots - slot) (omega arith) in
    record {
      long = r.long ∙ f.long;
      head = take_less blocks_index head_words named after (omega arith) front ∙ take-set-le blocks_index (set during first_free_index (slot - 1)) blocks_index (slot - 1) (omega arith)
          ∙ take-set-le blocks_index during first_free_index (slot - 1) (omega arith) ∙ f.head;
      counted = word_in_front head_words blocks_index named after (omega arith) front
          ∙ get_or-set_same (set during first_free_index (slot - 1)) blocks_index (slot - 1) 0 (omega (arith, fits.lies, f.long, length-set during first_free_index (slot - 1)));
      kept = λ s h. r.others s (λ z. omega arith) ∙ f.kept s (omega arith);
      chain = rw (n, s) (chain_released layout.width (slot - 1) rest during after r out f.chain);
      past = r.past layout.slots (omega arith) ∙ f.past;
    }

-- down to the first
pub freed_down : (layout : Layout) (slot first : ℕ) (before after : List ℕ) → slot ≡ first → FreeFrom layout slot (none_free layout before) after
    → FreeFrom layout first before after
freed_down layout slot first before after e f =
    let w = head_written_then blocks_index layout.slots (omega arith) (head_word_set layout.width before first_free_index no_slot (omega arith)) in
    rw (← e) (record {
      long = f.long ∙ w.long;
      head = f.head ∙ take-set-le blocks_index (set before first_free_index no_slot) blocks_index layout.slots (omega arith)
          ∙ take-set-le blocks_index before first_free_index no_slot (omega arith);
      kept = λ s h. f.kept s h ∙ w.slots s;
      counted = f.counted;
      chain = f.chain;
      past = f.past ∙ w.past layout.slots;
    })
