-- What the change of one pixel answers, and what it leaves, where refusals 3 and 4 do not apply.
use Rattle.std.specs.Prelude.{ℕ, zero, suc, ◌<◌, ◌≡◌, Bool, true, false, not, List, eqb, length, get_or, set, drop, Result, Ok, Err}
use Rattle.pktree.specs.Panel.{OnPanel}
use Rattle.pktree.specs.PixelSet.{member, added, removed}
use Rattle.measures.specs.declared.sizes.Sizes.{Sizes}
use Rattle.measures.specs.Sizes.{UsableStore, panel_of, slot_width, sizes_of, store_words}
use Rattle.measures.specs.Slot.{slot_part, number_word}
use Rattle.store.specs.Opening.{CannotOpen}
use Rattle.store.specs.Sound.{Holds}
use Rattle.update.specs.declared.marks.Unchanged.{Unchanged}
use Rattle.update.specs.declared.marks.Unchanged.TheVariants.{Already, Disallowed, Damaged}

-- how a change ends: it is made, or it is not
abbrev pub Changing : Type 0
Changing = Result (Unit {0}) Unchanged

-- what is left of any store, by how the change ends: done; refused, with 5, 6 or 7; or damage met, with 13
abbrev pub Leaves : List ℕ → List ℕ → Changing → Type 0
Leaves before after (Ok _) = Unit {0}
Leaves before after (Err Already) = after ≡ before
Leaves before after (Err Disallowed) = after ≡ before
Leaves before after (Err Damaged) = get_or after 0 0 ≡ 0

-- the words once word 0 is written zero, where damage was met
abbrev pub disabled : Changing → List ℕ → List ℕ
disabled (Ok _) words = words
disabled (Err Already) words = words
disabled (Err Disallowed) words = words
disabled (Err Damaged) words = set words 0 0

-- `Case` says of a sound store what holds where it has this set
pub record ChangeAnswer (Case : List ℕ → Type 0) (before after : List ℕ) (ending : Changing) : Type 0 where
  pub sound : (set : List ℕ) → Holds before set → Case set
  pub leaves : Leaves before after ending
  pub closed : CannotOpen (slot_width (sizes_of before).k) before 0 (sizes_of before).order 0 → ending ≡ Err Damaged
  pub long : length after ≡ length before
  pub past : drop (store_words (sizes_of before)) after ≡ drop (store_words (sizes_of before)) before

-- the elements at the pixel that a change takes out and puts in: one comes (mark), or one goes (clear)
pub data OnePixel : ℕ → ℕ → Type 0 where
  comes : OnePixel 0 1
  goes : OnePixel 1 0

-- the set afterwards, by the elements taken out
abbrev pub exchanged : ℕ → ℕ → List ℕ → List ℕ
exchanged zero code set = added code set
exchanged (suc n) code set = removed code set

-- the number of pixels held, which is the root's, lets the pixel come, or go
abbrev pub CountAllows : {out coming : ℕ} → OnePixel out coming → ℕ → ℕ → Type 0
CountAllows comes held most = held < most
CountAllows goes held most = 0 < held

pub record CanChange (words : List ℕ) (sizes : Sizes) (code : ℕ) (allowed : Bool) (out coming : ℕ) : Type 0 where
  pub given : (UsableStore words × (sizes ≡ sizes_of words)) × OnPanel (panel_of sizes) code
  pub one : OnePixel out coming
  pub allows : allowed ≡ true → CountAllows one (number_word (slot_part (slot_width (sizes_of words).k) words 0)) sizes.most

abbrev pub ChangeCase : List ℕ → List ℕ → ℕ → Bool → ℕ → Changing → List ℕ → Type 0
ChangeCase before after code allowed out (Ok _) set =
    (member set code ≡ eqb out 1) × (allowed ≡ true) × Holds after (exchanged out code set) × (sizes_of after ≡ sizes_of before)
ChangeCase before after code allowed out (Err Already) set = (member set code ≡ not (eqb out 1)) × (after ≡ before)
ChangeCase before after code allowed out (Err Disallowed) set = (member set code ≡ eqb out 1) × (allowed ≡ false) × (after ≡ before)
ChangeCase before after code allowed out (Err Damaged) set = ⊥

abbrev pub ChangeMeets : List ℕ → List ℕ → ℕ → Bool → ℕ → Changing → Type 0
ChangeMeets before after code allowed out r = ChangeAnswer (ChangeCase before after code allowed out r) before after r
