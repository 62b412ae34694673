-- 01 "Program pkshow": under 2 or over 4,010 bytes 10; else a register with the image's m and k and N = 400, and load.
use Rattle.std.specs.Prelude.{ℕ, ◌<◌, ◌≡◌, ◌⊎◌, List, length, get_or}
use Rattle.measures.specs.declared.sizes.Sizes.{Sizes}
use Rattle.measures.specs.Sizes.{panel_of, ValidSizes, sizes_of}
use Rattle.store.specs.Sound.{Holds}
use Rattle.image.specs.Judged.{WellFormed, FitsRegister, ImageOfSome}
use Rattle.image.specs.Held.{HasImage}
use Rattle.promises.specs.Calls.{asked}

abbrev pub sizes_shown : List ℕ → Sizes
sizes_shown bytes = asked (get_or bytes 0 0) (get_or bytes 1 0) 400

-- the words of a store for N = 400 with any k: k = 2 needs the most
abbrev pub words_for400 : ℕ
words_for400 = 7208

abbrev pub LengthOut : List ℕ → Type 0
LengthOut bytes = (length bytes < 2) ⊎ (4010 < length bytes)

-- the image can be loaded as far as its length, m and k go
pub record Begun (bytes : List ℕ) : Type 0 where
  pub in_length : LengthOut bytes → ⊥
  pub valid : ValidSizes (sizes_shown bytes)

pub record ShowMeets (after bytes : List ℕ) (r : ℕ) : Type 0 where
  pub out_of_length : LengthOut bytes → r ≡ 10
  pub beyond_limits : (LengthOut bytes → ⊥) → (ValidSizes (sizes_shown bytes) → ⊥) → r ≡ 1
  pub malformed : Begun bytes → (WellFormed bytes → ⊥) → r ≡ 10
  pub unlike : Begun bytes → WellFormed bytes → (FitsRegister (panel_of (sizes_shown bytes)) 400 bytes → ⊥) → r ≡ 11
  pub no_set : Begun bytes → WellFormed bytes → FitsRegister (panel_of (sizes_shown bytes)) 400 bytes → (ImageOfSome (panel_of (sizes_shown bytes)) bytes → ⊥) → r ≡ 12
  -- loaded: the register holds exactly the image's pixels
  pub loaded : (set : List ℕ) → Begun bytes → HasImage (panel_of (sizes_shown bytes)) 400 bytes set → (r ≡ 0) × Holds after set × (sizes_of after ≡ sizes_shown bytes)
