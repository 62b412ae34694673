-- What a caller from another language gets: 01's number and values.
use Rattle.std.specs.Prelude.{ℕ, ◌≡◌}
use Rattle.promises.specs.Answer.{none, Answer, block_told}
use Rattle.pkreg.specs.declared.PkAnswer.{PkAnswer}
use Rattle.pkreg.specs.declared.PkPlace.{PkPlace}
use Rattle.pkreg.specs.declared.PkNearest.{PkNearest}
use Rattle.measures.specs.Sizes.{ValidSizes, store_words}
use Rattle.promises.specs.Calls.{asked}

-- all three; make, mark, clear, load and fill hand over the refusal alone, and no value is beside it
abbrev pub numbers : PkAnswer → Answer
numbers r = record { refusal = r.refusal; first = r.first; second = r.second; further = none }

-- 02, P8: those of ask
abbrev pub place_numbers : PkPlace → Answer
place_numbers r = record { refusal = r.refusal; first = r.marked; second = r.opened; further = block_told r.level r.code }

-- 02, P5: those of nearest
abbrev pub nearest_numbers : PkNearest → Answer
nearest_numbers r =
    record {
      refusal = r.refusal;
      first = r.found;
      second = r.opened;
      further = record { code = r.code; level = 0; distance = r.distance; limit = r.limit; complete = r.complete };
    }

-- the formula for k and N within their limits, whatever the order m; 0 where make refuses them with every m
pub record WordsNeeded (k n r : ℕ) : Type 0 where
  pub needed : (m : ℕ) → ValidSizes (asked m k n) → r ≡ store_words (asked m k n)
  pub none : ((m : ℕ) → ValidSizes (asked m k n) → ⊥) → r ≡ 0
