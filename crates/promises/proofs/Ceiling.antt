-- 02, P7: the largest N as a caller meets it: 24,576 is made, above it make gives 1, and a store that says more gives 3 in every call.
use Prim.Native.Nat.{ℕ, ◌≤◌, ◌<◌}
use native.Mathlib.Omega.{arith}
use mathlib.Core.Path.{◌≡◌}
use mathlib.Core.List.{List}
use lib.ListN.{length}
use Rattle.pktree.specs.Panel.{Valid}
use Rattle.measures.specs.Sizes.{ValidSizes, UsableStore, panel_of, sizes_of, store_words}
use Rattle.promises.specs.Answer.{Answer, refused}
use Rattle.promises.specs.Effect.{Effect, Returns, ◌else◌then◌, passed, stopped}
use Rattle.promises.specs.Calls.{MakeMeets, asked}
use Rattle.promises.proofs.Exactly.{make_refusals}

pub most_allowed : {m k : ℕ} → Valid (panel_of (asked m k 24576)) → ValidSizes (asked m k 24576)
most_allowed panel = record { panel = panel; most_from = omega arith; most_to = omega arith }

pub too_many_refused : {m k most : ℕ} {rest : Effect → Type 0} {e : Effect} → 24576 < most → (ValidSizes (asked m k most) else refused 1 then rest) e → Returns (refused 1) e
too_many_refused more (stopped f r) = r
too_many_refused more (passed valid w) = absurd (omega (arith, more, valid.most_to))

-- what follows the test differs from call to call
pub older_refused : {words : List ℕ} {rest : Effect → Type 0} {e : Effect} → 24576 < (sizes_of words).most → (UsableStore words else refused 3 then rest) e → Returns (refused 3) e
older_refused more (stopped f r) = r
older_refused more (passed usable w) = absurd (omega (arith, more, usable.valid.most_to))

pub largest_made : {before after : List ℕ} {m k : ℕ} {a : Answer} → Valid (panel_of (asked m k 24576)) → store_words (asked m k 24576) ≤ length before → MakeMeets before after m k 24576 a
    → a.refusal ≡ 0
largest_made panel long meets = (make_refusals meets).made.1 (most_allowed panel, long)
