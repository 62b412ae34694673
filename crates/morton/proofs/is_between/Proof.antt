-- `morton::is_between` meets its contract: below first the difference wraps to more than any other.
use Rattle.std.proofs.Common.{◌≡◌, ℕ, ◌+◌, ◌%◌, ◌^◌, ◌<◌, ◌≤◌, ◌&&◌, leb, arith, rules, le-leb}
use native.Mathlib.Decide.{dec_lt}
use borrow.Author.Tests.{lt-leb}
use Rattle.morton.specs.Coordinate.{Between}
use Rattle.morton.proofs.is_between.Statement.{statement}
use Rattle.morton.proofs.is_between.Tie as tie

wrapped : (first last n u v : ℕ) → first < 2 ^ 32 → n < 2 ^ 32 → last < 2 ^ 32 → u < 2 ^ 32 → v < 2 ^ 32 → (u + first) % 2 ^ 32 ≡ n → (v + first) % 2 ^ 32 ≡ last
    → Between first last n (leb u v)
wrapped first last n u v hf hn hl hu hv eu ev = record { says = λ ordered. go ordered (dec_lt n first) (dec_lt last n) }
  where
    go : first ≤ last → Dec (n < first) → Dec (last < n) → leb u v ≡ (leb first n && leb n last)
    go h (yes p) d = rw (lt-leb first n p) (lt-leb u v (omega arith))
    go h (no p) (yes q) = rw (le-leb first n (omega arith), lt-leb n last q) (lt-leb u v (omega arith))
    go h (no p) (no q) = rw (le-leb first n (omega arith), le-leb n last (omega arith)) (le-leb u v (omega arith))

returns : tie.Need-returns
returns c =
    let a = c.before.before in
    wrapped a.args.first a.args.last a.args.n c.before.wrapping_sub_u32.result c.wrapping_sub_u32-2.result
    a.ranges.first.fits a.ranges.n.fits a.ranges.last.fits (search rules) (search rules)
    c.before.wrapping_sub_u32.ensures c.wrapping_sub_u32-2.ensures

pub is_between_spec : {M : Type 1} → statement M
is_between_spec = tie.close (tie.spec (λ c κs. search rules) (λ c κs. search rules) returns)
