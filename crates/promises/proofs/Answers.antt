-- The parts of equal answers.
use Prim.Native.Nat.{ℕ, ◌≤◌}
use native.Mathlib.Omega.{arith}
use mathlib.Core.Path.{◌≡◌, ap}
use mathlib.Core.Bool.{Bool, true, false}
use Rattle.promises.specs.Answer.{none, Answer, refused, yes_no}

module _ {a b : Answer} (e : a ≡ b) where
  pub refusal_of : a.refusal ≡ b.refusal
  refusal_of = ap (λ (c : Answer). c.refusal) e

  pub first_of : a.first ≡ b.first
  first_of = ap (λ (c : Answer). c.first) e

  pub second_of : a.second ≡ b.second
  second_of = ap (λ (c : Answer). c.second) e

  pub further_of : a.further ≡ b.further
  further_of = ap (λ (c : Answer). c.further) e

-- zeros beside a refusal
abbrev pub Zeros : Answer → Type 0
Zeros a = (a.first ≡ 0) × (a.second ≡ 0) × (a.further ≡ none)

pub zeros_beside : {a : Answer} (n : ℕ) → a ≡ refused n → Zeros a
zeros_beside n e = (first_of e, second_of e, further_of e)

pub yes_no_to : (b : Bool) → yes_no b ≤ 1
yes_no_to true = omega arith
yes_no_to false = omega arith
