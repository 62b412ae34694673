-- What a check of a promise says to its caller: the rest where the condition holds, the refusal where it fails, and its number exactly there.
use Prim.Native.Nat.{ℕ, ◌<◌}
use native.Mathlib.Omega.{arith}
use mathlib.Core.Path.{◌≡◌, sym, ◌∙◌}
use mathlib.Core.Logic.{◌↔◌, ◌⊎◌, inl, inr}
use mathlib.Core.List.{List}
use Rattle.pktree.specs.Window.{Window}
use Rattle.promises.specs.Answer.{Answer, refused, accepted}
use Rattle.promises.specs.Effect.{Effect, Returns, ◌else◌then◌, passed, stopped, OfPixel, OfWindow, OfPart}
use Rattle.promises.proofs.Answers.{refusal_of}

-- the number of an effect
abbrev pub Number : ℕ → Effect → Type 0
Number n e = e.answer.refusal ≡ n

pub number_is : {given : Answer} {e : Effect} → Returns given e → Number given.refusal e
number_is r = refusal_of r.is

module _ {P : Type 0} {given : Answer} {rest : Effect → Type 0} {e : Effect} where
  pub where_holds : (P else given then rest) e → P → rest e
  where_holds (passed p r) h = r
  where_holds (stopped f r) h = absurd (f h)

  pub where_fails : (P else given then rest) e → (P → ⊥) → Returns given e
  where_fails (passed p r) f = absurd (f p)
  where_fails (stopped g r) f = r

  -- a number that is neither this check's nor the rest's does not come
  pub never : {n : ℕ} → (given.refusal ≡ n → ⊥) → (rest e → Number n e → ⊥) → (P else given then rest) e → Number n e → ⊥
  never other below (passed p r) e = below r e
  never other below (stopped f r) e = other (sym (number_is r) ∙ e)

  -- this check's number comes exactly where its condition fails
  pub exactly : (rest e → Number given.refusal e → ⊥) → (P else given then rest) e → Number given.refusal e ↔ (P → ⊥)
  exactly below m = (λ n p. below (where_holds m p) n, λ f. number_is (where_fails m f))

  -- a later number comes exactly where the condition holds and, then, the later condition does
  pub then_exactly : {n : ℕ} {C : Type 0} → (given.refusal ≡ n → ⊥) → (rest e → Number n e ↔ C) → (P else given then rest) e → Number n e ↔ (P × C)
  then_exactly other below (passed p r) = (λ n. (p, (below r).0 n), λ c. (below r).1 c.1)
  then_exactly other below (stopped f r) = (λ n. absurd (other (sym (number_is r) ∙ n)), λ c. absurd (f c.0))

  -- an accepted call passed the check
  pub accepted_passed : (given.refusal ≡ 0 → ⊥) → (P else given then rest) e → Number 0 e → P × rest e
  accepted_passed other (passed p r) z = (p, r)
  accepted_passed other (stopped f r) z = absurd (other (sym (number_is r) ∙ z))

-- 3, three more checks in ascending number, and then the call is done: each number comes exactly where the conditions before hold and its own fails
pub record FourChecks (U A B C : Type 0) (a b c : ℕ) (rest : Effect → Type 0) (e : Effect) : Type 0 where
  pub first : Number 3 e ↔ (U → ⊥)
  pub second : Number a e ↔ (U × (A → ⊥))
  pub third : Number b e ↔ (U × (A × (B → ⊥)))
  pub fourth : Number c e ↔ (U × (A × (B × (C → ⊥))))
  pub accepted : Number 0 e → (U × (A × (B × C))) × rest e

pub four_checks : {U A B C : Type 0} {a b c : ℕ} {rest : Effect → Type 0} {e : Effect} → 3 < a → a < b → b < c → (rest e → Number 0 e)
    → (U else refused 3 then A else refused a then B else refused b then C else refused c then rest) e → FourChecks U A B C a b c rest e
four_checks low middle high done m = record {
  first = exactly (never (λ z. omega arith) (never (λ z. omega arith) (never (λ z. omega arith) (λ r n. omega (arith, n, done r))))) m;
  second = then_exactly (λ z. omega arith) (exactly (never (λ z. omega arith) (never (λ z. omega arith) (λ r n. omega (arith, n, done r))))) m;
  third = then_exactly (λ z. omega arith) (then_exactly (λ z. omega arith) (exactly (never (λ z. omega arith) (λ r n. omega (arith, n, done r))))) m;
  fourth = then_exactly (λ z. omega arith) (then_exactly (λ z. omega arith) (then_exactly (λ z. omega arith) (exactly (λ r n. omega (arith, n, done r))))) m;
  accepted = λ z.
      let u = accepted_passed (omega arith) m z in
      let x = accepted_passed (λ n. omega arith) u.1 z in
      let y = accepted_passed (λ n. omega arith) x.1 z in
      let v = accepted_passed (λ n. omega arith) y.1 z in
      ((u.0, (x.0, (y.0, v.0))), v.1);
}

-- a check before the walk refused the call: 9 and 13 are no such checks
pub record CheckRefused (e : Effect) : Type 0 where
  pub number : ℕ
  pub not_0 : number ≡ 0 → ⊥
  pub not_9 : number ≡ 9 → ⊥
  pub not_13 : number ≡ 13 → ⊥
  pub returns : Returns (refused number) e

module _ {e : Effect} where
  abbrev by_check : (n : ℕ) → (n ≡ 0 → ⊥) → (n ≡ 9 → ⊥) → (n ≡ 13 → ⊥) → Returns (refused n) e → CheckRefused e
  by_check n a b c r = record { number = n; not_0 = a; not_9 = b; not_13 = c; returns = r }

  module _ {P : Type 0} {rest : Effect → Type 0} where
    -- whatever the condition is, a check refuses or the rest applies
    pub refused_or : {n : ℕ} → (n ≡ 0 → ⊥) → (n ≡ 9 → ⊥) → (n ≡ 13 → ⊥) → (P else refused n then rest) e → CheckRefused e ⊎ rest e
    refused_or {n} a b c (passed p r) = inr r
    refused_or {n} a b c (stopped f r) = inl (by_check n a b c r)

  module _ {rest : Effect → Type 0} {words : List ℕ} where
    pub pixel_ends : {x y : ℕ} → OfPixel words x y rest e → CheckRefused e ⊎ rest e
    pixel_ends (stopped f r) = inl (by_check 3 (omega arith) (omega arith) (omega arith) r)
    pixel_ends (passed u m) = refused_or (omega arith) (omega arith) (omega arith) m

    -- or the window is wholly off the panel
    pub window_ends : {window : Window} → OfWindow words window (OfPart words window rest) e → CheckRefused e ⊎ Returns (accepted 0 0) e ⊎ rest e
    window_ends (stopped f r) = inl (by_check 3 (omega arith) (omega arith) (omega arith) r)
    window_ends (passed u (stopped f r)) = inl (by_check 8 (omega arith) (omega arith) (omega arith) r)
    window_ends (passed u (passed o (stopped f r))) = inr (inl r)
    window_ends (passed u (passed o (passed p m))) = inr (inr m)
