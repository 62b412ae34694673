-- One element of a pass: what the code's tests of it say of the one-pass test.
use Prim.Native.Nat.{ℕ, ◌+◌, ◌/◌, ◌%◌, ◌^◌, ◌≤◌, ◌<◌}
use native.Mathlib.Omega.{arith}
use native.Mathlib.Numerals.{add-one}
use mathlib.Core.Path.{◌≡◌}
use lib.Dec.{eqb}
use borrow.Author.Tests.{lt-leb, le-leb, lt-ltb, le-ltb, eq-eqb, ne_eqb}
use Rattle.morton.proofs.Blocks.{size_to}
use Rattle.pktree.proofs.Alignment.{pow_pos}
use Rattle.pktree.specs.Entries.{entry}
use Rattle.pktree.proofs.LocalTest.{tally}
use Rattle.inspection.specs.declared.pass.Pass.{Pass}
use Rattle.std.specs.Prelude.{Ok}
use Rattle.inspection.specs.Pass.{PassMeets, refuses}

pub met_same : {q r : ℕ} (n : ℕ) → q ≡ r → n + 1 ≡ tally (eqb q r) n
met_same {q} {r} n e = rw (eq-eqb q r e, add-one)

pub met_other : {q r : ℕ} (n : ℕ) → (q ≡ r → ⊥) → 1 ≡ tally (eqb q r) n
met_other {q} {r} n ne = rw (ne_eqb q r ne)

-- a block has codes, and no more than a panel
pub some_codes : {n : ℕ} (level : ℕ) → n ≡ 4 ^ level → 1 ≤ n
some_codes level is = omega (arith, pow_pos level)

pub few_codes : {n : ℕ} (level : ℕ) → n ≡ 4 ^ level → level ≤ 16 → n ≤ 4294967296
few_codes level is low = omega (arith, size_to level low)

module _ {pass : Pass} {k quarters level code : ℕ} where
  pub starts_too_low : code < pass.from → PassMeets k quarters pass (entry level code) refuses
  starts_too_low low = record { bounds = tt; goes = λ to rest. rw (lt-leb pass.from code low) }

  module _ (above : pass.from ≤ code) where
    pub too_large : quarters < level → PassMeets k quarters pass (entry level code) refuses
    too_large large = record { bounds = tt; goes = λ to rest. rw (le-leb pass.from code above, lt-leb level quarters large) }

    module _ {codes : ℕ} (small : level ≤ quarters) (size_is : codes ≡ 4 ^ level) where
      pub not_aligned : (code % codes ≡ 0 → ⊥) → PassMeets k quarters pass (entry level code) refuses
      not_aligned off =
          record { bounds = tt; goes = λ to rest. rw (le-leb pass.from code above, le-leb level quarters small, ← size_is, ne_eqb (code % codes) 0 off) }

      module _ {inside met : ℕ} (aligned : code % codes ≡ 0) (quarter_is : inside ≡ 4 ^ quarters)
          (counts : met ≡ tally (eqb (code / inside) pass.quarter) pass.met) where
        pub quarter_full : k ≤ met → PassMeets k quarters pass (entry level code) refuses
        quarter_full full =
            record {
              bounds = tt;
              goes = λ to rest.
                  rw (
                    le-leb pass.from code above,
                    le-leb level quarters small,
                    ← size_is,
                    eq-eqb (code % codes) 0 aligned,
                    ← quarter_is,
                    ← counts,
                    le-ltb met k full,
                  );
            }

        pub goes_on_lem : met < k → PassMeets k quarters pass (entry level code) (Ok (record { from = code + codes; quarter = code / inside; met = met }))
        goes_on_lem few =
            record {
              bounds = (few, small);
              goes = λ to rest.
                  rw (
                    le-leb pass.from code above,
                    le-leb level quarters small,
                    ← size_is,
                    eq-eqb (code % codes) 0 aligned,
                    ← quarter_is,
                    ← counts,
                    lt-ltb met k few,
                  );
            }
