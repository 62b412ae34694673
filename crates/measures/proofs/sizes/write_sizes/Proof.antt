-- `measures::sizes::write_sizes` meets its contract: the formula is more than four words, and words 0 to 3 are those of the sizes.
use borrow.Author.Rules.{rules}
use native.Mathlib.Omega.{arith}
use lib.ListN.{length-set}
use Rattle.measures.proofs.SizesWritten.{sizes_written}
use Rattle.measures.proofs.sizes.write_sizes.Statement.{statement}
use Rattle.measures.proofs.sizes.write_sizes.Tie as tie

returns : tie.Need-returns
returns c = sizes_written c.args.sizes c.args.store.now c.requires.0 c.requires.1

pub write_sizes_spec : {M : Type 1} → statement M
write_sizes_spec =
    tie.close
    (tie.spec
    (λ c. search rules)
    (λ c. simp length-set (omega (arith, c)))
    (λ c. simp length-set (omega (arith, c)))
    (λ c. simp length-set (omega (arith, c)))
    (λ c. search rules)
    returns)
