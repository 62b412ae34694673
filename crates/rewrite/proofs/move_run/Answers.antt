-- `rewrite::move_run` meets its contract: the run is copied out, and laid in the other slot.
use native.Mathlib.Omega.{arith}
use borrow.Author.Rules.{rules}
use Prim.Native.Nat.{◌+◌, ◌*◌, ◌≤◌}
use Rattle.measures.specs.Layout.{most_element_words}
use Rattle.rewrite.proofs.Runs.{run_in_part, run_fits, run_small}
use Rattle.rewrite.proofs.move_run.Goals as goal

pub copy_run-requires : goal.copy_run-requires
copy_run-requires c = (search (rules, run_in_part), search (rules, run_small))

pub lay_elements-requires-clause-count_bound : goal.lay_elements-requires-clause-count_bound
lay_elements-requires-clause-count_bound c =
    let small : 0 + 2 * c.args.size ≤ most_element_words = search (rules, run_small) in
    (search (rules, run_fits), omega (arith, small))
