-- `filling::fill::fill_codes` meets its contract: the slice gives its codes one by one.
use native.Mathlib.Omega.{arith}
use mathlib.Core.Path.{refl, ap, ◌∙◌}
use Rattle.std.specs.Slice.Iter.{iter_rest}
use Rattle.std.proofs.iter.Yields.{fronts, copies}
use Rattle.std.proofs.lemmas.List.{take_all}
use Rattle.std.proofs.lemmas.Iterator.{YieldsList-from_slice}
use Rattle.std.proofs.lemmas.Iterator.Consumers.{YieldsList-from_copied}
use Rattle.building.specs.Given.{AppendAllAt}
use Rattle.building.proofs.Filled.{fill_at}
use Rattle.filling.proofs.fill.fill_codes.Goals as goal
use Rattle.filling.proofs.fill.fill_codes.Goals.{After-copied}

-- what the iterator goes over may be a part of the slice, if the part is as long as the slice
given : (c : After-copied) → AppendAllAt (copies fronts) c.copied.result c.of.result c.args.store.now c.empty_stack-stack.result c.args.codes.now
given c = record {
  gives = YieldsList-from_copied (YieldsList-from_slice c.args.codes.now (ap iter_rest c.copied.ensures.source ∙ c.iter.ensures.rest ∙ grind (arith, take_all)));
  begun = fill_at _ c.empty_stack-stack.ensures c.of.ensures c.requires;
}

pub build_with-requires : goal.build_with-requires
build_with-requires c = record { can = tt; ends = tt; due = record { all = record { codes = c.args.codes.now; due = given c }; number_is = refl } }

pub returns : goal.returns
returns c = c.build_with.ensures.right c.args.codes.now (given (goal.at.returns c).After-copied) refl
