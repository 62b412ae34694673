use Rattle.renumbering.specs.Renumber.{path_slots, PathRenumbered}
use Rattle.renumbering.proofs.renumber_path.Given as goal

abbrev pub invariant-loop-entry : goal.invariant-loop-entry
invariant-loop-entry l = PathRenumbered l.layout (path_slots l.path l.entry-index) l.removed l.inserted l.initial.store l.store
