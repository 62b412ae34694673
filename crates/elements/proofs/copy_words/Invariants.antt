use mathlib.Core.Path.{◌≡◌}
use lib.Seq.{paste}
use Rattle.elements.proofs.copy_words.Given as goal

abbrev pub invariant-loop-j : goal.invariant-loop-j
invariant-loop-j l = l.target ≡ paste l.initial.target l.at l.source l.j
