use Rattle.plain.proofs.blocks.Marked.+elements.Given as goal

abbrev pub decreases-elements : goal.decreases-elements
decreases-elements l = l.level
