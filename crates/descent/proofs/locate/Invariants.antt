use Rattle.descent.proofs.Descending.{Descended}
use Rattle.descent.proofs.locate.Given as goal

abbrev pub invariant-loop-block : goal.invariant-loop-block
invariant-loop-block l = Descended l.store.words.now l.store.layout l.order l.code l.path l.depth l.block.slot l.block.level l.block.code

abbrev pub decreases-loop-block : goal.decreases-loop-block
decreases-loop-block l = l.block.level
