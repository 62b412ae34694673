-- `laying::lay_block` meets its contract: the part that is lent and comes back with the block is the slot.
use Rattle.laying.proofs.LaidBlocks.{block_laid}
use borrow.Author.Rules.{rules}
use Rattle.laying.proofs.lay_block.Goals as goal

pub returns : goal.returns
returns c = search (rules, block_laid)
