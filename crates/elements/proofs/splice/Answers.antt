-- `elements::splice` meets its contract: what the move, the copy and the new number leave is the law of `Splices`.
use Rattle.elements.proofs.Splices.{splice_law}
use Rattle.elements.proofs.splice.Goals as goal

pub returns : goal.returns
returns c =
    let wide = c.wide-count in
    let a = c.args in
    splice_law a.part.now a.source.now a.place a.removed a.inserted c.requires wide.result wide.ensures
    c.move_words.ensures c.copy_words.ensures
