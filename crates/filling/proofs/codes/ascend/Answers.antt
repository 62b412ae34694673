-- `filling::codes::ascend` meets its contract.
use borrow.Author.Rules.{rules}
use lib.Dec.{ltb}
use Rattle.std.proofs.lemmas.List.Sorted.{answers_always}
use Rattle.filling.proofs.JudgedCodes.{ascend_judged}
use Rattle.filling.proofs.codes.ascend.Goals as goal

pub returns : goal.returns
returns c =
    let answers_by_order = answers_always _ _ _ (λ f a r g called. search rules) in
    ascend_judged c.args.codes.now c.is_sorted_by.result (c.is_sorted_by.ensures.cases ltb answers_by_order)
