-- What a list rests on: its count.
use Rattle.std.specs.Prelude.{ℕ, List}
use Rattle.pktree.specs.Window as tree
use Rattle.promises.specs.Answer.{accepted}
use Rattle.promises.specs.Effect.{effect}
use Rattle.promises.specs.Calls as calls

-- count has found so many pixels in a part of the panel
pub record CountedBefore (words : List ℕ) (part : tree.Window) (n : ℕ) : Type 0 where
  pub opened : ℕ
  pub counts : calls.CountsIn words part (effect (accepted n opened) words words)
