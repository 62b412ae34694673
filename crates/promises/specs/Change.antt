-- What make, mark, clear, load and fill leave of the store.
use Rattle.std.specs.Prelude.{ℕ, ◌≡◌, List, length, get_or, drop}
use Rattle.measures.specs.declared.sizes.Sizes.{Sizes}
use Rattle.measures.specs.Sizes.{store_words, sizes_of}
use Rattle.store.specs.Sound.{Holds}
use Rattle.promises.specs.Answer.{accepted}
use Rattle.promises.specs.Effect.{Effect}

-- words past the formula untouched
pub record Within (sizes : Sizes) (e : Effect) : Type 0 where
  pub past : drop (store_words sizes) e.after ≡ drop (store_words sizes) e.before
  pub long : length e.after ≡ length e.before

-- done, with no value, and words past the formula untouched
pub record Done (sizes : Sizes) (e : Effect) : Type 0 where
  pub done : e.answer ≡ accepted 0 0
  pub within : Within sizes e

-- done: a sound register of these sizes that holds this set
pub record Becomes (sizes : Sizes) (set : List ℕ) (e : Effect) : Type 0 where
  pub done : Done sizes e
  pub holds : Holds e.after set
  pub sizes_are : sizes_of e.after ≡ sizes

-- mark and clear after 13: word 0 is zero, so that later calls give 3
pub record Disabled (sizes : Sizes) (e : Effect) : Type 0 where
  pub mark_gone : get_or e.after 0 0 ≡ 0
  pub left : Within sizes e
