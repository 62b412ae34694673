-- Each call of a list keeps the store in step with the survivors.
use mathlib.Core.Path.{refl, subst}
use mathlib.Core.List.{List}
use Prim.Native.Nat.{ℕ}
use Rattle.measures.specs.declared.sizes.Sizes.{Sizes}
use Rattle.measures.specs.Sizes.{sizes_of}
use Rattle.answers.specs.Answer.{answer}
use Rattle.promises.specs.Survivors.{Call, mark, clear, load, fill, next}
use Rattle.promises.proofs.Keeping.{InStep, mark_next, clear_next, load_next, fill_next}
use Rattle.history.specs.Run.{Step, by_mark, by_clear, by_ask, by_nearest, by_count, by_list, by_save, by_load, by_fill, by_check}

-- of the sizes that the store says
abbrev at_own_sizes : {sizes : Sizes} {set words : List ℕ} → InStep sizes set words → InStep (sizes_of words) set words
at_own_sizes h = record { holds = h.holds; sized = refl }

to_sizes : {sizes : Sizes} {set before after : List ℕ} (call : Call) → InStep sizes set before
    → InStep (sizes_of before) (next (sizes_of before) set call) after → InStep sizes (next sizes set call) after
to_sizes {sizes} {set} {before} {after} call h g = subst (λ (z : Sizes). InStep z (next z set call) after) h.sized g

pub step_keeps : (sizes : Sizes) (set : List ℕ) {call : Call} {before after : List ℕ} → Step call before after → InStep sizes set before
    → InStep sizes (next sizes set call) after
step_keeps sizes set (by_mark before x y r after m) h = to_sizes (mark x y) h (mark_next before after x y (answer r) set (at_own_sizes h) m)
step_keeps sizes set (by_clear before x y r after m) h = to_sizes (clear x y) h (clear_next before after x y (answer r) set (at_own_sizes h) m)
step_keeps sizes set (by_ask words x y r m) h = h
step_keeps sizes set (by_nearest words x y budget r m) h = h
step_keeps sizes set (by_count words x0 y0 x1 y1 r m) h = h
step_keeps sizes set (by_list words output x0 y0 x1 y1 r written m) h = h
step_keeps sizes set (by_save words output r written m) h = h
step_keeps sizes set (by_load before image r after m) h = to_sizes (load image) h (load_next before after image (answer r) set (at_own_sizes h) m)
step_keeps sizes set (by_fill before codes r after m) h = to_sizes (fill codes) h (fill_next before after codes (answer r) set (at_own_sizes h) m)
step_keeps sizes set (by_check words r m) h = h
