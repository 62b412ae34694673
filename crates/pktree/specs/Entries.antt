-- 01 "The image": the entries of a set are its pixels, at level 0, and its instantiated blocks.
use Rattle.std.specs.Prelude.{ℕ, cond, List, [], ◌∷◌, ◌++◌, eqb}
use Rattle.pktree.specs.Elements.{Forest, empty, pixel, block_at}

pub record Entry : Type 0 where
  pub level : ℕ
  pub code : ℕ

abbrev pub entry : ℕ → ℕ → Entry
entry level code = record { level = level; code = code }

-- each block before what is inside it
abbrev pub entries : Forest → List Entry
entries empty = []
entries (pixel c f) = entry 0 c ∷ entries f
entries (block_at u i c es f) = entry i c ∷ (entries es ++ entries f)

-- the codes of the entries of level 0
abbrev pub pixel_entries : List Entry → List ℕ
pixel_entries [] = []
pixel_entries (e ∷ l) = cond (eqb e.level 0) (e.code ∷ pixel_entries l) (pixel_entries l)
