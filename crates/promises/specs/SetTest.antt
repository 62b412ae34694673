-- Whether codes are a set of at most N pixels on the panel, as a test.
use Rattle.std.specs.Prelude.{ℕ, suc, Bool, true, ◌&&◌, List, [], ◌∷◌, leb, length}
use Rattle.pktree.specs.Panel.{Panel, is_on_panel}

abbrev pub ascends : ℕ → List ℕ → Bool
ascends from [] = true
ascends from (c ∷ codes) = leb from c && ascends (suc c) codes

abbrev pub all_on_panel : Panel → List ℕ → Bool
all_on_panel panel [] = true
all_on_panel panel (c ∷ codes) = is_on_panel panel c && all_on_panel panel codes

abbrev pub is_set_of : Panel → ℕ → List ℕ → Bool
is_set_of panel most codes = all_on_panel panel codes && (leb (length codes) most && ascends 0 codes)
