-- 02, P5: what the search returns.
use Rattle.std.specs.Prelude.{ℕ, min, Bool, true, false, List, [], ◌∷◌, length}
use Rattle.std.proofs.Math.Option.{Option, none, some}
use Rattle.pktree.specs.Elements.{Forest}
use Rattle.pktree.specs.Tree.{BlockOf}
use Rattle.searching.specs.Distance.{squared_distance}
use Rattle.searching.specs.Search.{Search, distance_to, found, is_complete, searched}

-- the least of n and of the squared distances to some blocks
abbrev pub least_distance : ℕ → ℕ → List BlockOf → ℕ
least_distance place n [] = n
least_distance place n (b ∷ l) = least_distance place (min n (distance_to place b)) l

-- the limit: the least of the squared distances to the pixel found and to the blocks met and not opened; zero where there is neither
abbrev pub limit_of : ℕ → Option ℕ → List BlockOf → ℕ
limit_of place none [] = 0
limit_of place none (b ∷ l) = least_distance place (distance_to place b) l
limit_of place (some p) l = least_distance place (squared_distance place p) l

-- where no pixel has been found, pixel and distance are zero
abbrev pub is_some : Option ℕ → Bool
is_some none = false
is_some (some p) = true

abbrev pub code_found : Option ℕ → ℕ
code_found none = 0
code_found (some p) = p

abbrev pub distance_found : ℕ → Option ℕ → ℕ
distance_found place none = 0
distance_found place (some p) = squared_distance place p

-- the six values
pub record Nearest : Type 0 where
  pub is_found : Bool
  pub code : ℕ
  pub distance : ℕ
  pub opened : ℕ
  pub limit : ℕ
  pub complete : Bool

abbrev pub nearest_by : ℕ → Search → Nearest
nearest_by place s =
    record {
      is_found = is_some (found place s);
      code = code_found (found place s);
      distance = distance_found place (found place s);
      opened = length s.opened;
      limit = limit_of place (found place s) s.met;
      complete = is_complete place s;
    }

-- the nearest unfit pixel, on the tree of a register, for a place and a budget of blocks to open
abbrev pub nearest_in : Forest → ℕ → ℕ → Nearest
nearest_in tree place budget = nearest_by place (searched tree place budget)
