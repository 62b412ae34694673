-- ONE CHANGE: where two sets differ only at x, blocks that do not hold x have the same elements, and are instantiated in both or in neither;
-- along the blocks that hold x only what the quarter around x gives is another.
use Prim.Native.Nat.{ℕ, suc, ◌+◌, ◌*◌, ◌^◌, ◌≤◌, ◌<◌}
use native.Mathlib.Omega.{arith}
use native.Mathlib.Decide.{dec_lt}
use mathlib.Core.Path.{◌≡◌, refl, ap, subst, ◌∙◌}
use mathlib.Core.Bool.{Bool}
use mathlib.Core.Logic.{◌⊎◌}
use Rattle.pktree.specs.Panel.{Panel}
use Rattle.pktree.specs.Elements.{Forest, empty, ◌⧺◌, size, give, gather}
use Rattle.pktree.specs.Tree.{Instantiated}
use Rattle.pktree.proofs.Forests.{join_assoc, join_empty}
use Rattle.pktree.proofs.Locality.{gather_depends_inside}

-- the two sets agree but perhaps at x
abbrev pub AgreeBut : ℕ → (ℕ → Bool) → (ℕ → Bool) → Type 0
AgreeBut x M M' = (y : ℕ) → (y ≡ x → ⊥) → M y ≡ M' y

pub elements_away_stay : (M M' : ℕ → Bool) (x k i c : ℕ) → AgreeBut x M M' → (c ≤ x → x < c + 4 ^ i → ⊥) → gather M k i c ≡ gather M' k i c
elements_away_stay M M' x k i c h out = gather_depends_inside M M' k i c (λ y p q. h y (λ e. out (omega arith) (omega arith)))

pub instantiated_away_stays : (panel : Panel) (M M' : ℕ → Bool) (x level code : ℕ) → AgreeBut x M M' → (code ≤ x → x < code + 4 ^ level → ⊥)
    → Instantiated panel M level code → Instantiated panel M' level code
instantiated_away_stays panel M M' x level code h out r =
    record {
      of_panel = r.of_panel;
      enough = subst (λ (f : Forest). (level ≡ panel.order) ⊎ (panel.k ≤ size f)) (elements_away_stay M M' x panel.k level code h out) r.enough;
    }

-- the elements of the block of level i + 1 and code c that holds x, before and after
pub record ChangeOnPath (M M' : ℕ → Bool) (x k i c : ℕ) : Type 0 where
  pub number : ℕ
  pub quarter : ℕ
  pub number_lt : number < 4
  pub quarter_is : quarter ≡ c + number * 4 ^ i
  pub above : quarter ≤ x
  pub below : x < quarter + 4 ^ i
  pub left : Forest
  pub right : Forest
  pub before : gather M k (suc i) c ≡ left ⧺ (give k i quarter (gather M k i quarter) ⧺ right)
  pub after : gather M' k (suc i) c ≡ left ⧺ (give k i quarter (gather M' k i quarter) ⧺ right)

-- four quarters, with the one numbered 2 or 3 between what stands before and after it
third_of_four : (u : ℕ → Forest) (a b c d : ℕ) → u a ⧺ (u b ⧺ (u c ⧺ u d)) ≡ (u a ⧺ u b) ⧺ (u c ⧺ u d)
third_of_four u a b c d = simp join_assoc

last_of_four : (u : ℕ → Forest) (a b c d : ℕ) → u a ⧺ (u b ⧺ (u c ⧺ u d)) ≡ (u a ⧺ (u b ⧺ u c)) ⧺ (u d ⧺ empty)
last_of_four u a b c d = simp (join_assoc, join_empty)

pub change_on_path : (M M' : ℕ → Bool) (x k i c : ℕ) → AgreeBut x M M' → c ≤ x → x < c + 4 ^ suc i → ChangeOnPath M M' x k i c
unfolding gather
change_on_path M M' x k i c h lo hi = go (dec_lt x (c + 4 ^ i)) (dec_lt x (c + 2 * 4 ^ i)) (dec_lt x (c + 3 * 4 ^ i))
  where
    g : ℕ → Forest
    g d = give k i d (gather M k i d)

    g' : ℕ → Forest
    g' d = give k i d (gather M' k i d)

    away : (d : ℕ) → (d ≤ x → x < d + 4 ^ i → ⊥) → g d ≡ g' d
    away d out = ap (give k i d) (elements_away_stay M M' x k i d h out)

    go : Dec (x < c + 4 ^ i) → Dec (x < c + 2 * 4 ^ i) → Dec (x < c + 3 * 4 ^ i) → ChangeOnPath M M' x k i c
    go (yes a) b d =
        record {
          number = 0;
          quarter = c;
          number_lt = omega arith;
          quarter_is = omega arith;
          above = omega arith;
          below = omega arith;
          left = empty;
          right = g (c + 4 ^ i) ⧺ (g (c + 2 * 4 ^ i) ⧺ g (c + 3 * 4 ^ i));
          before = refl;
          after = cc (away (c + 4 ^ i) (omega arith), away (c + 2 * 4 ^ i) (omega arith), away (c + 3 * 4 ^ i) (omega arith));
        }
    go (no a) (yes b) d =
        record {
          number = 1;
          quarter = c + 4 ^ i;
          number_lt = omega arith;
          quarter_is = omega arith;
          above = omega arith;
          below = omega arith;
          left = g c;
          right = g (c + 2 * 4 ^ i) ⧺ g (c + 3 * 4 ^ i);
          before = refl;
          after = cc (away c (omega arith), away (c + 2 * 4 ^ i) (omega arith), away (c + 3 * 4 ^ i) (omega arith));
        }
    go (no a) (no b) (yes d) =
        record {
          number = 2;
          quarter = c + 2 * 4 ^ i;
          number_lt = omega arith;
          quarter_is = omega arith;
          above = omega arith;
          below = omega arith;
          left = g c ⧺ g (c + 4 ^ i);
          right = g (c + 3 * 4 ^ i);
          before = third_of_four g c (c + 4 ^ i) (c + 2 * 4 ^ i) (c + 3 * 4 ^ i);
          after = third_of_four g' c (c + 4 ^ i) (c + 2 * 4 ^ i) (c + 3 * 4 ^ i)
              ∙ cc (away c (omega arith), away (c + 4 ^ i) (omega arith), away (c + 3 * 4 ^ i) (omega arith));
        }
    go (no a) (no b) (no d) =
        record {
          number = 3;
          quarter = c + 3 * 4 ^ i;
          number_lt = omega arith;
          quarter_is = omega arith;
          above = omega arith;
          below = omega arith;
          left = g c ⧺ (g (c + 4 ^ i) ⧺ g (c + 2 * 4 ^ i));
          right = empty;
          before = last_of_four g c (c + 4 ^ i) (c + 2 * 4 ^ i) (c + 3 * 4 ^ i);
          after = last_of_four g' c (c + 4 ^ i) (c + 2 * 4 ^ i) (c + 3 * 4 ^ i)
              ∙ cc (away c (omega arith), away (c + 4 ^ i) (omega arith), away (c + 2 * 4 ^ i) (omega arith));
        }
