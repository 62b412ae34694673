-- What a walk finds of joined elements is what it finds of each; so it is a walk, whatever it finds.
use Rattle.std.proofs.Common.{◌≡◌, ℕ, ◌+◌, [], ◌++◌, length, refl, ap, ◌∙◌, arith, length-append}
use Rattle.pktree.specs.Elements.{Forest, empty, ◌⧺◌}
use Rattle.pktree.specs.Window.{Window}
use Rattle.pktree.proofs.Forests.{size_join}
use Rattle.pktree.proofs.WindowParts.{found_join, tested_join}
use Rattle.walks.proofs.Walks.{Walk}
use Rattle.query.specs.Counting.{Findings, of_elements, Room, Added, Counts}
use Rattle.query.proofs.Opens.{Opens}

pub record Additive (findings : Findings) : Type 0 where
  pub no_codes : findings.codes empty ≡ []
  pub no_blocks : findings.blocks empty ≡ 0
  pub no_tests : findings.tests empty ≡ 0
  pub codes_join : (f g : Forest) → findings.codes (f ⧺ g) ≡ findings.codes f ++ findings.codes g
  pub blocks_join : (f g : Forest) → findings.blocks (f ⧺ g) ≡ findings.blocks f + findings.blocks g
  pub tests_join : (f g : Forest) → findings.tests (f ⧺ g) ≡ findings.tests f + findings.tests g

pub elements_additive : {opens : Window → Forest → ℕ} {window : Window} → Opens opens window → Additive (of_elements opens window)
elements_additive {window = window} o =
    record {
      no_codes = refl;
      no_blocks = o.none;
      no_tests = refl;
      codes_join = found_join window;
      blocks_join = o.join;
      tests_join = λ f g. omega (arith, size_join f g, tested_join window f g);
    }

-- room for both is room for the first, and then for the second
module _ {findings : Findings} {most slots : ℕ} {s : ℕ × ℕ × ℕ} (add : Additive findings) (f g : Forest) (room : Room findings most slots s (f ⧺ g)) where
  both_found : length (findings.codes (f ⧺ g)) ≡ length (findings.codes f) + length (findings.codes g)
  both_found = ap length (add.codes_join f g) ∙ length-append (findings.codes f) (findings.codes g)

  pub room_first : Room findings most slots s f
  room_first =
      record {
        few_found = omega (arith, both_found, room.few_found);
        few_opened = omega (arith, add.blocks_join f g, room.few_opened);
        few_tested = omega (arith, add.tests_join f g, room.few_tested);
      }

  module _ {t : ℕ × ℕ × ℕ} (first : Added findings s f t) where
    pub room_second : Room findings most slots t g
    room_second =
        record {
          few_found = omega (arith, both_found, room.few_found, first.found_is);
          few_opened = omega (arith, add.blocks_join f g, room.few_opened, first.opened_is);
          few_tested = omega (arith, add.tests_join f g, room.few_tested, first.tested_is);
        }

    added_both : {u : ℕ × ℕ × ℕ} → Added findings t g u → Added findings s (f ⧺ g) u
    added_both second =
        record {
          found_is = omega (arith, both_found, first.found_is, second.found_is);
          opened_is = omega (arith, add.blocks_join f g, first.opened_is, second.opened_is);
          tested_is = omega (arith, add.tests_join f g, first.tested_is, second.tested_is);
        }

pub count_walk : {findings : Findings} {most slots : ℕ} → Additive findings → Walk (Counts findings most slots)
count_walk add =
    record {
      none = λ s. record {
        says = λ room. record { found_is = omega (arith, ap length add.no_codes); opened_is = omega (arith, add.no_blocks); tested_is = omega (arith, add.no_tests) };
      };
      join = λ {s} {t} {u} {f} {g} p q. record {
        says = λ room. let a = p.says (room_first add f g room) in added_both add f g room a (q.says (room_second add f g room a));
      };
    }

-- room for all is room for one element after those before it
pub room_between : {findings : Findings} {most slots : ℕ} {s t : ℕ × ℕ × ℕ} → Additive findings → (f g h : Forest) → Counts findings most slots s f t
    → Room findings most slots s ((f ⧺ g) ⧺ h) → Room findings most slots t g
room_between add f g h counted room = let both = room_first add (f ⧺ g) h room in room_second add f g both (counted.says (room_first add f g both))
