-- What each end of load ensures, from what its tests decide: a refusal leaves the store, and the set of an accepted image is held.
use Prim.Native.Nat.{ℕ}
use native.Mathlib.Omega.{arith}
use mathlib.Core.Path.{◌≡◌, refl, ap, subst}
use mathlib.Core.Bool.{Bool, true, false, not}
use mathlib.Core.List.{List}
use lib.ListN.{length}
use borrow.Author.Tests.{not-true, not-false}
use Rattle.measures.specs.declared.sizes.Sizes.{Sizes}
use Rattle.measures.specs.Decides.{Decides}
use Rattle.measures.specs.Sizes.{panel_of, sizes_of, UsableStore}
use Rattle.store.specs.Sound.{Holds}
use Rattle.measures.proofs.Decides.{decided_true, decided_false}
use Rattle.building.specs.Finish.{Replaced}
use Rattle.image.specs.Parts.{pixel_number, codes_part, levels_part}
use Rattle.image.specs.Judged.{WellFormed, FitsRegister, ImageOfSome}
use Rattle.reader.specs.Reading.{CanRead}
use Rattle.loading.specs.Filled.{pixels_given, ReplaceDue}
use Rattle.promises.specs.Answer.{accepted, refused}
use Rattle.promises.specs.Effect.{effect, passed, stopped}
use Rattle.promises.specs.Calls.{Loads}
use Rattle.loading.proofs.ImagePixels.{arrays_tell_set, arrays_fit}

-- a test that was passed, and one that was not
test_passed : (t : Bool) (P : Type 0) → not t ≡ false → Decides t P → P
test_passed t P e d = decided_true (not-false t e) d

test_failed : (t : Bool) (P : Type 0) → not t ≡ true → Decides t P → P → ⊥
test_failed t P e d = decided_false (not-true t e) d

module _ (before bytes : List ℕ) (first : Bool) where
  pub refused_malformed : not first ≡ true → Decides first (WellFormed bytes) → Loads before bytes (effect (refused 10) before before)
  refused_malformed e d = stopped (test_failed first (WellFormed bytes) e d) (record { is = refl; same = refl })

  pub well_formed : not first ≡ false → Decides first (WellFormed bytes) → WellFormed bytes
  well_formed e d = test_passed first (WellFormed bytes) e d

module _ (bytes : List ℕ) where
  abbrev Fits : Sizes → Type 0
  Fits sizes = FitsRegister (panel_of sizes) sizes.most bytes

  abbrev Some : Sizes → Type 0
  Some sizes = ImageOfSome (panel_of sizes) bytes

-- a usable store of these sizes; the image is well-formed
module _ (before bytes : List ℕ) (sizes : Sizes) (first second : Bool) (usable : UsableStore before) (is : sizes ≡ sizes_of before)
    (well : not first ≡ false) (formed : Decides first (WellFormed bytes)) where
  pub refused_unfit : not second ≡ true → Decides second (Fits bytes sizes) → Loads before bytes (effect (refused 11) before before)
  refused_unfit e d =
      let not-fits = subst (λ (z : Sizes). Fits bytes z → ⊥) is (test_failed second (Fits bytes sizes) e d) in
      passed (well_formed before bytes first well formed) (stopped not-fits (record { is = refl; same = refl }))

  pub can_read : not second ≡ false → Decides second (Fits bytes sizes) → CanRead (panel_of sizes) bytes
  can_read e d =
      let f = test_passed second (Fits bytes sizes) e d in
      record { formed = well_formed before bytes first well formed; valid = rw is usable.valid.panel; order = f.order; k = f.k }

  pub refused_no_image : (third : Bool) → not second ≡ false → Decides second (Fits bytes sizes) → not third ≡ true → Decides third (Some bytes sizes)
      → Loads before bytes (effect (refused 12) before before)
  refused_no_image third like fits e d =
      let f = subst (Fits bytes) is (test_passed second (Fits bytes sizes) like fits) in
      let none = subst (λ (z : Sizes). Some bytes z → ⊥) is (test_failed third (Some bytes sizes) e d) in
      passed (well_formed before bytes first well formed) (passed f (stopped none (record { is = refl; same = refl })))

-- every test was passed
module _ (before bytes codes levels : List ℕ) (sizes : Sizes) (first second third : Bool) (usable : UsableStore before) (is : sizes ≡ sizes_of before)
    (codes_are : codes ≡ codes_part bytes) (levels_are : levels ≡ levels_part bytes) (well : not first ≡ false) (formed : Decides first (WellFormed bytes))
    (like : not second ≡ false) (fits : Decides second (Fits bytes sizes)) (of-set : not third ≡ false) (some : Decides third (Some bytes sizes)) where
  pub replace_due : (number : ℕ) → number ≡ pixel_number bytes → ReplaceDue before sizes codes levels number
  replace_due number number_is =
      let w = well_formed before bytes first well formed in
      let f = test_passed second (Fits bytes sizes) like fits in
      let s = test_passed third (Some bytes sizes) of-set some in
      let e = arrays_tell_set bytes w (panel_of sizes) (rw is usable.valid.panel) s in
      record {
        usable = usable;
        sizes_are = is;
        given = rw (codes_are, levels_are) (arrays_fit bytes w sizes (rw is usable.valid.panel) f s);
        number_is = rw (codes_are, levels_are) (omega (arith, number_is, s.of_n, ap length e));
      }

  pub set_loaded : (after : List ℕ) → Replaced before after (pixels_given codes levels) → Loads before bytes (effect (accepted 0 0) before after)
  set_loaded after p =
      let w = well_formed before bytes first well formed in
      let f = subst (Fits bytes) is (test_passed second (Fits bytes sizes) like fits) in
      let s = subst (Some bytes) is (test_passed third (Some bytes sizes) of-set some) in
      let e = arrays_tell_set bytes w (panel_of (sizes_of before)) usable.valid.panel s in
      passed w
      (passed f
      (passed s
      (record {
        set = s.set;
        has_image = record { on_panel = s.on_panel; room = omega (arith, s.of_n, f.pixels); is = s.is };
        loaded = record {
          done = record { done = refl; within = record { past = p.past; long = p.long } };
          holds = subst (Holds after) e (rw (codes_are, levels_are) at p.holds);
          sizes_are = p.sizes_same;
        };
      })))
