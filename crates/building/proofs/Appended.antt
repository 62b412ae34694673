-- What appending one code after the other leaves, for whoever appends: codes of a slice, or the pixels of an image.
use Prim.Native.Nat.{ℕ}
use native.Mathlib.Omega.{arith}
use mathlib.Core.Path.{◌≡◌, refl, sym, ◌∙◌}
use mathlib.Core.List.{List, [], ◌∷◌, ◌++◌}
use lib.ListN.{length}
use Rattle.pktree.specs.Elements.{empty}
use Rattle.pktree.proofs.Alignment.{pow_pos}
use Rattle.packing.specs.declared.Build.{Build}
use Rattle.packing.specs.declared.plan.Plan.{Plan}
use Rattle.packing.specs.Build.{empty_build, Building, AppendDue, AppendDone}
use Rattle.building.specs.Finish.{Appended, BuildAt}
use Rattle.packing.proofs.PackTurns.{beside_itself, beside_then}

-- nothing is built yet
building_first : {plan : Plan} {words stack codes : List ℕ} {build : Build} → build ≡ empty_build → BuildAt plan words stack codes
    → Building plan words stack build [] codes
building_first {plan} e due =
    rw e (record {
      ground = due.ground;
      to = 0;
      grown = record {
        placed = empty;
        many = refl;
        on_stack = refl;
        stands = tt;
        numbers = tt;
        fresh_is = refl;
        numbered = λ s. refl;
        opened = record { arranged = omega arith; reach = tt; others = λ j q l ne. omega (arith, plan.valid.panel.k_from) };
        codes_are = refl;
      };
      to_inside = omega arith;
      last_inside = pow_pos plan.sizes.order;
      last_below = omega arith;
      ascending = due.on_panel.ascending;
      on_panel = due.on_panel.on_panel;
      room = omega (arith, due.room);
    })

pub appended_itself : {plan : Plan} {words stack done later : List ℕ} {build : Build} → Building plan words stack build done later
    → Appended plan words words stack build done later
appended_itself {plan} {words} b = record { beside = beside_itself plan.layout words; building = b }

pub appended_then : {plan : Plan} {words₀ words words' stack stack' done later done' later' : List ℕ} {build r : Build}
    → Appended plan words₀ words stack build done later → Appended plan words words' stack' r done' later' → Appended plan words₀ words' stack' r done' later'
appended_then a b = record { beside = beside_then a.beside b.beside; building = b.building }

pub none_appended : {plan : Plan} {words stack codes : List ℕ} {build : Build} → build ≡ empty_build → BuildAt plan words stack codes
    → Appended plan words words stack build [] codes
none_appended e due = appended_itself (building_first e due)

-- the next code is the first of those to come
pub append_due : {plan : Plan} {words₀ words stack done later : List ℕ} {build : Build} {code : ℕ} → Appended plan words₀ words stack build done (code ∷ later)
    → AppendDue plan words stack build code
append_due {done = done} {later = later} a = record { done = done; later = later; building = a.building }

pub one_appended : {plan : Plan} {words₀ words stack words' stack' done later : List ℕ} {build r : Build} {code : ℕ}
    → Appended plan words₀ words stack build done (code ∷ later) → AppendDone plan build code words words' stack stack' r
    → Appended plan words₀ words' stack' r (done ++ (code ∷ [])) later
one_appended {done = done} {later = later} a d = appended_then a (record { beside = d.beside; building = d.right done later a.building })

pub stack_kept : {plan : Plan} {words₀ words stack₀ stack codes done later : List ℕ} {build : Build} → BuildAt plan words₀ stack₀ codes
    → Appended plan words₀ words stack build done later → length stack ≡ length stack₀
stack_kept due a = a.building.ground.stack_long ∙ sym due.ground.stack_long
