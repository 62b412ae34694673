-- Each way out of `enter`.
use Prim.Native.Nat.{ℕ, ◌<◌}
use native.Mathlib.Omega.{arith}
use mathlib.Core.Path.{◌≡◌, subst}
use mathlib.Core.List.{List}
use Rattle.measures.specs.declared.sizes.Layout.{Layout}
use Rattle.measures.specs.Layout.{LayoutFits}
use Rattle.measures.specs.Slot.{slot_part}
use Rattle.store.specs.Opening.{Opened}
use Rattle.store.specs.declared.Damaged.{Damaged}
use Rattle.std.specs.Prelude.{Result}
use Rattle.store.proofs.OpenedSlot.{few_elements}
use Rattle.walks.specs.Entered.{Entered}

module _ {layout : Layout} {words : List ℕ} {above slot level code : ℕ} where
  pub as_said : {s : ℕ} {part : List ℕ} {r : Result ℕ Damaged} → part ≡ slot_part layout.width words s → s ≡ slot → LayoutFits layout words → level < above → s < layout.slots
      → Opened part level code r → Entered layout words above slot level code r
  as_said {r = r} e f fits low below said =
      let at : Opened (slot_part layout.width words slot) level code r = rw (e, f) at said in
      record {
        entered = λ n g. let h = subst (Opened (slot_part layout.width words slot) level code) g at in
            record { slot_below = omega arith; level_below = low; header = h; few = few_elements fits (omega arith) h };
        barred = λ g p q. subst (Opened (slot_part layout.width words slot) level code) g at;
      }
