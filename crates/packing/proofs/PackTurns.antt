-- The loop that packs, turn by turn.
use Prim.Native.Nat.{ℕ, ◌-◌, ◌*◌, ◌≤◌, ◌<◌}
use native.Mathlib.Omega.{arith}
use mathlib.Core.Path.{◌≡◌, refl, subst, sym, ◌∙◌}
use mathlib.Core.Bool.{Bool, true}
use mathlib.Core.List.{List}
use lib.ListN.{length, get_or}
use Rattle.morton.specs.CommonLevel.{CommonLevel}
use Rattle.elements.specs.RunStart.{RunStart}
use Rattle.measures.specs.declared.sizes.Layout.{Layout}
use Rattle.packing.specs.declared.Build.{Build}
use Rattle.packing.specs.declared.plan.Plan.{Plan}
use Rattle.packing.specs.Growing.{stack_words}
use Rattle.packing.specs.Build.{NothingToPack, NoneComplete, PackDue, PackedRun, Beside, PackCompleteAt, PackCompleteDue, PackCompleteDone}
use Rattle.packing.proofs.StackWords.{grown_lies}
use Rattle.packing.proofs.Packing.{all_packed, pack_due, beside_after, still_due, fewer_left}

pub beside_itself : (layout : Layout) (words : List ℕ) → Beside layout words words
beside_itself layout words = record { long = refl; head = refl; past = refl }

pub beside_then : {layout : Layout} {a b d : List ℕ} → Beside layout a b → Beside layout b d → Beside layout a d
beside_then p q = record { long = q.long ∙ p.long; head = q.head ∙ p.head; past = q.past ∙ p.past }

-- what was due at first is due still
pub record Going (plan : Plan) (limit k : ℕ) (words₀ stack₀ : List ℕ) (build₀ : Build) (words stack : List ℕ) (build : Build) : Type 0 where
  pub beside : Beside plan.layout words₀ words
  pub stack_long : length stack ≡ length stack₀
  pub stack_enough : length stack ≡ stack_words
  pub on_stack : 2 * build.count ≤ length stack
  pub k_from : 2 ≤ k
  pub last_is : build.last ≡ build₀.last
  pub right : (to : ℕ) (codes : List ℕ) → PackCompleteAt plan words₀ stack₀ build₀ limit to codes
      → PackCompleteAt plan words stack build limit to codes

pub going_first : {plan : Plan} {limit k : ℕ} {words stack : List ℕ} {build : Build} → k ≡ plan.sizes.k → PackCompleteDue plan words stack build limit
    → Going plan limit k words stack build words stack build
going_first {plan} {words = words} e due = record {
  beside = beside_itself plan.layout words;
  stack_long = refl;
  stack_enough = due.due.ground.stack_long;
  on_stack = grown_lies due.due.grown;
  k_from = omega (arith, plan.valid.panel.k_from);
  last_is = refl;
  right = λ to codes due. due;
}

-- a run found where k elements are on the stack
record Found (k limit : ℕ) (stack : List ℕ) (build : Build) (level first : ℕ) : Type 0 where
  full : k ≤ build.count
  common : CommonLevel (get_or stack (2 * (build.count - k)) 0) build.last level
  low : level < limit
  start : RunStart stack (build.count - k) build.last level first

module _ {plan : Plan} {limit k : ℕ} {words₀ stack₀ words stack : List ℕ} {build₀ build : Build} (g : Going plan limit k words₀ stack₀ build₀ words stack build)
    (e : k ≡ plan.sizes.k) (due : PackCompleteDue plan words₀ stack₀ build₀ limit) where
  now_due : PackCompleteAt plan words stack build limit due.to due.codes
  now_due = g.right due.to due.codes due.due

  -- no run has the root's level
  pub level_small : {level : ℕ} → level < limit → level ≤ 15
  level_small low = omega (arith, now_due.limit_to, plan.valid.panel.order_to)

  module _ {level first : ℕ} (full : k ≤ build.count) (common : CommonLevel (get_or stack (2 * (build.count - k)) 0) build.last level) (low : level < limit)
      (start : RunStart stack (build.count - k) build.last level first) where
    here : Found k limit stack build level first
    here = record { full = full; common = common; low = low; start = start }

    here_for : Found plan.sizes.k limit stack build level first
    here_for = subst (λ (n : ℕ). Found n limit stack build level first) e here

    pub pack_here : PackDue plan.layout words stack build first level
    pack_here = pack_due now_due here_for.full here_for.common here_for.low here_for.start

    module _ {words' stack' : List ℕ} {r : Build} (done : PackedRun plan.layout build first level words words' stack stack' r) where
      pub count_falls : r.count < build.count
      count_falls = fewer_left now_due here_for.full here_for.common here_for.low here_for.start done

      beside_on : Beside plan.layout words words'
      beside_on = beside_after now_due here_for.full here_for.common here_for.low here_for.start done

      due_on : (to : ℕ) (codes : List ℕ) → PackCompleteAt plan words stack build limit to codes → PackCompleteAt plan words' stack' r limit to codes
      due_on to codes due' = still_due due' here_for.full here_for.common here_for.low here_for.start done

      next : PackCompleteAt plan words' stack' r limit due.to due.codes
      next = due_on due.to due.codes now_due

      pub going_on : Going plan limit k words₀ stack₀ build₀ words' stack' r
      going_on = record {
        beside = beside_then g.beside beside_on;
        stack_long = next.ground.stack_long ∙ sym due.due.ground.stack_long;
        stack_enough = next.ground.stack_long;
        on_stack = grown_lies next.grown;
        k_from = g.k_from;
        last_is = done.last_is ∙ g.last_is;
        right = λ to codes due'. due_on to codes (g.right to codes due');
      }

-- nothing is to be packed: no k elements are on the stack, or the block that holds the last k is not below the limit
module _ {k limit : ℕ} {stack : List ℕ} {build : Build} where
  pub none_where_short : build.count < k → NothingToPack k stack build limit
  none_where_short short = record { none = λ full i l z. omega arith }

  pub none_where_high : {level : ℕ} → CommonLevel (get_or stack (2 * (build.count - k)) 0) build.last level → limit ≤ level → NothingToPack k stack build limit
  none_where_high common high = record { none = λ full i l z. omega (arith, common.least i z) }

-- then all is packed as it stands
pub nothing_packed : {plan : Plan} {limit k : ℕ} {words stack : List ℕ} {build : Build} {r : Bool} → k ≡ plan.sizes.k → NoneComplete k stack build limit r → r ≡ true
    → PackCompleteDone plan build limit words words stack stack build
nothing_packed {plan} {limit = limit} {words = words} {stack = stack} {build = build} e none t =
    record {
      beside = beside_itself plan.layout words;
      stack_long = refl;
      last_is = refl;
      right = λ to codes due. all_packed due (subst (λ (n : ℕ). NothingToPack n stack build limit) e (none.says t));
    }

-- the loop ends where nothing is
module _ {plan : Plan} {limit k : ℕ} {words₀ stack₀ words stack : List ℕ} {build₀ build : Build} (g : Going plan limit k words₀ stack₀ build₀ words stack build)
    (e : k ≡ plan.sizes.k) where
  going_ends : NothingToPack k stack build limit → PackCompleteDone plan build₀ limit words₀ words stack₀ stack build
  going_ends none = record {
    beside = g.beside;
    stack_long = g.stack_long;
    last_is = g.last_is;
    right = λ to codes due. all_packed (g.right to codes due) (subst (λ (n : ℕ). NothingToPack n stack build limit) e none);
  }

  pub ends_short : build.count < k → PackCompleteDone plan build₀ limit words₀ words stack₀ stack build
  ends_short short = going_ends (none_where_short short)

  pub ends_high : {level : ℕ} → CommonLevel (get_or stack (2 * (build.count - k)) 0) build.last level → limit ≤ level → PackCompleteDone plan build₀ limit words₀ words stack₀ stack build
  ends_high common high = going_ends (none_where_high common high)
