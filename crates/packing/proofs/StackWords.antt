-- The words of the stack: the code of each element, two words set after the others, and what a run leaves there when it is packed.
use Prim.Native.Nat.{ℕ, zero, suc, ◌+◌, ◌*◌, ◌≤◌, ◌<◌}
use native.Mathlib.Omega.{arith}
use mathlib.Core.Path.{◌≡◌, refl, ap, sym, ◌∙◌}
use mathlib.Core.List.{List, [], ◌∷◌, ◌++◌, append_assoc}
use lib.ListN.{length, get_or, take, set, length-set, length-take}
use lib.Seq.{get_or-take, take-suc-set}
use Rattle.pktree.specs.Elements.{empty, pixel, block_at, size}
use Rattle.store.specs.Placed.{Placed}
use Rattle.store.proofs.Standing.{element_words}
use Rattle.store.proofs.PlacedJoin.{length_element_words}
use Rattle.packing.specs.declared.Build.{Build}
use Rattle.packing.specs.declared.plan.Plan.{Plan}
use Rattle.packing.specs.Growing.{code_of_element}
use Rattle.packing.specs.Build.{Grown}

-- the code of element i is word 2i
word_code : (t : Placed) (i : ℕ) → i < size t → get_or (element_words t) (2 * i) 0 ≡ code_of_element t i
word_code empty i h = absurd (omega arith)
word_code (pixel c t) zero h = refl
word_code (pixel c t) (suc i) h = let e : 2 * suc i ≡ suc (suc (2 * i)) = omega arith in rw e (word_code t i (omega arith))
word_code (block_at s j c es t) zero h = refl
word_code (block_at s j c es t) (suc i) h = let e : 2 * suc i ≡ suc (suc (2 * i)) = omega arith in rw e (word_code t i (omega arith))

-- two words set after the first n elements
pub two_set : (stack : List ℕ) (n a b : ℕ) → 2 * n + 1 < length stack → take (2 * (n + 1)) (set (set stack (2 * n) a) (2 * n + 1) b) ≡ take (2 * n) stack ++ (a ∷ b ∷ [])
two_set stack n a b h =
    let one : 2 * n + 1 ≡ suc (2 * n) = omega arith in
    let two : 2 * (n + 1) ≡ suc (suc (2 * n)) = omega arith in
    rw (two, one)
    (take-suc-set (set stack (2 * n) a) (suc (2 * n)) b (omega (arith, length-set stack (2 * n) a))
    ∙ ap (λ (l : List ℕ). l ++ (b ∷ [])) (take-suc-set stack (2 * n) a (omega arith))
    ∙ append_assoc (take (2 * n) stack) (a ∷ []) (b ∷ []))

module _ {plan : Plan} {words stack : List ℕ} {build : Build} {to : ℕ} {codes : List ℕ} (g : Grown plan words stack build to codes) where
  -- the elements lie on the stack
  pub grown_lies : 2 * build.count ≤ length stack
  grown_lies =
      let e : length (take (2 * build.count) stack) ≡ 2 * build.count = ap length g.on_stack ∙ length_element_words g.placed ∙ ap (λ (n : ℕ). 2 * n) g.many in
      omega (arith, length-take (2 * build.count) stack)

  pub code_on_stack : (i : ℕ) → i < build.count → get_or stack (2 * i) 0 ≡ code_of_element g.placed i
  code_on_stack i h =
      sym (get_or-take (2 * build.count) stack (2 * i) 0 (omega arith)) ∙ ap (λ (l : List ℕ). get_or l (2 * i) 0) g.on_stack
      ∙ word_code g.placed i (omega (arith, g.many))
