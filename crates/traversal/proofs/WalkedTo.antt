-- The loop over the elements of a block, in what it has read of the block's first elements.
use Prim.Native.Nat.{ℕ, suc, ◌+◌, ◌-◌, ◌*◌, ◌^◌, ◌≤◌}
use native.Mathlib.Omega.{arith}
use mathlib.Core.Path.{◌≡◌, refl, ap, ap₂, sym, ◌∙◌}
use mathlib.Core.Bool.{Bool}
use mathlib.Core.List.{List, [], ◌∷◌, ◌++◌, append_assoc}
use lib.ListN.{length, get_or, take, drop}
use lib.Seq.{take-add, drop-cons, drop-drop}
use Rattle.pktree.specs.Entries.{Entry, entry}
use Rattle.pktree.specs.Elements.{ForestOf, empty, pixel, ◌⧺◌, size, block_at}
use Rattle.pktree.proofs.LocalTest.{heads, pass_test, slot_test}
use Rattle.pktree.proofs.Forests.{size_join}
use Rattle.elements.specs.declared.Element.{Element}
use Rattle.elements.specs.Element.{element_at}
use Rattle.measures.specs.Slot.{slot_part, element_part, element_index}
use Rattle.store.specs.Placed.{Placed}
use Rattle.store.proofs.Standing.{element_words}
use Rattle.store.proofs.PlacedJoin.{words_join}
use Rattle.inspection.specs.declared.pass.Pass.{Pass}
use Rattle.inspection.specs.Pass.{first_pass, entry_of, PassMeets}
use Rattle.traversal.specs.declared.Claim.{Claim}
use Rattle.traversal.specs.declared.Seen.{Seen}
use Rattle.std.specs.Prelude.{Ok}
use Rattle.traversal.specs.Walk.{Limits, seen_with, StandsRight, Names, ElementWalked}
use Rattle.traversal.proofs.ElementNames.{names_words, names_head, names_one}
use Rattle.traversal.proofs.RightParts.{right_nothing, right_join}
use Rattle.traversal.proofs.SeenParts.{seen_none, seen_join}

-- the words of the slot that is claimed
abbrev pub part_of : Limits → List ℕ → Claim → List ℕ
part_of limits words claim = slot_part limits.layout.width words claim.block.slot

-- what is left of the pass over the block
abbrev pub left_test : Limits → Claim → Pass → List Entry → Bool
left_test limits claim pass rest =
    pass_test limits.k (claim.block.level - 1) (claim.block.code + 4 ^ suc (claim.block.level - 1)) pass.from pass.quarter pass.met rest

-- the first i elements are read and right, and this is what the pass and the numbers have come to
pub record WalkedTo (limits : Limits) (words : List ℕ) (claim : Claim) (first : Seen) (i : ℕ) (pass : Pass) (now : Seen) : Type 0 where
  pub past : Placed
  pub many : size past ≡ i
  pub names : take (2 * size past) (element_part (part_of limits words claim)) ≡ element_words past
  pub right : StandsRight limits words past
  pub passed : (rest : List Entry) → slot_test limits.k (claim.block.level - 1) claim.block.code (heads past ++ rest) ≡ left_test limits claim pass rest
  pub now_is : now ≡ seen_with first past

pub heads_join : {A : Type 0} (f g : ForestOf A) → heads (f ⧺ g) ≡ heads f ++ heads g
heads_join empty g = refl
heads_join (pixel c f) g = ap (λ (l : List Entry). entry 0 c ∷ l) (heads_join f g)
heads_join (block_at v i c es f) g = ap (λ (l : List Entry). entry i c ∷ l) (heads_join f g)

two_words : (l : List ℕ) (n : ℕ) → n + 2 ≤ length l → take 2 (drop n l) ≡ get_or l n 0 ∷ get_or l (n + 1) 0 ∷ []
two_words l n h =
    let e : suc n ≡ n + 1 = omega arith in
    rw (drop-cons l n 0 (omega arith), drop-cons l (suc n) 0 (omega arith)) (ap (λ (j : ℕ). get_or l n 0 ∷ get_or l j 0 ∷ []) e)

module _ {limits : Limits} {words : List ℕ} {claim : Claim} {first : Seen} where
  pub walked_none : WalkedTo limits words claim first 0 (first_pass (claim.block.level - 1) claim.block.code) first
  walked_none = record { past = empty; many = refl; names = refl; right = right_nothing; passed = λ rest. refl; now_is = seen_none first }

  pub walked_one : {i : ℕ} {pass next : Pass} {now more : Seen} {element : Element} → element ≡ element_at (part_of limits words claim) i
      → element_index i + 2 ≤ length (part_of limits words claim) → WalkedTo limits words claim first i pass now
      → PassMeets limits.k (claim.block.level - 1) pass (entry_of element) (Ok next) → ElementWalked limits words element now more
      → WalkedTo limits words claim first (i + 1) next more
  walked_one {i} {element = element} e laid w p x =
      let part : List ℕ = part_of limits words claim in
      let old : Placed = w.past in
      let one : Placed = x.found in
      let n : ℕ = 2 * size old in
      let m : 2 * size (old ⧺ one) ≡ n + 2 = omega (arith, size_join old one, names_one element one x.names) in
      let at : 8 + n ≡ element_index i = omega (arith, w.many) in
      let said : Names (element_at part i) one = rw e at x.names in
      let own : take 2 (drop n (element_part part)) ≡ element_words one =
      ap (take 2) (drop-drop n 8 part ∙ ap (λ (j : ℕ). drop j part) at) ∙ two_words part (element_index i) laid ∙ sym (names_words _ _ one said) in
      record {
        past = old ⧺ one;
        many = omega (arith, w.many, size_join old one, names_one element one x.names);
        names = ap (λ (j : ℕ). take j (element_part part)) m ∙ take-add n 2 (element_part part) ∙ ap₂ ◌++◌ w.names own ∙ sym (words_join old one);
        right = right_join old one w.right x.at;
        passed = λ rest.
            ap (slot_test limits.k (claim.block.level - 1) claim.block.code)
            (ap (λ (l : List Entry). l ++ rest) (heads_join old one) ∙ append_assoc (heads old) (heads one) rest
            ∙ ap (λ (l : List Entry). heads old ++ (l ++ rest)) (names_head element one x.names))
            ∙ w.passed (entry_of element ∷ rest) ∙ p.goes _ rest;
        now_is = x.now_is ∙ ap (λ (s : Seen). seen_with s one) w.now_is ∙ seen_join first old one;
      }
