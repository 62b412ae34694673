-- What a block that is as claimed would be at the element where the walk refuses it.
use Prim.Native.Nat.{ℕ, suc, ◌+◌, ◌-◌, ◌^◌, ◌≤◌, ◌<◌}
use native.Mathlib.Omega.{arith}
use mathlib.Core.Path.{◌≡◌, refl, ap, subst, sym, ◌∙◌}
use mathlib.Core.Bool.{true}
use mathlib.Core.List.{List, [], ◌∷◌, ◌++◌, append-nil}
use lib.ListN.{length}
use borrow.Author.Tests.{le-leb, leb-true}
use Rattle.pktree.specs.Elements.{size, ◌⧺◌, block_at, empty, pixel}
use Rattle.pktree.specs.Tree.{pixels}
use Rattle.pktree.proofs.LocalTest.{heads, slot_test}
use Rattle.pktree.proofs.Forests.{join_assoc, join_empty, size_join}
use Rattle.elements.specs.declared.Element.{Element}
use Rattle.elements.specs.Element.{element_at}
use Rattle.measures.specs.Slot.{count_word, number_word}
use Rattle.store.specs.Opening.{HeaderSays}
use Rattle.store.specs.Placed.{Placed}
use Rattle.store.proofs.BlockView.{element_pixel, element_block}
use Rattle.inspection.specs.declared.pass.Pass.{Pass}
use Rattle.inspection.specs.Pass.{entry_of, PassMeets, refuses}
use Rattle.traversal.specs.declared.Claim.{Claim}
use Rattle.traversal.specs.declared.Seen.{Seen}
use Rattle.traversal.specs.Walk.{Limits, WithinLimits, seen_with, StandsRight, BlockAt, Names, NoneNamed}
use Rattle.traversal.proofs.ElementNames.{names_head}
use Rattle.traversal.proofs.OneReading.{Begins, begins}
use Rattle.traversal.proofs.RightParts.{right_parts}
use Rattle.traversal.proofs.SeenParts.{seen_join, within_first}
use Rattle.traversal.proofs.WalkedTo.{part_of, left_test, WalkedTo, heads_join}

-- the element that comes next
record NextOf (limits : Limits) (words : List ℕ) (claim : Claim) (pass : Pass) (now : Seen) (element : Element) : Type 0 where
  one : Placed
  names : Names element one
  right : StandsRight limits words one
  room : WithinLimits limits (seen_with now one)
  rest : Placed
  passes : left_test limits claim pass (entry_of element ∷ heads rest) ≡ true

module _ {limits : Limits} {words : List ℕ} {claim : Claim} {first : Seen} {i : ℕ} {pass : Pass} {now : Seen} (w : WalkedTo limits words claim first i pass now) where
  abbrev old : Placed
  old = w.past

  begun : (es : Placed) → BlockAt limits words claim es → i ≤ size es → Begins old es
  begun es b h =
      begins limits.layout.width words claim.block.slot claim.block.level claim.block.code old es b.says b.elements.stands w.right.stands w.names
      (omega (arith, w.many))

  -- of what is left of a block as claimed, the first is the next element
  next_of : (element : Element) (es one rest : Placed) → BlockAt limits words claim es → WithinLimits limits (seen_with first es) → es ≡ old ⧺ (one ⧺ rest)
      → Names element one → NextOf limits words claim pass now element
  next_of element es one rest b room e n =
      let r = (right_parts old (one ⧺ rest) (subst (StandsRight limits words) e b.elements)).1 in
      let g = (right_parts one rest r).0 in
      let e' : es ≡ (old ⧺ one) ⧺ rest = e ∙ sym (join_assoc old one rest) in
      let room' = within_first {limits = limits} first (old ⧺ one) rest
      (subst (λ (f : _). WithinLimits limits (seen_with first f)) e' room) in
      let s : seen_with first (old ⧺ one) ≡ seen_with now one =
      sym (seen_join first old one) ∙ ap (λ (x : Seen). seen_with x one) (sym w.now_is) in
      let h : heads es ≡ heads old ++ (entry_of element ∷ heads rest) =
      ap heads e ∙ heads_join old (one ⧺ rest)
      ∙ ap (λ (l : _). heads old ++ l) (heads_join one rest ∙ ap (λ (l : _). l ++ heads rest) (names_head element one n)) in
      record {
        one = one;
        names = n;
        right = g;
        room = subst (WithinLimits limits) s room';
        rest = rest;
        passes = sym (w.passed _) ∙ ap (slot_test limits.k (claim.block.level - 1) claim.block.code) (sym h) ∙ b.passes;
      }

  next : (es : Placed) → BlockAt limits words claim es → WithinLimits limits (seen_with first es) → i < size es
      → NextOf limits words claim pass now (element_at (part_of limits words claim) i)
  next es b room below = go (begun es b (omega arith)).left (begun es b (omega arith)).is
    where
      go : (left : Placed) → es ≡ old ⧺ left → NextOf limits words claim pass now (element_at (part_of limits words claim) i)
      go empty e = absurd (omega (arith, w.many, ap size (e ∙ join_empty old)))
      go (pixel c rest) e =
          next_of _ es (pixel c empty) rest b room e
          (subst (λ (x : Element). Names x (pixel c empty)) (sym (rw w.many at (element_pixel (part_of limits words claim) _ _ es old rest b.says c e))) refl)
      go (block_at s j c fs rest) e =
          let small = (right_parts old (block_at s j c fs rest) (subst (StandsRight limits words) e b.elements)).1.stands.0 in
          next_of _ es (block_at s j c fs empty) rest b room e
          (subst (λ (x : Element). Names x (block_at s j c fs empty))
          (sym (rw w.many at (element_block (part_of limits words claim) _ _ es old rest b.says s j c fs e small))) (fs, refl))

  -- the ways out of the walk
  pub refused : {element : Element} {count : ℕ} → element ≡ element_at (part_of limits words claim) i → count_word (part_of limits words claim) ≡ count → i < count
      → PassMeets limits.k (claim.block.level - 1) pass (entry_of element) refuses → (es : Placed) → BlockAt limits words claim es
      → WithinLimits limits (seen_with first es) → ⊥
  refused e n below p es b room =
      let x = next es b room (omega (arith, b.says.count_is)) in
      let z : ◌≡◌ {A = ℕ} 0 1 = cc (rw e at (p.goes (claim.block.code + 4 ^ suc (claim.block.level - 1)) (heads x.rest)), x.passes) in
      omega arith

  pub element_unsound : {element : Element} {count : ℕ} → element ≡ element_at (part_of limits words claim) i → count_word (part_of limits words claim) ≡ count → i < count
      → NoneNamed limits words element now → (es : Placed) → BlockAt limits words claim es
      → WithinLimits limits (seen_with first es) → ⊥
  element_unsound e n below p es b room =
      let x = next es b room (omega (arith, b.says.count_is)) in
      p.none x.one (rw e x.names) x.right x.room

  -- all elements are read
  module _ {count : ℕ} (opened : HeaderSays (part_of limits words claim) claim.block.level claim.block.code count) (all : i ≡ count) where
    -- so a block as claimed has these
    all_read : (es : Placed) → BlockAt limits words claim es → es ≡ old
    all_read es b = go (begun es b (omega (arith, b.says.count_is))).left (begun es b (omega (arith, b.says.count_is))).is
      where
        go : (left : Placed) → es ≡ old ⧺ left → es ≡ old
        go empty e = e ∙ join_empty old
        go (pixel c rest) e = absurd (omega (arith, w.many, b.says.count_is, opened.count_is, ap size e, size_join old (pixel c rest)))
        go (block_at s j c fs rest) e = absurd (omega (arith, w.many, b.says.count_is, opened.count_is, ap size e, size_join old (block_at s j c fs rest)))

    pub past_end : claim.block.code + 4 ^ suc (claim.block.level - 1) < pass.from → (es : Placed) → BlockAt limits words claim es → ⊥
    past_end far es b =
        let h : heads es ≡ heads old ++ [] = ap (λ (t : Placed). heads t) (all_read es b) ∙ sym (append-nil _) in
        let t : left_test limits claim pass [] ≡ true = sym (w.passed []) ∙ ap (slot_test limits.k (claim.block.level - 1) claim.block.code) (sym h) ∙ b.passes in
        omega (arith, leb-true pass.from (claim.block.code + 4 ^ suc (claim.block.level - 1)) t)

    pub wrong_number : (number_word (part_of limits words claim) ≡ length (pixels old) → ⊥) → (es : Placed) → BlockAt limits words claim es → ⊥
    wrong_number differ es b = differ (b.number ∙ ap (λ (t : Placed). length (pixels t)) (all_read es b))

    pub whole : claim.least ≤ count → pass.from ≤ claim.block.code + 4 ^ suc (claim.block.level - 1) → number_word (part_of limits words claim) ≡ length (pixels old)
        → BlockAt limits words claim old
    whole enough ends number =
        record {
          says = record { level_is = opened.level_is; code_is = opened.code_is; count_is = omega (arith, opened.count_is, w.many); elements_are = w.names };
          many = omega (arith, w.many);
          passes = ap (slot_test limits.k (claim.block.level - 1) claim.block.code) (sym (append-nil (heads old))) ∙ w.passed []
              ∙ le-leb pass.from (claim.block.code + 4 ^ suc (claim.block.level - 1)) ends;
          elements = w.right;
          number = number;
        }
