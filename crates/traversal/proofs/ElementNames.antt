-- What the words of an element name: one element, its two words, its level and code.
use Prim.Native.Nat.{ℕ, zero, suc}
use native.Mathlib.Omega.{arith}
use mathlib.Core.Path.{◌≡◌, ap, ◌∙◌}
use mathlib.Core.List.{[], ◌∷◌}
use Rattle.pktree.specs.Elements.{size}
use Rattle.pktree.proofs.LocalTest.{heads}
use Rattle.elements.specs.declared.Element.{Element}
use Rattle.elements.specs.declared.Element.TheVariants.{Pixel, Block}
use Rattle.elements.specs.Element.{element_of, block_tag, tag_level, tag_slot}
use Rattle.store.specs.Placed.{Placed}
use Rattle.store.proofs.Standing.{element_words}
use Rattle.inspection.specs.Pass.{entry_of}
use Rattle.traversal.specs.Walk.{Names}

pub names_words : (code tag : ℕ) (t : Placed) → Names (element_of code tag) t → element_words t ≡ code ∷ tag ∷ []
names_words code zero t n = ap element_words n
names_words code (suc tag) t n =
    let e : block_tag (tag_slot tag) (tag_level tag) ≡ suc tag = omega arith in
    ap element_words n.1 ∙ ap (λ (v : ℕ). code ∷ v ∷ []) e

pub names_head : (element : Element) (t : Placed) → Names element t → heads t ≡ entry_of element ∷ []
names_head (Pixel c) t n = ap (λ (u : Placed). heads u) n
names_head (Block block) t n = ap (λ (u : Placed). heads u) n.1

pub names_one : (element : Element) (t : Placed) → Names element t → size t ≡ 1
names_one (Pixel c) t n = ap (λ (u : Placed). size u) n
names_one (Block block) t n = ap (λ (u : Placed). size u) n.1
