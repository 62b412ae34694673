-- The words of joined elements, cut at an element.
use Prim.Native.Nat.{ℕ, ◌+◌, ◌*◌}
use native.Mathlib.Omega.{arith}
use mathlib.Core.Path.{◌≡◌, ap, ap₂, sym, ◌∙◌}
use mathlib.Core.List.{List, ◌++◌}
use lib.ListN.{take, drop}
use lib.Seq.{take_at, drop_at, drop-drop}
use Rattle.pktree.specs.Elements.{size, ◌⧺◌, block_at}
use Rattle.store.specs.Placed.{Placed}
use Rattle.store.proofs.Standing.{element_words}
use Rattle.store.proofs.PlacedJoin.{words_join, length_element_words}
use Rattle.rewrite.specs.Rewrite.{block_words, run_words, with_block}

module _ (a m b : Placed) where
  words : element_words (a ⧺ (m ⧺ b)) ≡ element_words a ++ (element_words m ++ element_words b)
  words = words_join a (m ⧺ b) ∙ ap (λ (l : List ℕ). element_words a ++ l) (words_join m b)

  front_words : (n : ℕ) → size a ≡ n → take (2 * n) (element_words (a ⧺ (m ⧺ b))) ≡ element_words a
  front_words n e = ap (take (2 * n)) words ∙ take_at (element_words a) (element_words m ++ element_words b) (2 * n) (length_element_words a ∙ ap (λ (i : ℕ). 2 * i) e)

  behind : (n : ℕ) → size a ≡ n → drop (2 * n) (element_words (a ⧺ (m ⧺ b))) ≡ element_words m ++ element_words b
  behind n e = ap (drop (2 * n)) words ∙ drop_at (element_words a) (element_words m ++ element_words b) (2 * n) (length_element_words a ∙ ap (λ (i : ℕ). 2 * i) e)

  pub middle_words : (n r : ℕ) → size a ≡ n → size m ≡ r → run_words (element_words (a ⧺ (m ⧺ b))) n r ≡ element_words m
  middle_words n r e f = ap (take (2 * r)) (behind n e) ∙ take_at (element_words m) (element_words b) (2 * r) (length_element_words m ∙ ap (λ (i : ℕ). 2 * i) f)

  back_words : (n r : ℕ) → size a ≡ n → size m ≡ r → drop (2 * (n + r)) (element_words (a ⧺ (m ⧺ b))) ≡ element_words b
  back_words n r e f =
      let q : 2 * (n + r) ≡ 2 * n + 2 * r = omega arith in
      rw q (sym (drop-drop (2 * r) (2 * n) (element_words (a ⧺ (m ⧺ b)))) ∙ ap (drop (2 * r)) (behind n e)
      ∙ drop_at (element_words m) (element_words b) (2 * r) (length_element_words m ∙ ap (λ (i : ℕ). 2 * i) f))

  -- other elements in the middle
  pub spliced_words : (source : List ℕ) (new : Placed) (n r i : ℕ) → size a ≡ n → size m ≡ r → take (2 * i) source ≡ element_words new
      → take (2 * n) (element_words (a ⧺ (m ⧺ b))) ++ (take (2 * i) source ++ drop (2 * (n + r)) (element_words (a ⧺ (m ⧺ b)))) ≡ element_words (a ⧺ (new ⧺ b))
  spliced_words source new n r i e f g =
      ap₂ ◌++◌ (front_words n e) (ap₂ ◌++◌ g (back_words n r e f)) ∙ sym (words_join a (new ⧺ b) ∙ ap (λ (l : List ℕ). element_words a ++ l) (words_join new b))

  -- a block in the middle's place
  pub block_words_lem : (s i c n r : ℕ) → size a ≡ n → size m ≡ r
      → with_block (element_words (a ⧺ (m ⧺ b))) n r (block_words s i c) ≡ element_words (a ⧺ block_at s i c m b)
  block_words_lem s i c n r e f =
      ap₂ ◌++◌ (front_words n e) (ap (λ (l : List ℕ). block_words s i c ++ l) (back_words n r e f)) ∙ sym (words_join a (block_at s i c m b))
