-- What does not look at the labels is the same without them.
use Prim.Native.Nat.{ℕ, ◌+◌, ◌^◌, ◌≤◌}
use native.Mathlib.Omega.{arith}
use mathlib.Core.Path.{◌≡◌, refl, ap, ap₂}
use mathlib.Core.List.{List, ◌∷◌, ◌++◌}
use Rattle.pktree.specs.Elements.{ForestOf, empty, pixel, block_at, ◌⧺◌, size, unlabelled}
use Rattle.pktree.specs.Panel.{Panel}
use Rattle.pktree.specs.PixelSet.{member}
use Rattle.pktree.specs.Tree.{tree, pixels}
use Rattle.pktree.proofs.Forests.{block_count}
use Rattle.pktree.proofs.Counting.{count_in}
use Rattle.pktree.proofs.Arranged.{quarter_level, Arranged, LocallyRight}
use Rattle.pktree.proofs.LocalLaw.{tree_exactly_local}

module _ {A : Type 0} where
  pub unlabelled_join : (f g : ForestOf A) → unlabelled (f ⧺ g) ≡ unlabelled f ⧺ unlabelled g
  unlabelled_join empty g = refl
  unlabelled_join (pixel c f) g = rw (unlabelled_join f g)
  unlabelled_join (block_at u i c es f) g = rw (unlabelled_join f g)

  pub size_unlabelled : (f : ForestOf A) → size (unlabelled f) ≡ size f
  size_unlabelled empty = refl
  size_unlabelled (pixel c f) = omega (arith, size_unlabelled f)
  size_unlabelled (block_at u i c es f) = omega (arith, size_unlabelled f)

  pub pixels_unlabelled : (f : ForestOf A) → pixels (unlabelled f) ≡ pixels f
  pixels_unlabelled empty = refl
  pixels_unlabelled (pixel c f) = ap (λ (l : List ℕ). c ∷ l) (pixels_unlabelled f)
  pixels_unlabelled (block_at u i c es f) = ap₂ ◌++◌ (pixels_unlabelled es) (pixels_unlabelled f)

  pub block_count_unlabelled : (f : ForestOf A) → block_count (unlabelled f) ≡ block_count f
  block_count_unlabelled empty = refl
  block_count_unlabelled (pixel c f) = block_count_unlabelled f
  block_count_unlabelled (block_at u i c es f) = omega (arith, block_count_unlabelled es, block_count_unlabelled f)

  count_in_unlabelled : (l q : ℕ) (f : ForestOf A) → count_in l q (unlabelled f) ≡ count_in l q f
  count_in_unlabelled l q empty = refl
  count_in_unlabelled l q (pixel c f) = omega (arith, count_in_unlabelled l q f)
  count_in_unlabelled l q (block_at u i c es f) = omega (arith, count_in_unlabelled l q f)

  -- the local law, both ways
  pub arranged_unlabelled : (k n from to : ℕ) (f : ForestOf A) → Arranged k n from to f → Arranged k n from to (unlabelled f)
  arranged_unlabelled k n from to empty h = h
  arranged_unlabelled k n from to (pixel c f) h = (h.0, arranged_unlabelled k n _ to f h.1)
  arranged_unlabelled k n from to (block_at u i c es f) h = (
    h.0,
    h.1,
    h.2,
    rw (size_unlabelled es) h.3,
    h.4,
    λ q. rw (count_in_unlabelled (quarter_level i) q es) (h.5 q),
    arranged_unlabelled k i c (c + 4 ^ i) es h.6,
    arranged_unlabelled k n (c + 4 ^ i) to f h.7,
  )

  labelled_arranged : (k n from to : ℕ) (f : ForestOf A) → Arranged k n from to (unlabelled f) → Arranged k n from to f
  labelled_arranged k n from to empty h = h
  labelled_arranged k n from to (pixel c f) h = (h.0, labelled_arranged k n _ to f h.1)
  labelled_arranged k n from to (block_at u i c es f) h = (
    h.0,
    h.1,
    h.2,
    rw (← size_unlabelled es) h.3,
    h.4,
    λ q. rw (← count_in_unlabelled (quarter_level i) q es) (h.5 q),
    labelled_arranged k i c (c + 4 ^ i) es h.6,
    labelled_arranged k n (c + 4 ^ i) to f h.7,
  )

  pub local_unlabelled : {k level code : ℕ} {f : ForestOf A} → LocallyRight k level code f → LocallyRight k level code (unlabelled f)
  local_unlabelled {k} {level} {code} {f} r =
      record { arranged = arranged_unlabelled k level code _ f r.arranged; sparse = λ q. rw (count_in_unlabelled (quarter_level level) q f) (r.sparse q) }

  pub labelled_local : {k level code : ℕ} {f : ForestOf A} → LocallyRight k level code (unlabelled f) → LocallyRight k level code f
  labelled_local {k} {level} {code} {f} r =
      record { arranged = labelled_arranged k level code _ f r.arranged; sparse = λ q. rw (← count_in_unlabelled (quarter_level level) q f) (r.sparse q) }

  -- a root with elements that are right is the tree of its pixels
  pub labelled_tree : (panel : Panel) (label : A) (es : ForestOf A) → 2 ≤ panel.k → LocallyRight panel.k panel.order 0 es
      → unlabelled (block_at label panel.order 0 es empty) ≡ tree panel (member (pixels (block_at label panel.order 0 es empty)))
  labelled_tree panel label es h r =
      let root : ForestOf A = block_at label panel.order 0 es empty in
      rw (← pixels_unlabelled root) ((tree_exactly_local panel (unlabelled root) h).1 (unlabelled es, refl, local_unlabelled r))
