-- A pixel put between two elements of a block, or taken out there: the elements are right then but perhaps around it.
use Prim.Native.Nat.{ℕ, zero, suc, ◌+◌, ◌/◌, ◌^◌, ◌≤◌, ◌<◌}
use native.Mathlib.Omega.{arith}
use mathlib.Core.Path.{refl}
use Rattle.pktree.specs.Panel.{Aligned}
use Rattle.pktree.specs.Elements.{pixel, ◌⧺◌}
use Rattle.pktree.proofs.Counting.{sparse_below}
use Rattle.pktree.proofs.Arranged.{quarter_level, Arranged, LocallyRight}
use Rattle.pktree.proofs.Regroup.{Disturbed}
use Rattle.pktree.proofs.Edits.{put_in, take_out}
use Rattle.store.specs.Placed.{Placed}

module _ (k c x : ℕ) (h : 2 ≤ k) (above : c ≤ x) where
  -- elements that are right are right but perhaps around x
  pub disturbed_if_right : (n : ℕ) (es : Placed) → 1 ≤ n → Aligned n c → x < c + 4 ^ n → LocallyRight k n c es → Disturbed k (quarter_level n) c x es
  disturbed_if_right zero es one aligned below r = absurd (omega arith)
  disturbed_if_right (suc l) es one aligned below r =
      record {
        aligned = aligned;
        above = above;
        below = below;
        arranged = r.arranged;
        others = λ j q p ne. sparse_below k j l es p r.sparse q;
        most = omega (arith, r.sparse (x / 4 ^ l));
      }

  -- a pixel put into a block, and one taken out
  pub put_disturbs : (n : ℕ) (a b : Placed) → 1 ≤ n → Aligned n c → x < c + 4 ^ n → LocallyRight k n c (a ⧺ b) → Arranged k n c x a → Arranged k n (suc x) (c + 4 ^ n) b
      → Disturbed k (quarter_level n) c x (a ⧺ pixel x b)
  put_disturbs zero a b one aligned below r u v = absurd (omega arith)
  put_disturbs (suc l) a b one aligned below r u v = put_in k l c x h aligned above below (a ⧺ b) a b refl r u v

  pub taken_right : (n : ℕ) (a b : Placed) → 1 ≤ n → Aligned n c → x < c + 4 ^ n → LocallyRight k n c (a ⧺ pixel x b) → Arranged k n c x a → Arranged k n (suc x) (c + 4 ^ n) b
      → LocallyRight k n c (a ⧺ b)
  taken_right zero a b one aligned below r u v = absurd (omega arith)
  taken_right (suc l) a b one aligned below r u v = take_out k l c x h aligned above below (a ⧺ pixel x b) a b refl r u v
