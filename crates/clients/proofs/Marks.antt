-- The first panel, call by call: make, and a pixel more with each mark.
use Prim.Native.Nat.{ℕ, ◌≤◌, ◌<◌}
use native.Mathlib.Omega.{arith}
use mathlib.Core.Path.{◌≡◌, refl, sym, subst, ◌∙◌}
use mathlib.Core.Bool.{false}
use mathlib.Core.List.{List, []}
use lib.ListN.{length, drop}
use Rattle.morton.specs.Code.{interleave, code_of}
use Rattle.pktree.specs.Panel.{HasPixel}
use Rattle.pktree.specs.PixelSet.{member, added}
use Rattle.measures.specs.declared.sizes.Sizes.{Sizes}
use Rattle.measures.specs.Sizes.{panel_of, store_words, ValidSizes}
use Rattle.promises.specs.Answer.{Answer}
use Rattle.promises.specs.Calls.{asked, MakeMeets, MarkMeets}
use Rattle.promises.proofs.Exactly.{accepted_makes, make_refusals}
use Rattle.promises.proofs.AnyWords.{make_leaves, mark_leaves}
use Rattle.promises.proofs.OnSound.{mark_adds}
use Rattle.clients.specs.Known.{first_set, HoldsOf9}

pub valid_9 : ValidSizes (asked 3 3 9)
valid_9 = record {
  panel = record { order_from = omega arith; order_to = omega arith; k_from = omega arith; k_to = omega arith };
  most_from = omega arith;
  most_to = omega arith;
}

pub made_9 : {before after : List ℕ} {a : Answer} → 148 ≤ length before → MakeMeets before after 3 3 9 a → HoldsOf9 [] before after
made_9 long m =
    let b = accepted_makes m ((make_refusals m).made.1 (valid_9, long)) in
    record { holds = b.holds; sizes_are = b.sizes_are; past = (make_leaves m).past; long = (make_leaves m).long }

module _ {set start before after : List ℕ} (h : HoldsOf9 set start before) {x y : ℕ} {a : Answer} (m : MarkMeets before after x y a) where
  pub marked_9 : HasPixel (panel_of (asked 3 3 9)) x y → member set (code_of x y) ≡ false → length set < 9 → HoldsOf9 (added (code_of x y) set) start after
  marked_9 on new room =
      let of-9 = sym h.sizes_are in
      let b = mark_adds h.holds (subst (λ (s : Sizes). HasPixel (panel_of s) x y) of-9 on) m new (subst (λ (s : Sizes). length set < s.most) of-9 room) in
      record {
        holds = b.holds;
        sizes_are = b.sizes_are ∙ h.sizes_are;
        past = subst (λ (s : Sizes). drop (store_words s) after ≡ drop (store_words s) before) h.sizes_are (mark_leaves m).past ∙ h.past;
        long = (mark_leaves m).long ∙ h.long;
      }

module _ {start w0 w1 w2 w3 w4 : List ℕ} {a0 a1 a2 a3 a4 : Answer} where
  pub first_panel : 148 ≤ length start → MakeMeets start w0 3 3 9 a0 → MarkMeets w0 w1 0 0 a1 → MarkMeets w1 w2 1 0 a2 → MarkMeets w2 w3 0 1 a3
      → MarkMeets w3 w4 6 6 a4 → HoldsOf9 first_set start w4
  unfolding interleave
  first_panel long m0 m1 m2 m3 m4 =
      let h0 = made_9 long m0 in
      let h1 = marked_9 h0 m1 (omega arith, omega arith) refl (omega arith) in
      let h2 = marked_9 h1 m2 (omega arith, omega arith) refl (omega arith) in
      let h3 = marked_9 h2 m3 (omega arith, omega arith) refl (omega arith) in
      marked_9 h3 m4 (omega arith, omega arith) refl (omega arith)
