-- The length that save asks for is the image's, and suffices.
use Prim.Native.Nat.{ℕ, ◌≤◌, ◌<◌}
use native.Mathlib.Omega.{arith}
use mathlib.Core.Path.{◌≡◌, ap, sym, subst, ◌∙◌}
use mathlib.Core.List.{List, [], ◌++◌, append-nil}
use lib.ListN.{length, take, drop}
use lib.Seq.{length-take-le, drop-length}
use Rattle.promises.specs.Answer.{Answer}
use Rattle.promises.specs.Calls.{image_of, SaveMeets}
use Rattle.promises.proofs.Answers.{first_of}
use Rattle.promises.proofs.OnSound.{save_writes, save_short}
use Rattle.clients.specs.Known.{BytesNeeded, FrontSaved, SavedWhole}

pub bytes_needed : {words none after : List ℕ} {a : Answer} {r : ℕ} → length none < 1 → SaveMeets words none after a → r ≡ a.first → BytesNeeded words r
bytes_needed {words} {none} empty m e = record { says = λ set holds. e ∙ (save_short holds m (some set)).1 }
  where
    -- an image has a header
    some : (set : List ℕ) → length none < length (image_of words set)
    some set = omega arith

-- what fills the first bytes wholly leaves nothing of them
fills : (image before : List ℕ) {front : List ℕ} (n : ℕ) → length (take n before) ≡ length image → front ≡ image ++ drop (length image) (take n before)
    → front ++ drop n before ≡ image ++ drop n before
fills image before n long wrote =
    let none : drop (length image) (take n before) ≡ [] = subst (λ (k : ℕ). drop k (take n before) ≡ []) long (drop-length (take n before)) in
    ap (λ (l : List ℕ). l ++ drop n before) (wrote ∙ ap (λ (l : List ℕ). image ++ l) none ∙ append-nil image)

pub front_saved : {words before front : List ℕ} {n r : ℕ} {a : Answer} → n ≤ length before → SaveMeets words (take n before) front a → r ≡ a.first
    → FrontSaved words before (front ++ drop n before) n r
front_saved {words} {before} {front} {n} room m e = record {
  saved = λ set holds is. let long = length-take-le n before room in
      let w = save_writes holds m (omega (arith, long, is)) in
      (e ∙ first_of w.0 ∙ sym is, fills (image_of words set) before n (long ∙ is) w.1);
}

pub whole_saved : {words before after : List ℕ} {needed r : ℕ} → BytesNeeded words needed → FrontSaved words before after needed r → SavedWhole words before after r
whole_saved {words} {before} {after} {needed} {r} n f = record {
  saved = λ set holds room. let s = f.saved set holds (n.says set holds) in
      (s.0 ∙ n.says set holds, subst (λ (k : ℕ). after ≡ image_of words set ++ drop k before) (n.says set holds) s.1);
}

pub too_long : {words before : List ℕ} {needed r : ℕ} → BytesNeeded words needed → length before < needed → SavedWhole words before before r
too_long n lacks = record { saved = λ set holds room. absurd (omega (arith, n.says set holds, lacks, room)) }
