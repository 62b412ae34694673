-- 02, P2: the survivors of marking the pixels of a set singly, in any order, are the set; so are those of a fill, whatever was there before.
use Prim.Native.Nat.{ℕ, suc, ◌^◌, ◌≤◌, ◌<◌}
use native.Mathlib.Omega.{arith}
use native.Mathlib.Decide.{dec_lt, ℕ_discrete}
use mathlib.Core.Path.{◌≡◌, refl, ap, sym, ◌∙◌}
use mathlib.Core.Bool.{Bool, true, false, ◌||◌, or-true, or-false}
use mathlib.Core.List.{List, [], ◌∷◌, ◌++◌}
use lib.Dec.{eqb}
use lib.ListN.{length}
use borrow.Author.Tests.{lt-ltb, eq-eqb, ne_eqb}
use Rattle.morton.specs.Code.{code_of}
use Rattle.pktree.specs.Lists.{Every}
use Rattle.pktree.specs.Panel.{HasPixel, OnPanel}
use Rattle.pktree.specs.PixelSet.{member, Ascending, PixelSet, added}
use Rattle.pktree.proofs.Pixels.{member_below_ascending, set_determined}
use Rattle.pktree.proofs.SetChanges.{member_added, length_added, added_is_set}
use Rattle.pktree.proofs.Absurd.{zero_is_not_one}
use Rattle.measures.specs.declared.sizes.Sizes.{Sizes}
use Rattle.measures.specs.Sizes.{panel_of}
use Rattle.promises.specs.Survivors.{Call, mark, fill, next, surviving, survivors}
use Rattle.promises.specs.Singly.{Pixel, marks_of, codes_of, PixelsOf}
use Rattle.promises.proofs.SetTests.{set_passes}

or_turn : (a b c : Bool) → (a || (b || false || c)) ≡ (b || a || c)
or_turn true true c = refl
or_turn true false c = refl
or_turn false true c = refl
or_turn false false c = refl

-- every code of the first list is one of the second
abbrev Subset : List ℕ → List ℕ → Type 0
Subset set codes = (code : ℕ) → member set code ≡ true → member codes code ≡ true

member_holds : (P : ℕ → Type 0) (codes : List ℕ) (code : ℕ) → Every P codes → member codes code ≡ true → P code
member_holds P [] code h e = zero_is_not_one (cc)
member_holds P (c ∷ codes) code h e = go (ℕ_discrete c code) (member_holds P codes code h.1)
  where
    go : Dec (c ≡ code) → (member codes code ≡ true → P code) → P code
    go (yes f) rest = rw f at h.0
    go (no f) rest = rest (rw (ne_eqb c code f) at e)

-- a code of an ascending list is not below its start
member_from : (from : ℕ) (set : List ℕ) (code : ℕ) → Ascending from set → member set code ≡ true → from ≤ code
member_from from set code h e = go (dec_lt code from)
  where
    go : Dec (code < from) → from ≤ code
    go (yes below) = zero_is_not_one (cc (e, member_below_ascending from set code h below))
    go (no b) = omega arith

-- a set within another one is not longer
within_length : (from : ℕ) (set codes : List ℕ) → Ascending from set → Ascending from codes → Subset set codes → length set ≤ length codes
within_length from [] codes h g w = omega arith
within_length from (s ∷ set) [] h g w = zero_is_not_one (cc (w s (rw (eq-eqb s s refl))))
within_length from (s ∷ set) (c ∷ codes) h g w = go (ℕ_discrete c s) (within_length (suc c) set codes) (within_length (suc c) (s ∷ set) codes)
  where
    past : (code : ℕ) → (c ≡ code → ⊥) → member (s ∷ set) code ≡ true → member codes code ≡ true
    past code other e = let m = w code e in rw (ne_eqb c code other) at m

    after : (code : ℕ) → member set code ≡ true → member (s ∷ set) code ≡ true
    after code e = rw e (or-true (eqb s code))

    go : Dec (c ≡ s) → (Ascending (suc c) set → Ascending (suc c) codes → Subset set codes → length set ≤ length codes)
        → (Ascending (suc c) (s ∷ set) → Ascending (suc c) codes → Subset (s ∷ set) codes → suc (length set) ≤ length codes) → suc (length set) ≤ suc (length codes)
    go (yes e) rest whole =
        let l = rest (rw (← e) at h.1) g.1 (λ code m. past code (λ f. omega (arith, f, e, member_from (suc s) set code h.1 m)) (after code m)) in
        omega (arith, l)
    go (no e) rest whole =
        let from-c = member_from (suc c) codes s g.1 (past s e (rw (eq-eqb s s refl))) in
        let up : Ascending (suc c) (s ∷ set) = (from-c, h.1) in
        let l = whole up g.1 (λ code m. past code (λ f. omega (arith, f, member_from (suc c) (s ∷ set) code up m)) m) in
        omega (arith, l)

-- what the marks of some of the codes make of a set within them
pub record Marked (sizes : Sizes) (codes marked before after : List ℕ) : Type 0 where
  pub is_set : PixelSet (panel_of sizes) after
  pub inside : Subset after codes
  pub members : (c : ℕ) → member after c ≡ (member marked c || member before c)

module _ (sizes : Sizes) (codes : List ℕ) (whole : PixelSet (panel_of sizes) codes) (room : length codes ≤ sizes.most) where
  -- a set within the codes, after a mark of one of them
  module _ (x y : ℕ) (on : HasPixel (panel_of sizes) x y) (one : member codes (code_of x y) ≡ true)
      (set : List ℕ) (set_before : PixelSet (panel_of sizes) set) (within : Subset set codes) where
    abbrev code : ℕ
    code = code_of x y

    with_code : Subset (added code set) codes
    with_code c m = go (ℕ_discrete code c)
      where
        go : Dec (code ≡ c) → member codes c ≡ true
        go (yes e) = rw e at one
        go (no e) = within c (rw (member_added code set c, ne_eqb code c e) at m)

    -- it has room, since it and the new code are within the codes
    fits : member set code ≡ false → length set < sizes.most
    fits out =
        let s = added_is_set (panel_of sizes) code set (member_holds (OnPanel (panel_of sizes)) codes code whole.on_panel one) set_before out in
        let l = within_length 0 (added code set) codes s.ascending whole.ascending with_code in
        omega (arith, length_added code set)

    -- marked before: refused with 5
    again : member set code ≡ true → Marked sizes codes (code ∷ []) set (next sizes set (mark x y))
    again e = rw (lt-ltb x (2 ^ sizes.order) on.0, lt-ltb y (2 ^ sizes.order) on.1, e) (record { is_set = set_before; inside = within; members = one_more })
      where
        one_more : (c : ℕ) → member set c ≡ (member (code ∷ []) c || member set c)
        one_more c = go (ℕ_discrete code c)
          where
            go : Dec (code ≡ c) → member set c ≡ (member (code ∷ []) c || member set c)
            go (yes f) = rw (eq-eqb code c f, ← f) e
            go (no f) = rw (ne_eqb code c f)

    first_time : member set code ≡ false → Marked sizes codes (code ∷ []) set (next sizes set (mark x y))
    first_time e =
        rw (lt-ltb x (2 ^ sizes.order) on.0, lt-ltb y (2 ^ sizes.order) on.1, e, lt-ltb (length set) sizes.most (fits e))
        (record {
          is_set = added_is_set (panel_of sizes) code set (member_holds (OnPanel (panel_of sizes)) codes code whole.on_panel one) set_before e;
          inside = with_code;
          members = λ c. member_added code set c ∙ ap (λ (b : Bool). b || member set c) (sym (or-false (eqb code c)));
        })

    one_marked : Marked sizes codes (code ∷ []) set (next sizes set (mark x y))
    one_marked = go (member set code) refl
      where
        go : (b : Bool) → member set code ≡ b → Marked sizes codes (code ∷ []) set (next sizes set (mark x y))
        go true e = again e
        go false e = first_time e

  all_marked : (pixels : List Pixel) (set : List ℕ) → PixelSet (panel_of sizes) set → Subset set codes → Every (λ p. HasPixel (panel_of sizes) p.x p.y) pixels
      → Subset (codes_of pixels) codes → Marked sizes codes (codes_of pixels) set (surviving sizes set (marks_of pixels))
  all_marked [] set is_set inside on these = record { is_set = is_set; inside = inside; members = λ c. refl }
  all_marked (p ∷ pixels) set is_set inside on these =
      let code : ℕ = code_of p.x p.y in
      let m = one_marked p.x p.y on.0 (these code (rw (eq-eqb code code refl))) set is_set inside in
      let r = all_marked pixels (next sizes set (mark p.x p.y)) m.is_set m.inside on.1 (λ c e. these c (rw e (or-true (eqb code c)))) in
      record {
        is_set = r.is_set;
        inside = r.inside;
        members = λ c. r.members c ∙ ap (λ (b : Bool). member (codes_of pixels) c || b) (m.members c) ∙ or_turn (member (codes_of pixels) c) (eqb code c) (member set c);
      }

  pub marked_singly : (pixels : List Pixel) → PixelsOf (panel_of sizes) codes pixels → survivors sizes (marks_of pixels) ≡ codes
  marked_singly pixels these =
      let none : PixelSet (panel_of sizes) [] = record { ascending = tt; on_panel = tt } in
      let r = all_marked pixels [] none (λ c e. zero_is_not_one (cc)) these.on_panel (λ c e. sym (these.same c) ∙ e) in
      set_determined (panel_of sizes) (survivors sizes (marks_of pixels)) codes r.is_set whole
      (λ c on. r.members c ∙ or-false (member (codes_of pixels) c) ∙ these.same c)

  pub filled_last : (earlier : List Call) → survivors sizes (earlier ++ (fill codes ∷ [])) ≡ codes
  filled_last earlier = last earlier []
    where
      last : (calls : List Call) (set : List ℕ) → surviving sizes set (calls ++ (fill codes ∷ [])) ≡ codes
      last [] set = rw (set_passes (panel_of sizes) sizes.most codes whole room)
      last (call ∷ calls) set = last calls (next sizes set call)
