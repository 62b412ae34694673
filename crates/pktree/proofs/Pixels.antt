-- The pixels of a tree are the marked codes of the panel, ascending; so a tree tells its set.
use Prim.Native.Nat.{ℕ, zero, suc, ◌+◌, ◌^◌, ◌≤◌, ◌<◌}
use native.Mathlib.Omega.{arith}
use native.Mathlib.Nat.{eq-or-lt_of_le, add-suc, add-zero, suc-add, zero-add}
use mathlib.Core.Path.{◌≡◌, refl, ap, ap₂, subst, sym, ◌∙◌}
use mathlib.Core.Bool.{Bool, true, false, cond}
use mathlib.Core.List.{List, [], ◌∷◌, ◌++◌, append-nil}
use mathlib.Core.Logic.{◌⊎◌, inl, inr}
use borrow.Author.Tests.{ne_eqb, eq-eqb}
use Rattle.pktree.specs.Lists.{Every}
use Rattle.pktree.specs.Panel.{Panel, OnPanel}
use Rattle.pktree.specs.PixelSet.{member, Ascending, PixelSet}
use Rattle.pktree.specs.Elements.{Forest, empty, pixel, ◌⧺◌, gather}
use Rattle.pktree.specs.Tree.{tree, pixels}
use Rattle.pktree.proofs.Forests.{pixels_join, gather_induction}

-- c before l, if it is marked
abbrev pub keep : Bool → ℕ → List ℕ → List ℕ
keep true c l = c ∷ l
keep false c l = l

keep_join : (b : Bool) (c : ℕ) (l r : List ℕ) → keep b c l ++ r ≡ keep b c (l ++ r)
keep_join true c l r = refl
keep_join false c l r = refl

-- the marked codes among the n codes from c on
abbrev pub marked_from : (ℕ → Bool) → ℕ → ℕ → List ℕ
marked_from M zero c = []
marked_from M (suc n) c = keep (M c) c (marked_from M n (suc c))

marked_join : (M : ℕ → Bool) (n p c : ℕ) → marked_from M (n + p) c ≡ marked_from M n c ++ marked_from M p (c + n)
marked_join M zero p c = simp (zero-add, add-zero)
marked_join M (suc n) p c = simp (suc-add, add-suc, keep_join, marked_join M n p (suc c))

abbrev PixelsAre : (ℕ → Bool) → ℕ → ℕ → ℕ → Forest → Type 0
PixelsAre M i a b f = (n : ℕ) × (a + n ≡ b) × (pixels f ≡ marked_from M n a)

leaf : (M : ℕ → Bool) (c : ℕ) (b : Bool) → M c ≡ b → pixels {A = Unit {0}} (cond b (pixel c empty) empty) ≡ marked_from M 1 c
leaf M c true e = rw e
leaf M c false e = rw e

join : (M : ℕ → Bool) (i a b d : ℕ) (f g : Forest) → PixelsAre M i a b f → PixelsAre M i b d g → PixelsAre M i a d (f ⧺ g)
join M i a b d f g h l = (
  h.0 + l.0,
  omega arith,
  pixels_join f g ∙ ap₂ ◌++◌ h.2 (l.2 ∙ ap (marked_from M l.0) (sym h.1)) ∙ sym (marked_join M h.0 l.0 a),
)

pub pixels_of_gather : (M : ℕ → Bool) (k i c : ℕ) → pixels (gather M k i c) ≡ marked_from M (4 ^ i) c
pixels_of_gather M k i c =
    let r : PixelsAre M i c (c + 4 ^ i) (gather M k i c) =
    gather_induction M k (PixelsAre M) (λ d. (1, omega arith, leaf M d (M d) refl)) (λ j a b f h. h) (join M)
    (λ j d l h. (h.0, h.1, append-nil (pixels (gather M k j d)) ∙ h.2)) i c in
    let e : r.0 ≡ 4 ^ i = omega arith in
    r.2 ∙ ap (λ (n : ℕ). marked_from M n c) e

pub pixels_of_tree : (panel : Panel) (M : ℕ → Bool) → pixels (tree panel M) ≡ marked_from M (4 ^ panel.order) 0
pixels_of_tree panel M = append-nil (pixels (gather M panel.k panel.order 0)) ∙ pixels_of_gather M panel.k panel.order 0

-- a code is in the list exactly if it is marked
member_other : (b : Bool) (c : ℕ) (l : List ℕ) (x : ℕ) → (c ≡ x → ⊥) → member (keep b c l) x ≡ member l x
member_other true c l x h = rw (ne_eqb c x h)
member_other false c l x h = refl

member_here : (b : Bool) (c : ℕ) (l : List ℕ) → member l c ≡ false → member (keep b c l) c ≡ b
member_here true c l h = rw (eq-eqb c c refl)
member_here false c l h = h

member_below : (M : ℕ → Bool) (n c x : ℕ) → x < c → member (marked_from M n c) x ≡ false
member_below M zero c x h = refl
member_below M (suc n) c x h = member_other (M c) c (marked_from M n (suc c)) x (omega arith) ∙ member_below M n (suc c) x (omega arith)

pub member_of_marked : (M : ℕ → Bool) (n c x : ℕ) → c ≤ x → x < c + n → member (marked_from M n c) x ≡ M x
member_of_marked M zero c x p q = absurd (omega arith)
member_of_marked M (suc n) c x p q = go (eq-or-lt_of_le p) (member_of_marked M n (suc c) x)
  where
    go : (c ≡ x) ⊎ (c < x) → (suc c ≤ x → x < suc c + n → member (marked_from M n (suc c)) x ≡ M x) → member (marked_from M (suc n) c) x ≡ M x
    go (inl e) ih =
        subst (λ (y : ℕ). member (marked_from M (suc n) c) y ≡ M y) e (member_here (M c) c (marked_from M n (suc c)) (member_below M n (suc c) c (omega arith)))
    go (inr l) ih = member_other (M c) c (marked_from M n (suc c)) x (omega arith) ∙ ih l (omega arith)

pub member_of_tree : (panel : Panel) (M : ℕ → Bool) (x : ℕ) → OnPanel panel x → member (pixels (tree panel M)) x ≡ M x
member_of_tree panel M x h = rw (pixels_of_tree panel M) (member_of_marked M (4 ^ panel.order) 0 x (omega arith) (omega arith))

-- equal trees, equal sets on the panel
pub tree_determines_set : (panel : Panel) (M M' : ℕ → Bool) → tree panel M ≡ tree panel M' → (x : ℕ) → OnPanel panel x → M x ≡ M' x
tree_determines_set panel M M' e x h =
    sym (member_of_tree panel M x h) ∙ ap (λ (f : Forest). member (pixels f) x) e ∙ member_of_tree panel M' x h

marked_depends_inside : (M M' : ℕ → Bool) (n c : ℕ) → ((x : ℕ) → c ≤ x → x < c + n → M x ≡ M' x) → marked_from M n c ≡ marked_from M' n c
marked_depends_inside M M' zero c h = refl
marked_depends_inside M M' (suc n) c h =
    cc (h c (omega arith) (omega arith), marked_depends_inside M M' n (suc c) (λ x p q. h x (omega arith) (omega arith)))

-- ascending lists
pub ascending_lower : (from' from : ℕ) (l : List ℕ) → from' ≤ from → Ascending from l → Ascending from' l
ascending_lower from' from [] p h = tt
ascending_lower from' from (x ∷ l) p h = (omega arith, h.1)

pub member_below_ascending : (from : ℕ) (l : List ℕ) (x : ℕ) → Ascending from l → x < from → member l x ≡ false
member_below_ascending from [] x h p = refl
member_below_ascending from (y ∷ l) x h p = rw (ne_eqb y x (omega arith)) (member_below_ascending (suc y) l x h.1 (omega arith))

ascending_keep : (b : Bool) (c : ℕ) (l : List ℕ) → Ascending (suc c) l → Ascending c (keep b c l)
ascending_keep true c l h = (omega arith, h)
ascending_keep false c l h = ascending_lower c (suc c) l (omega arith) h

every_keep : (P : ℕ → Type 0) (b : Bool) (c : ℕ) (l : List ℕ) → P c → Every P l → Every P (keep b c l)
every_keep P true c l p h = (p, h)
every_keep P false c l p h = h

marked_ascends : (M : ℕ → Bool) (n c : ℕ) → Ascending c (marked_from M n c)
marked_ascends M zero c = tt
marked_ascends M (suc n) c = ascending_keep (M c) c (marked_from M n (suc c)) (marked_ascends M n (suc c))

marked_below : (M : ℕ → Bool) (n c b : ℕ) → c + n ≤ b → Every (λ x. x < b) (marked_from M n c)
marked_below M zero c b h = tt
marked_below M (suc n) c b h = every_keep (λ x. x < b) (M c) c (marked_from M n (suc c)) (omega arith) (marked_below M n (suc c) b (omega arith))

-- the pixels of a tree are a set of pixels of the panel
pub pixels_of_tree_are_set : (panel : Panel) (M : ℕ → Bool) → PixelSet panel (pixels (tree panel M))
pixels_of_tree_are_set panel M =
    rw (pixels_of_tree panel M)
    (record { ascending = marked_ascends M (4 ^ panel.order) 0; on_panel = marked_below M (4 ^ panel.order) 0 (4 ^ panel.order) (omega arith) })

-- an ascending list of codes from c on, below c + n, is what its own test marks
marked_of_list : (l : List ℕ) (n c : ℕ) → Ascending c l → Every (λ x. x < c + n) l → marked_from (member l) n c ≡ l
marked_of_list [] zero c h b = refl
marked_of_list (x ∷ l) zero c h b = absurd (omega arith)
marked_of_list [] (suc n) c h b = marked_of_list [] n (suc c) tt tt
marked_of_list (x ∷ l) (suc n) c h b = go (eq-or-lt_of_le h.0) (marked_of_list l n (suc c)) (marked_of_list (x ∷ l) n (suc c))
  where
    e : c + suc n ≡ suc c + n
    e = omega arith

    go : (c ≡ x) ⊎ (c < x) → (Ascending (suc c) l → Every (λ y. y < suc c + n) l → marked_from (member l) n (suc c) ≡ l)
        → (Ascending (suc c) (x ∷ l) → Every (λ y. y < suc c + n) (x ∷ l) → marked_from (member (x ∷ l)) n (suc c) ≡ x ∷ l)
        → marked_from (member (x ∷ l)) (suc n) c ≡ x ∷ l
    go (inl p) ih ih' =
        let r : Ascending (suc c) l = subst (λ (y : ℕ). Ascending (suc y) l) (sym p) h.1 in
        let q : marked_from (member (x ∷ l)) n (suc c) ≡ marked_from (member l) n (suc c) =
        marked_depends_inside (member (x ∷ l)) (member l) n (suc c) (λ y a b. rw (ne_eqb x y (omega arith))) in
        rw (eq-eqb x c (sym p)) (ap₂ ◌∷◌ p (q ∙ ih r (subst (λ (d : ℕ). Every (λ y. y < d) l) e b.1)))
    go (inr p) ih ih' =
        rw (ne_eqb x c (omega arith), member_below_ascending (suc x) l c h.1 (omega arith))
        (ih' (p, h.1) (subst (λ (d : ℕ). Every (λ y. y < d) (x ∷ l)) e b))

-- a set of pixels is the pixels of its tree
pub pixels_of_set : (panel : Panel) (set : List ℕ) → PixelSet panel set → pixels (tree panel (member set)) ≡ set
pixels_of_set panel set h =
    pixels_of_tree panel (member set)
    ∙ marked_of_list set (4 ^ panel.order) 0 h.ascending (subst (λ (d : ℕ). Every (λ y. y < d) set) (omega arith) h.on_panel)

-- two sets with the same members on the panel are one list
pub set_determined : (panel : Panel) (set set' : List ℕ) → PixelSet panel set → PixelSet panel set'
    → ((x : ℕ) → OnPanel panel x → member set x ≡ member set' x) → set ≡ set'
set_determined panel set set' p q h =
    sym (pixels_of_set panel set p) ∙ pixels_of_tree panel (member set)
    ∙ marked_depends_inside (member set) (member set') (4 ^ panel.order) 0 (λ x a b. h x (omega arith))
    ∙ sym (pixels_of_tree panel (member set')) ∙ pixels_of_set panel set' q
