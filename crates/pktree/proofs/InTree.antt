-- A block is in the tree exactly when it is instantiated, with the elements that 01 gathers for it.
use Prim.Native.Nat.{ℕ, zero, suc, ◌+◌, ◌*◌, ◌^◌, ◌≤◌, ◌<◌}
use native.Mathlib.Omega.{arith}
use native.Mathlib.Nat.{eq-or-lt_of_le}
use native.Mathlib.Decide.{dec_lt}
use mathlib.Core.Path.{◌≡◌, refl, ap, subst, sym}
use mathlib.Core.Bool.{Bool}
use mathlib.Core.Logic.{◌⊎◌, inl, inr, ◌↔◌}
use mathlib.Core.List.Memᴰ
use mathlib.Core.List.{[], ◌++◌, Memᴰ}
use Rattle.pktree.specs.Panel.{Panel, Aligned, Block}
use Rattle.pktree.specs.Elements.{Forest, empty, pixel, block, ◌⧺◌, size, give, gather}
use Rattle.pktree.specs.Tree.{Instantiated, tree, BlockOf, block_of, blocks}
use Rattle.pktree.proofs.Forests.{blocks_join, block_cases, cond_case, give_case}
use Rattle.pktree.proofs.Alignment.{pow_pos, aligned_root, aligned_plus, aligned_next, aligned_down, blocks_nest}

-- an aligned block of a level below n, between from and to, that has k or more elements, and those are es
pub record Many (M : ℕ → Bool) (k n from to level code : ℕ) (es : Forest) : Type 0 where
  pub below : level < n
  pub aligned : Aligned level code
  pub starts : from ≤ code
  pub ends : code + 4 ^ level ≤ to
  pub enough : k ≤ size (gather M k level code)
  pub elements : es ≡ gather M k level code

many_within : {M : ℕ → Bool} {k n a b j d : ℕ} {es : Forest} (n' a' b' : ℕ)
    → Many M k n a b j d es → j < n' → a' ≤ d → d + 4 ^ j ≤ b' → Many M k n' a' b' j d es
many_within n' a' b' h p q r = record { below = p; aligned = h.aligned; starts = q; ends = r; enough = h.enough; elements = h.elements }

-- the blocks of f, those inside others too, are exactly these
pub record HasMany (M : ℕ → Bool) (k n from to : ℕ) (f : Forest) : Type 0 where
  pub only : (j d : ℕ) (es : Forest) → Memᴰ (block_of j d es) (blocks f) → Many M k n from to j d es
  pub all : (j d : ℕ) (es : Forest) → Many M k n from to j d es → Memᴰ (block_of j d es) (blocks f)

has_many_leaf : (M : ℕ → Bool) (k c : ℕ) → HasMany M k 0 c (c + 4 ^ 0) (gather M k 0 c)
unfolding gather
has_many_leaf M k c =
    let e : blocks (gather M k 0 c) ≡ [] = cond_case (λ (f : Forest). blocks f ≡ []) (M c) (pixel c empty) empty (λ t. refl) (λ t. refl) in
    record { only = λ j d es m. absurd (Memᴰ.not-nil (rw e at m)); all = λ j d es h. absurd (omega arith) }

-- an edge e of level i cuts no block of a level up to i
has_many_join : (M : ℕ → Bool) (k i a e b : ℕ) {f g : Forest} → Aligned i e → a ≤ e → e ≤ b
    → HasMany M k (suc i) a e f → HasMany M k (suc i) e b g → HasMany M k (suc i) a b (f ⧺ g)
has_many_join M k i a e b {f} {g} al p q u v =
    record {
      only = λ j d es m. to j d es (Memᴰ.append_cases (blocks f) (rw (blocks_join f g) at m));
      all = λ j d es h. rw (blocks_join f g) (back j d es h (dec_lt d e));
    }
  where
    to : (j d : ℕ) (es : Forest) → Memᴰ (block_of j d es) (blocks f) ⊎ Memᴰ (block_of j d es) (blocks g) → Many M k (suc i) a b j d es
    to j d es (inl m) = let h = u.only j d es m in many_within (suc i) a b h h.below h.starts (omega arith)
    to j d es (inr m) = let h = v.only j d es m in many_within (suc i) a b h h.below (omega arith) h.ends

    back : (j d : ℕ) (es : Forest) → Many M k (suc i) a b j d es → Dec (d < e) → Memᴰ (block_of j d es) (blocks f ++ blocks g)
    back j d es h (yes t) =
        let r = blocks_nest j i d e (omega arith) h.aligned al t in
        Memᴰ.append_left (blocks g) (u.all j d es (many_within (suc i) a e h h.below h.starts r))
    back j d es h (no t) = Memᴰ.append_right (blocks f) (v.all j d es (many_within (suc i) e b h h.below (omega arith) h.ends))

-- the block of level i and code c with the elements f, or one inside it
abbrev ItOrInside : ℕ → ℕ → Forest → BlockOf → Type 0
ItOrInside i c f b = (b ≡ block_of i c f) ⊎ Memᴰ b (blocks f)

one_only : (i c : ℕ) (f : Forest) (b : BlockOf) → Memᴰ b (blocks (block i c f empty)) → ItOrInside i c f b
one_only i c f b m = block_cases f empty m inl inr (λ t. absurd (Memᴰ.not-nil t))

one_all : (i c : ℕ) (f : Forest) (b : BlockOf) → ItOrInside i c f b → Memᴰ b (blocks (block i c f empty))
one_all i c f b (inl e) = Memᴰ.head e
one_all i c f b (inr m) = Memᴰ.tail (Memᴰ.append_left [] m)

-- a block of the level of one that holds it is that one
same_block : (M : ℕ → Bool) (k i c j d : ℕ) (es : Forest) → j ≡ i → c ≤ d → d + 4 ^ j ≤ c + 4 ^ i → es ≡ gather M k j d
    → block_of j d es ≡ block_of i c (gather M k i c)
same_block M k i c j d es e p q r =
    let t : 4 ^ j ≡ 4 ^ i = ap (λ (n : ℕ). 4 ^ n) e in
    let u : d ≡ c = omega arith in
    cc

-- what a quarter gives
has_many_give : (M : ℕ → Bool) (k i c e : ℕ) → e ≡ c + 4 ^ i → Aligned i c
    → HasMany M k i c (c + 4 ^ i) (gather M k i c) → HasMany M k (suc i) c e (give k i c (gather M k i c))
has_many_give M k i c e q a u =
    give_case (HasMany M k (suc i) c e) k i c (gather M k i c)
    (λ p. record { only = λ j d es m. up j d es (u.only j d es m); all = λ j d es h. fewer p j d es h (down j d es h (eq-or-lt_of_le h.below)) })
    (λ p. record {
      only = λ j d es m. itself p j d es (one_only i c (gather M k i c) (block_of j d es) m);
      all = λ j d es h. one_all i c (gather M k i c) (block_of j d es) (down j d es h (eq-or-lt_of_le h.below));
    })
  where
    up : (j d : ℕ) (es : Forest) → Many M k i c (c + 4 ^ i) j d es → Many M k (suc i) c e j d es
    up j d es h = many_within (suc i) c e h (omega arith) h.starts (omega arith)

    down : (j d : ℕ) (es : Forest) → Many M k (suc i) c e j d es → (suc j ≡ suc i) ⊎ (suc j < suc i) → ItOrInside i c (gather M k i c) (block_of j d es)
    down j d es h (inl t) = inl (same_block M k i c j d es (omega arith) h.starts (omega arith) h.elements)
    down j d es h (inr t) = inr (u.all j d es (many_within i c (c + 4 ^ i) h (omega arith) h.starts (omega arith)))

    fewer : size (gather M k i c) < k → (j d : ℕ) (es : Forest) → Many M k (suc i) c e j d es → ItOrInside i c (gather M k i c) (block_of j d es)
        → Memᴰ (block_of j d es) (blocks (gather M k i c))
    fewer p j d es h (inl t) = absurd (omega (arith, ap size h.elements, ap (λ (b : BlockOf). size b.elements) t))
    fewer p j d es h (inr m) = m

    itself : k ≤ size (gather M k i c) → (j d : ℕ) (es : Forest) → ItOrInside i c (gather M k i c) (block_of j d es) → Many M k (suc i) c e j d es
    itself p j d es (inl t) =
        subst (λ (b : BlockOf). Many M k (suc i) c e b.level b.code b.elements) (sym t)
        (record { below = omega arith; aligned = a; starts = omega arith; ends = omega arith; enough = p; elements = refl })
    itself p j d es (inr m) = up j d es (u.only j d es m)

pub gather_has_many : (M : ℕ → Bool) (k i c : ℕ) → Aligned i c → HasMany M k i c (c + 4 ^ i) (gather M k i c)
unfolding gather
gather_has_many M k zero c a = has_many_leaf M k c
gather_has_many M k (suc i) c a =
    let a0 : Aligned i c = aligned_down i c a in
    let a1 : Aligned i (c + 4 ^ i) = aligned_next i c a0 in
    let a2 : Aligned i (c + 2 * 4 ^ i) = aligned_plus i c 2 a0 in
    let a3 : Aligned i (c + 3 * 4 ^ i) = aligned_plus i c 3 a0 in
    let g0 = has_many_give M k i c (c + 4 ^ i) refl a0 (gather_has_many M k i c a0) in
    let g1 = has_many_give M k i (c + 4 ^ i) (c + 2 * 4 ^ i) (omega arith) a1 (gather_has_many M k i (c + 4 ^ i) a1) in
    let g2 = has_many_give M k i (c + 2 * 4 ^ i) (c + 3 * 4 ^ i) (omega arith) a2 (gather_has_many M k i (c + 2 * 4 ^ i) a2) in
    let g3 = has_many_give M k i (c + 3 * 4 ^ i) (c + 4 ^ suc i) (omega arith) a3 (gather_has_many M k i (c + 3 * 4 ^ i) a3) in
    has_many_join M k i c (c + 4 ^ i) (c + 4 ^ suc i) a1 (omega arith) (omega arith) g0
    (has_many_join M k i (c + 4 ^ i) (c + 2 * 4 ^ i) (c + 4 ^ suc i) a2 (omega arith) (omega arith) g1
    (has_many_join M k i (c + 2 * 4 ^ i) (c + 3 * 4 ^ i) (c + 4 ^ suc i) a3 (omega arith) (omega arith) g2 g3))

-- a block of the panel ends on it
pub block_ends : {panel : Panel} {level code : ℕ} → Block panel level code → code + 4 ^ level ≤ 4 ^ panel.order
block_ends {panel} {level} {code} b =
    let a : Aligned panel.order (0 + 4 ^ panel.order) = aligned_next panel.order 0 (aligned_root panel.order) in
    omega (arith, blocks_nest level panel.order code (0 + 4 ^ panel.order) b.low b.aligned a (omega (arith, b.corner)))

pub in_tree_exactly_instantiated : (panel : Panel) (M : ℕ → Bool) (level code : ℕ) (es : Forest)
    → Memᴰ (block_of level code es) (blocks (tree panel M)) ↔ (Instantiated panel M level code × (es ≡ gather M panel.k level code))
in_tree_exactly_instantiated panel M level code es = (
  λ m. to (one_only panel.order 0 root (block_of level code es) m),
  λ h. one_all panel.order 0 root (block_of level code es) (back h.0 h.1 (eq-or-lt_of_le h.0.of_panel.low) h.0.enough),
)
  where
    root : Forest
    root = gather M panel.k panel.order 0

    inside : HasMany M panel.k panel.order 0 (0 + 4 ^ panel.order) root
    inside = gather_has_many M panel.k panel.order 0 (aligned_root panel.order)

    to : ItOrInside panel.order 0 root (block_of level code es) → Instantiated panel M level code × (es ≡ gather M panel.k level code)
    to (inl e) =
        subst (λ (b : BlockOf). Instantiated panel M b.level b.code × (b.elements ≡ gather M panel.k b.level b.code)) (sym e)
        (record { of_panel = record { low = omega arith; aligned = aligned_root panel.order; corner = pow_pos panel.order }; enough = inl refl }, refl)
    to (inr m) =
        let h = inside.only level code es m in (
          record { of_panel = record { low = omega arith; aligned = h.aligned; corner = omega (arith, pow_pos level) }; enough = inr h.enough },
          h.elements,
        )

    back : Instantiated panel M level code → es ≡ gather M panel.k level code → (level ≡ panel.order) ⊎ (level < panel.order)
        → (level ≡ panel.order) ⊎ (panel.k ≤ size (gather M panel.k level code)) → ItOrInside panel.order 0 root (block_of level code es)
    back h e (inl l) n = inl (same_block M panel.k panel.order 0 level code es l (omega arith) (omega (arith, block_ends h.of_panel)) e)
    back h e (inr l) (inl n) = absurd (omega arith)
    back h e (inr l) (inr n) =
        inr (inside.all level code es (record { below = l; aligned = h.of_panel.aligned; starts = omega arith; ends = omega (arith, block_ends h.of_panel); enough = n; elements = e }))
