-- What a block hands to the block around it: the change goes on one block further up.
use Prim.Native.Nat.{ℕ, zero, suc, ◌+◌, ◌-◌, ◌*◌, ◌^◌, ◌≤◌, ◌<◌}
use native.Mathlib.Omega.{arith}
use mathlib.Core.Path.{◌≡◌, refl, ap, subst, sym, ◌∙◌}
use mathlib.Core.Logic.{inr}
use mathlib.Core.List.{List, [], ◌∷◌, ◌++◌}
use Rattle.pktree.specs.Panel.{Aligned}
use Rattle.pktree.specs.PixelSet.{member}
use Rattle.pktree.specs.Elements.{◌⧺◌, size, block_at, empty, unlabelled}
use Rattle.pktree.specs.Tree.{pixels}
use Rattle.pktree.proofs.Forests.{size_join, pixels_join}
use Rattle.pktree.proofs.Arranged.{quarter_level, Arranged, LocallyRight}
use Rattle.pktree.proofs.LocalLaw.{local_is_gather}
use Rattle.pktree.proofs.Sizes.{size_gather_any}
use Rattle.pktree.proofs.Regroup.{Disturbed}
use Rattle.pktree.proofs.Edits.{dissolve}
use Rattle.pktree.proofs.Unlabelled.{size_unlabelled, local_unlabelled}
use Rattle.store.specs.Placed.{Placed, slots_of}
use Rattle.freeslots.specs.FreeSlots.{occurrences}
use Rattle.store.specs.Numbers.{Numbered}
use Rattle.store.proofs.Standing.{Stands}
use Rattle.store.proofs.PlacedJoin.{slots_join, stands_join}
use Rattle.freeslots.proofs.FreeChains.{occurrences_join}
use Rattle.store.proofs.SlotsLeft.{SlotsLeft}
use Rattle.descent.specs.Way.{Frame}
use Rattle.ascent.proofs.Frames.{FrameRight, way_slots, FramesStand, frame_holds, plug_pixels}
use Rattle.ascent.proofs.Pending.{Setting, width_in, slots_in, Around, Pending}
use Rattle.ascent.proofs.Around.{holds_x}
use Rattle.ascent.proofs.SlotCounts.{shared_moves}

-- a block that is right has at most 4 (k - 1) elements
pub right_size : (k level code : ℕ) (es : Placed) → 2 ≤ k → Aligned level code → LocallyRight k level code es → size es ≤ 4 * (k - 1)
right_size k level code es h a r =
    subst (λ (n : ℕ). n ≤ 4 * (k - 1)) (ap size (sym (local_is_gather k level code (unlabelled es) a (local_unlabelled r))) ∙ size_unlabelled es)
    (size_gather_any (member (pixels (unlabelled es))) k level code h)

-- elements in a block's place have the block's pixels
place_pixels : (a es b : Placed) (s level code : ℕ) → pixels (a ⧺ (es ⧺ b)) ≡ pixels (a ⧺ block_at s level code es b)
place_pixels a es b s level code =
    pixels_join a (es ⧺ b) ∙ ap (λ (l : List ℕ). pixels a ++ l) (pixels_join es b) ∙ sym (pixels_join a (block_at s level code es b))

-- fewer than k elements in the place of a block of the way: right but perhaps around x
dissolved : (σ : Setting) (f : Frame) (level code : ℕ) (left : Placed) → FrameRight σ.k σ.m f level code → code ≤ σ.x → σ.x < code + 4 ^ level
    → size left < σ.k → Arranged σ.k level code (code + 4 ^ level) left
    → Disturbed σ.k (quarter_level f.level) f.code σ.x (f.before ⧺ (left ⧺ f.after))
dissolved σ f level code left g lo hi few arr = go f.level refl
  where
    in_f : (f.code ≤ σ.x) × (σ.x < f.code + 4 ^ f.level)
    in_f = frame_holds σ.k σ.m f level code σ.x g lo hi

    go : (n : ℕ) → f.level ≡ n → Disturbed σ.k (quarter_level n) f.code σ.x (f.before ⧺ (left ⧺ f.after))
    go zero l = absurd (omega (arith, g.under))
    go (suc n) l =
        dissolve σ.k n f.code σ.x σ.k_from (subst (λ (j : ℕ). Aligned j f.code) l g.aligned) in_f.0 (subst (λ (j : ℕ). σ.x < f.code + 4 ^ j) l in_f.1) g.was _
        f.before f.after g.old level code refl
        (subst (λ (j : ℕ). LocallyRight σ.k j f.code (f.before ⧺ block_at g.was level code g.old f.after)) l g.right)
        (subst (λ (j : ℕ). Arranged σ.k j f.code code f.before) l g.low) (subst (λ (j : ℕ). level < j) l g.under) g.inner lo hi
        (subst (λ (j : ℕ). Arranged σ.k j (code + 4 ^ level) (f.code + 4 ^ j) f.after) l g.high) left few arr

-- what the block of slot s leaves of itself, and what the words then say of it and of the blocks around it
pub record LeftOver (σ : Setting) (after : List ℕ) (f : Frame) (way : List Frame) (s level code : ℕ) (es left : Placed) (free free' : List ℕ) : Type 0 where
  pub few : size left < σ.k
  pub some : 1 ≤ size left
  pub arranged : Arranged σ.k level code (code + 4 ^ level) left
  pub same_pixels : pixels left ≡ pixels es
  pub frames_stand : FramesStand (width_in σ) after (f ∷ way) s level code
  pub stands : Stands (width_in σ) after left
  pub free_chain : SlotsLeft (width_in σ) (slots_in σ) after free'
  pub counts : (t : ℕ) → occurrences t (slots_of left ++ free') ≡ occurrences t ((s ∷ slots_of es) ++ free)
  pub numbered : Numbered (width_in σ) (slots_in σ) after σ.target

pub handed_up : {σ : Setting} {words after : List ℕ} {f : Frame} {way : List Frame} {s level code : ℕ} {es left : Placed} {free free' : List ℕ}
    → Around σ words (f ∷ way) s level code es free → LeftOver σ after f way s level code es left free free'
    → Pending σ after way f.slot f.level f.code f.before (block_at s level code empty empty) left f.after free'
handed_up {σ} {words} {after} {f} {way} {s} {level} {code} {es} {left} {free} {free'} h r =
    let g = h.frames_right.0 in
    let b = f.before in
    let c = f.after in
    let wide : size (b ⧺ block_at g.was level code g.old c) ≤ 4 * (σ.k - 1) =
    right_size σ.k f.level f.code (b ⧺ block_at g.was level code g.old c) σ.k_from g.aligned g.right in
    let room : size b + suc (size c) ≤ 4 * (σ.k - 1) = omega (arith, size_join b (block_at g.was level code g.old c)) in
    record {
      around = record {
        frames_right = h.frames_right.1;
        frames_stand = r.frames_stand.4;
        stands = stands_join (width_in σ) after b (left ⧺ c) r.frames_stand.2 (stands_join (width_in σ) after left c r.stands r.frames_stand.3);
        level_from = omega (arith, g.under);
        disturbed = dissolved σ f level code left g (holds_x h).0 (holds_x h).1 r.few r.arranged;
        fits = omega (arith, r.few, σ.k_from, size_join b (left ⧺ c), size_join left c);
        some = inr (omega (arith, r.some, size_join b (left ⧺ c), size_join left c));
        free_chain = r.free_chain;
        shared = shared_moves (slots_in σ) (way_slots (f ∷ way) ++ (s ∷ slots_of es)) free (way_slots way ++ (f.slot ∷ slots_of (b ⧺ (left ⧺ c)))) free' h.shared moved;
        pixels_are = plug_pixels way f.slot f.level f.code (b ⧺ (left ⧺ c)) (b ⧺ block_at s level code left c) (place_pixels b left c s level code)
            ∙ plug_pixels (f ∷ way) s level code left es r.same_pixels ∙ h.pixels_are;
        numbered = r.numbered;
      };
      says = r.frames_stand.1;
      was_fit = omega (arith, size_join b (block_at s level code empty c));
      right_if_none_inserted = λ none. absurd (omega (arith, r.some));
    }
  where
    moved : (t : ℕ) → occurrences t ((way_slots way ++ (f.slot ∷ slots_of (f.before ⧺ (left ⧺ f.after)))) ++ free')
        ≡ occurrences t ((way_slots (f ∷ way) ++ (s ∷ slots_of es)) ++ free)
    moved t =
        let u : List ℕ = slots_of f.before in
        let v : List ℕ = slots_of f.after in
        let w : List ℕ = way_slots way in
        let n : List ℕ = slots_of (f.before ⧺ (left ⧺ f.after)) in
        omega (
          arith,
          occurrences_join t (w ++ (f.slot ∷ n)) free',
          occurrences_join t w (f.slot ∷ n),
          occurrences_join t (f.slot ∷ []) n,
          ap (occurrences t) (slots_join f.before (left ⧺ f.after)),
          occurrences_join t u (slots_of (left ⧺ f.after)),
          ap (occurrences t) (slots_join left f.after),
          occurrences_join t (slots_of left) v,
          occurrences_join t (way_slots (f ∷ way) ++ (s ∷ slots_of es)) free,
          occurrences_join t (way_slots (f ∷ way)) (s ∷ slots_of es),
          occurrences_join t (f.slot ∷ []) (u ++ (v ++ w)),
          occurrences_join t u (v ++ w),
          occurrences_join t v w,
          r.counts t,
          occurrences_join t (slots_of left) free',
          occurrences_join t (s ∷ slots_of es) free,
        )
