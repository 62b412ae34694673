-- The answers that the walk gives for a block, from what its loop has read.
use Prim.Native.Nat.{ℕ, suc, ◌+◌, ◌-◌, ◌^◌, ◌≤◌, ◌<◌}
use native.Mathlib.Omega.{arith}
use mathlib.Core.Path.{◌≡◌, ap, subst, sym, ◌∙◌}
use mathlib.Core.List.{List}
use lib.ListN.{length}
use Rattle.pktree.specs.Tree.{pixels}
use Rattle.elements.specs.declared.Element.{Element}
use Rattle.store.specs.declared.Damaged.{Damaged}
use Rattle.std.specs.Prelude.{Result, Ok}
use Rattle.store.specs.Opening.{HeaderSays}
use Rattle.elements.specs.Element.{element_at}
use Rattle.store.specs.Placed.{Placed}
use Rattle.inspection.specs.declared.pass.Pass.{Pass}
use Rattle.inspection.specs.Pass.{entry_of, PassMeets, refuses}
use Rattle.traversal.specs.declared.Claim.{Claim}
use Rattle.traversal.specs.declared.Seen.{Seen}
use Rattle.traversal.specs.Walk.{Limits, CanWalk, WithinLimits, seen_with, claimed, NoneClaimed, BlockWalked, ElementWalked, WalkElementMeets, unsound}
use Rattle.traversal.proofs.SeenParts.{seen_block}
use Rattle.traversal.proofs.WalkedTo.{part_of, WalkedTo, walked_one}
use Rattle.traversal.proofs.WalkRefusals.{refused, element_unsound, past_end, wrong_number, whole}
use Rattle.measures.specs.Slot.{number_word}

-- the block itself is seen
abbrev pub one_seen : Seen → Seen
one_seen seen = record { blocks = seen.blocks + 1; pixels = seen.pixels }

-- a block that was opened, in its loop: the first i elements of it are walked
pub record InBlock (limits : Limits) (words part : List ℕ) (claim : Claim) (seen : Seen) (count i : ℕ) (pass : Pass) (now : Seen) : Type 0 where
  pub can : CanWalk limits claim seen
  pub header : HeaderSays (part_of limits words claim) claim.block.level claim.block.code count
  pub many : claim.least ≤ count
  pub part_is : part ≡ part_of limits words claim
  pub at : i ≤ count
  pub met_few : pass.met < limits.k
  pub within : WithinLimits limits now
  pub walked : WalkedTo limits words claim (one_seen seen) i pass now

module _ {limits : Limits} {words part : List ℕ} {claim : Claim} {seen : Seen} {count i : ℕ} {pass : Pass} {now : Seen}
    (l : InBlock limits words part claim seen count i pass now) where
  -- what there is room for is the same, said of the block or of its elements
  room_inside : (es : Placed) → WithinLimits limits (seen_with seen (claimed claim es)) → WithinLimits limits (seen_with (one_seen seen) es)
  room_inside es = subst (WithinLimits limits) (sym (seen_block seen claim es))

  block_ends : claim.block.code + 4 ^ suc (claim.block.level - 1) ≡ claim.block.code + 4 ^ claim.block.level
  block_ends = let e : suc (claim.block.level - 1) ≡ claim.block.level = omega (arith, l.can.level_from) in ap (λ (i : ℕ). claim.block.code + 4 ^ i) e

  module _ (below : i < count) where
    module _ {element : Element} (is : element ≡ element_at part i) where
      of_slot : element ≡ element_at (part_of limits words claim) i
      of_slot = rw l.part_is at is

      pub refused_at : {p : Result Pass Damaged} → p ≡ refuses → PassMeets limits.k (claim.block.level - 1) pass (entry_of element) p → NoneClaimed limits words claim seen
      refused_at is passing =
          record { none = λ es b room. refused l.walked of_slot l.header.count_is below (rw is at passing) es b (room_inside es room) }

      module _ {p : Result Pass Damaged} {next : Pass} (goes_on_lem : p ≡ Ok next) (passing : PassMeets limits.k (claim.block.level - 1) pass (entry_of element) p) where
        passed_on : PassMeets limits.k (claim.block.level - 1) pass (entry_of element) (Ok next)
        passed_on = rw goes_on_lem at passing

        pub unsound_at : {r : Result Seen Damaged} → r ≡ unsound → WalkElementMeets limits words element now r → NoneClaimed limits words claim seen
        unsound_at is meets =
            record { none = λ es b room. element_unsound l.walked of_slot l.header.count_is below (rw is at meets) es b (room_inside es room) }

        pub next_walked : {more : Seen} {r : Result Seen Damaged} → r ≡ Ok more → WalkElementMeets limits words element now r
            → InBlock limits words part claim seen count (i + 1) next more
        next_walked {more} whole meets =
            let one : ElementWalked limits words element now more = rw whole at meets in
            record {
              can = l.can;
              header = l.header;
              many = l.many;
              part_is = l.part_is;
              at = omega arith;
              met_few = passed_on.bounds.0;
              within = one.within;
              walked = walked_one of_slot (omega (arith, l.header.laid)) l.walked passed_on one;
            }

  pixels_inside : now.pixels ≡ seen.pixels + length (pixels l.walked.past)
  pixels_inside = ap (λ (s : Seen). s.pixels) l.walked.now_is

  number_of_slot : number_word part ≡ number_word (part_of limits words claim)
  number_of_slot = ap number_word l.part_is

  -- all elements are walked
  module _ (all : count ≤ i) where
    pub misnumbered : (number_word part ≡ now.pixels - seen.pixels → ⊥) → NoneClaimed limits words claim seen
    misnumbered differ =
        record { none = λ es b room. wrong_number l.walked l.header (omega (arith, l.at)) (λ same. differ (omega (arith, number_of_slot, pixels_inside))) es b }

    module _ {end : ℕ} (ends : end ≡ claim.block.code + 4 ^ claim.block.level) where
      pub too_long : end < pass.from → NoneClaimed limits words claim seen
      too_long far = record { none = λ es b room. past_end l.walked l.header (omega (arith, l.at)) (omega (arith, block_ends)) es b }

      pub block_whole : pass.from ≤ end → number_word part ≡ now.pixels - seen.pixels → BlockWalked limits words claim seen now
      block_whole within same =
          record {
            found = l.walked.past;
            at = whole l.walked l.header (omega (arith, l.at)) l.many (omega (arith, block_ends)) (omega (arith, number_of_slot, pixels_inside));
            now_is = l.walked.now_is ∙ seen_block seen claim l.walked.past;
            within = l.within;
          }
