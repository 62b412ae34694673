-- 01, demand 3: one claim about every two lists of calls after make.
use Rattle.std.specs.Prelude.{Result, Ok}
use Prim.Native.Nat.{ℕ, ◌+◌, ◌-◌, ◌*◌, ◌/◌, ◌≤◌}
use native.Mathlib.Omega.{arith}
use mathlib.Core.Path.{◌≡◌, refl, ap, ap₂, subst, sym, ◌∙◌}
use mathlib.Core.Logic.{◌⊎◌, inl, inr, ◌↔◌}
use mathlib.Core.List.{List, Memᴰ, ◌++◌}
use lib.ListN.{length, take, drop}
use lib.Seq.{take_at}
use Rattle.pktree.specs.PixelSet.{member, PixelSet}
use Rattle.pktree.specs.Elements.{Forest, size, gather, unlabelled}
use Rattle.pktree.specs.Tree.{Instantiated, tree, block_of, blocks}
use Rattle.pktree.specs.Image.{image}
use Rattle.pktree.proofs.InTree.{in_tree_exactly_instantiated}
use Rattle.pktree.proofs.Sizes as sizes-of-blocks
use Rattle.pktree.proofs.BlockNumber as number
use Rattle.pktree.proofs.Images.{image_determines_set}
use Rattle.measures.specs.declared.sizes.Sizes.{Sizes}
use Rattle.store.proofs.Held.{tree_of_held, held_set}
use Rattle.measures.specs.Sizes.{panel_of, sizes_of, ValidSizes}
use Rattle.promises.specs.Answer.{Answer, accepted}
use Rattle.answers.specs.declared.Refusal.{Refusal}
use Rattle.answers.specs.Answer.{save_answer}
use Rattle.promises.specs.Effect.{effect}
use Rattle.promises.specs.Output.{WritesOrShort}
use Rattle.promises.specs.Calls.{SaveMeets}
use Rattle.promises.proofs.Ladder.{where_holds, accepted_passed}
use Rattle.promises.specs.Survivors.{Call, survivors}
use Rattle.history.specs.Run.{SaveRun, by_save, History}
use Rattle.history.specs.Claim.{full_image, HoldsSurvivors, EveryTwoLists}
use Rattle.history.proofs.FullSave.{full_save}
use Rattle.promises.proofs.Keeping.{InStep}
use Rattle.history.proofs.Runs.{history_keeps}

module _ (sizes : Sizes) (set words : List ℕ) (h : InStep sizes set words) where
  valid : ValidSizes sizes
  valid = subst ValidSizes h.sized h.holds.sound.usable.valid

  held_tree_lem : unlabelled h.holds.placed ≡ tree (panel_of sizes) (member set)
  held_tree_lem = tree_of_held h.holds ∙ ap (λ (z : Sizes). tree (panel_of z) (member set)) h.sized

  is_set : PixelSet (panel_of sizes) set
  is_set = subst (λ (z : Sizes). PixelSet (panel_of z) set) h.sized (held_set h.holds)

  -- what save meets, of these sizes
  image_is : image (panel_of (sizes_of words)) set ≡ image (panel_of sizes) set
  image_is = ap (λ (z : Sizes). image (panel_of z) set) h.sized

  module _ (output : List ℕ) (r : Result ℕ Refusal) (written : List ℕ) (m : SaveMeets words output written (save_answer r)) where
    abbrev bytes : List ℕ
    bytes = image (panel_of (sizes_of words)) set

    right : WritesOrShort (accepted (length bytes) 0) bytes (effect (save_answer r) output written)
    right = (where_holds m h.holds.sound.usable).sound set h.holds

    long_enough_accepted : length bytes ≤ length output → (save_answer r).refusal ≡ 0
    long_enough_accepted l = ap (λ (a : Answer). a.refusal) (where_holds right l).is

    accepted_writes : (save_answer r).refusal ≡ 0 → full_image r written ≡ bytes
    accepted_writes e =
        let d = (accepted_passed (omega arith) right e).1 in
        ap₂ (λ (n : ℕ) (w : List ℕ). take n w) (ap (λ (a : Answer). a.first) d.is) d.wrote
        ∙ take_at bytes (drop (length bytes) output) (length bytes) refl

  saved_accepted : (output : List ℕ) (r : Result ℕ Refusal) (written : List ℕ) → SaveRun words output r written → length (image (panel_of sizes) set) ≤ length output
      → (save_answer r).refusal ≡ 0
  saved_accepted output r written (by_save m) l =
      long_enough_accepted output r written m
      (subst (λ (b : List ℕ). length b ≤ length output) (sym image_is) l)

  saved_is : (output : List ℕ) (r : Result ℕ Refusal) (written : List ℕ) → SaveRun words output r written → (save_answer r).refusal ≡ 0
      → full_image r written ≡ image (panel_of sizes) set
  saved_is output r written (by_save m) a = accepted_writes output r written m a ∙ image_is

  save_there : (output : List ℕ) → length (image (panel_of sizes) set) ≤ length output
      → SaveRun words output (Ok (length (image (panel_of sizes) set))) (image (panel_of sizes) set ++ drop (length (image (panel_of sizes) set)) output)
  save_there output =
      subst (λ (b : List ℕ). length b ≤ length output → SaveRun words output (Ok (length b)) (b ++ drop (length b) output)) image_is
      (λ room. by_save (full_save h.holds output room))

  block_sizes_held : (level code : ℕ) (elements : Forest) → Memᴰ (block_of level code elements) (blocks (tree (panel_of sizes) (member set)))
      → (size elements ≤ 4 * (sizes.k - 1)) × ((level ≡ sizes.order → ⊥) → sizes.k ≤ size elements)
  block_sizes_held level code elements e =
      let b = sizes-of-blocks.block_sizes (panel_of sizes) (member set) level code elements valid.panel e in
      (b.0, λ root. but_root root b.1)
    where
      but_root : (level ≡ sizes.order → ⊥) → (level ≡ sizes.order) ⊎ (sizes.k ≤ size elements) → sizes.k ≤ size elements
      but_root root (inl e) = absurd (root e)
      but_root root (inr l) = l

pub holds_survivors : (sizes : Sizes) (calls : List Call) (words : List ℕ) → History sizes calls words → HoldsSurvivors sizes calls words
holds_survivors sizes calls words history =
    let set : List ℕ = survivors sizes calls in
    let h = history_keeps sizes calls words history in
    let e = held_tree_lem sizes set words h in
    record {
      placed = h.holds.placed;
      sound = h.holds.sound;
      reads = h.holds.sound.reads;
      tree_is = e;
      blocks_are = λ level code elements. subst (λ (t : Forest). Memᴰ (block_of level code elements) (blocks t)
          ↔ (Instantiated (panel_of sizes) (member set) level code × (elements ≡ gather (member set) sizes.k level code))) (sym e)
          (in_tree_exactly_instantiated (panel_of sizes) (member set) level code elements);
      block_sizes = λ level code elements m. block_sizes_held sizes set words h level code elements
          (subst (λ (t : Forest). Memᴰ (block_of level code elements) (blocks t)) e m);
      number_of_blocks = λ some. subst (λ (t : Forest). length (blocks t) ≤ 1 + (length set - 1) / (sizes.k - 1)) (sym e)
          (number.number_of_blocks (panel_of sizes) set (valid sizes set words h).panel (is_set sizes set words h) some);
      can_save = save_there sizes set words h;
      save_accepted = saved_accepted sizes set words h;
      saved = saved_is sizes set words h;
    }

-- the claim
pub two_lists : EveryTwoLists
two_lists sizes sizes' calls calls' words words' same_order same-k history history' =
    let set : List ℕ = survivors sizes calls in
    let set' : List ℕ = survivors sizes' calls' in
    let h = history_keeps sizes calls words history in
    let h' = history_keeps sizes' calls' words' history' in
    let panel : panel_of sizes ≡ panel_of sizes' = λ i. record { order = same_order i; k = same-k i } in
    let exactly = image_determines_set (panel_of sizes) (panel_of sizes') set set' (valid sizes set words h).panel (valid sizes' set' words' h').panel
    (is_set sizes set words h) (is_set sizes' set' words' h') in
    record {
      first = holds_survivors sizes calls words history;
      second = holds_survivors sizes' calls' words' history';
      same_bytes = λ output r written save a output' r' written' save' a'.
          let one = saved_is sizes set words h output r written save a in
          let other = saved_is sizes' set' words' h' output' r' written' save' a' in
          (λ e. (exactly.0 (sym one ∙ e ∙ other)).1, λ e. one ∙ exactly.1 (panel, e) ∙ sym other);
    }
