-- What each call answers and leaves by equation, on a store that holds this set; and 13 on a spoiled one.
use Prim.Native.Nat.{ℕ, ◌≤◌, ◌<◌}
use native.Mathlib.Omega.{arith}
use mathlib.Core.Path.{◌≡◌, refl, ap, ap₂, sym, ◌∙◌}
use mathlib.Core.Bool.{Bool, true, false}
use mathlib.Core.Logic.{◌↔◌}
use mathlib.Core.List.{List, ◌++◌}
use lib.ListN.{length, drop}
use Rattle.morton.specs.Code.{code_of}
use Rattle.pktree.specs.PixelSet.{member, added, removed}
use Rattle.pktree.specs.Tree.{tree}
use Rattle.pktree.specs.SmallestBlock.{Smallest, IsElement}
use Rattle.pktree.specs.Window.{Window, Ordered, found, opened_by_pixel}
use Rattle.pktree.specs.Image.{image}
use Rattle.pktree.proofs.Absurd.{zero_is_not_one}
use Rattle.pktree.proofs.SmallestBlocks.{one_smallest, element_exactly}
use Rattle.pktree.proofs.Parts.{part_begins, none_found, none_opened, none_crossed}
use Rattle.measures.specs.Sizes.{panel_of, sizes_of, UsableStore}
use Rattle.store.specs.Sound.{Holds}
use Rattle.promises.specs.Effect.{HasPixelOn, effect, Returns, part_in, passed, stopped}
use Rattle.promises.specs.Answer.{Answer, accepted, refused, located, yes_no}
use Rattle.promises.specs.Walk.{Spoiled}
use Rattle.promises.specs.Output.{WritesOrShort}
use Rattle.promises.specs.Calls.{MarkMeets, ClearMeets, AskMeets, NearestMeets, window_given, found_and_opened, found_and_crossed, Counts, CountMeets, Lists, ListMeets, SaveMeets}
use Rattle.promises.proofs.Answers.{refusal_of, first_of, second_of}
use Rattle.promises.proofs.Holding.{Holding, now_holding}
use Rattle.promises.proofs.Ladder.{where_holds, where_fails}

module _ {before set : List ℕ} (holds : Holds before set) {after : List ℕ} {x y : ℕ} (on : HasPixelOn before x y) {a : Answer} where
  module _ (meets : MarkMeets before after x y a) where
    pub mark_already : member set (code_of x y) ≡ true → Returns (refused 5) (effect a before after)
    mark_already m = where_fails ((where_holds (where_holds meets holds.sound.usable) on).sound set holds) (λ f. zero_is_not_one (cc (m, f)))

    pub mark_full : member set (code_of x y) ≡ false → (sizes_of before).most ≤ length set → Returns (refused 6) (effect a before after)
    mark_full m full = where_fails (where_holds ((where_holds (where_holds meets holds.sound.usable) on).sound set holds) m) (λ room. omega (arith, room, full))

    pub mark_adds : member set (code_of x y) ≡ false → length set < (sizes_of before).most → Holding (sizes_of before) (added (code_of x y) set) a after
    mark_adds m room = now_holding (where_holds (where_holds ((where_holds (where_holds meets holds.sound.usable) on).sound set holds) m) room)

  module _ (meets : ClearMeets before after x y a) where
    pub clear_unmarked : member set (code_of x y) ≡ false → Returns (refused 7) (effect a before after)
    clear_unmarked m = where_fails ((where_holds (where_holds meets holds.sound.usable) on).sound set holds) (λ t. zero_is_not_one (cc (m, t)))

    pub clear_removes : member set (code_of x y) ≡ true → Holding (sizes_of before) (removed (code_of x y) set) a after
    clear_removes m = now_holding (where_holds ((where_holds (where_holds meets holds.sound.usable) on).sound set holds) m)

-- where the part is empty, 0 and 0 are its numbers too
module _ (words : List ℕ) {part : Window} (set : List ℕ) (none : Ordered part → ⊥) where
  none_listed : accepted 0 0 ≡ found_and_opened words part set
  none_listed = sym (ap₂ accepted (ap length (none_found none set)) (none_opened none (tree (panel_of (sizes_of words)) (member set))))

  none_counted : accepted 0 0 ≡ found_and_crossed words part set
  none_counted = sym (ap₂ accepted (ap length (none_found none set)) (none_crossed none (tree (panel_of (sizes_of words)) (member set))))

yes_exactly : (b : Bool) → (yes_no b ≡ 1) ↔ (b ≡ true)
yes_exactly true = ((λ e. refl), (λ e. refl))
yes_exactly false = ((λ e. absurd (omega (arith, e))), (λ e. zero_is_not_one (cc)))

module _ {words set : List ℕ} (holds : Holds words set) {a : Answer} where
  -- 02, P8: whichever block is the smallest around the pixel is the one answered
  pub ask_answers : {x y level block : ℕ} → AskMeets words x y a → HasPixelOn words x y → Smallest (panel_of (sizes_of words)) (member set) (code_of x y) level block
      → a ≡ located (member set (code_of x y)) (opened_by_pixel (code_of x y) (tree (panel_of (sizes_of words)) (member set))) level block
  ask_answers {x} {y} m on s =
      let r = (where_holds (where_holds m holds.sound.usable) on).sound set holds in
      let same = one_smallest (panel_of (sizes_of words)) (member set) (code_of x y) r.smallest s in
      r.returns.is ∙ ap₂ (located (member set (code_of x y)) (opened_by_pixel (code_of x y) (tree (panel_of (sizes_of words)) (member set)))) (sym same.0) (sym same.1)

  pub ask_accepted : {x y : ℕ} → AskMeets words x y a → HasPixelOn words x y → a.refusal ≡ 0
  ask_accepted m on = refusal_of ((where_holds (where_holds m holds.sound.usable) on).sound set holds).returns.is

  -- the law, of what ask answers: marked exactly when it is an element of the block answered
  pub ask_element : {x y : ℕ} → AskMeets words x y a → HasPixelOn words x y
      → (a.first ≡ 1) ↔ IsElement (panel_of (sizes_of words)) (member set) (code_of x y) a.further.level a.further.code
  ask_element {x} {y} m on =
      let r = (where_holds (where_holds m holds.sound.usable) on).sound set holds in
      let law = element_exactly (panel_of (sizes_of words)) (member set) (code_of x y) holds.sound.usable.valid.panel r.smallest in
      let told = yes_exactly (member set (code_of x y)) in
      rw r.returns.is ((λ t. law.0 (told.0 t)), (λ i. told.1 (law.1 i)))

  -- 02, P3: those of the part on the panel, also where it is empty
  module _ {x0 y0 x1 y1 : ℕ} (ordered : Ordered (window_given x0 y0 x1 y1)) where
    pub count_answers : CountMeets words x0 y0 x1 y1 a → a ≡ found_and_crossed words (part_in words (window_given x0 y0 x1 y1)) set
    count_answers m = go (where_holds (where_holds m holds.sound.usable) ordered)
      where
        go : Counts words (window_given x0 y0 x1 y1) (effect a words words) → a ≡ found_and_crossed words (part_in words (window_given x0 y0 x1 y1)) set
        go (stopped none r) = r.is ∙ none_counted words set none
        go (passed some w) = (w.sound set holds).is

    module _ {before after : List ℕ} (meets : ListMeets words x0 y0 x1 y1 before after a) where
      list_answers : WritesOrShort (found_and_opened words (part_in words (window_given x0 y0 x1 y1)) set) (found (part_in words (window_given x0 y0 x1 y1)) set) (effect a before after)
      list_answers = go (where_holds (where_holds meets holds.sound.usable) ordered)
        where
          go : Lists words (window_given x0 y0 x1 y1) (effect a before after)
              → WritesOrShort (found_and_opened words (part_in words (window_given x0 y0 x1 y1)) set) (found (part_in words (window_given x0 y0 x1 y1)) set) (effect a before after)
          go (stopped none r) = let e = none_found none set in
              passed (omega (arith, ap length e)) (record { is = r.is ∙ none_listed words set none; wrote = r.same ∙ rw e })
          go (passed some w) = w.sound set holds

      pub list_writes : length (found (part_in words (window_given x0 y0 x1 y1)) set) ≤ length before
          → (a ≡ found_and_opened words (part_in words (window_given x0 y0 x1 y1)) set) × (after ≡ found (part_in words (window_given x0 y0 x1 y1)) set ++ drop (length (found (part_in words (window_given x0 y0 x1 y1)) set)) before)
      list_writes room = let w = where_holds list_answers room in (w.is, w.wrote)

      pub list_short : length before < length (found (part_in words (window_given x0 y0 x1 y1)) set)
          → (a.refusal ≡ 9) × (a.first ≡ length (found (part_in words (window_given x0 y0 x1 y1)) set)) × (a.second ≡ 0) × (after ≡ before)
      list_short lacks =
          let r = where_fails list_answers (λ room. omega (arith, room, lacks)) in
          (refusal_of r.is, first_of r.is, second_of r.is, r.same)

  module _ {before after : List ℕ} (meets : SaveMeets words before after a) where
    pub save_writes : length (image (panel_of (sizes_of words)) set) ≤ length before
        → (a ≡ accepted (length (image (panel_of (sizes_of words)) set)) 0) × (after ≡ image (panel_of (sizes_of words)) set ++ drop (length (image (panel_of (sizes_of words)) set)) before)
    save_writes room = let w = where_holds ((where_holds meets holds.sound.usable).sound set holds) room in (w.is, w.wrote)

    pub save_short : length before < length (image (panel_of (sizes_of words)) set)
        → (a.refusal ≡ 9) × (a.first ≡ length (image (panel_of (sizes_of words)) set)) × (a.second ≡ 0) × (after ≡ before)
    save_short lacks =
        let r = where_fails ((where_holds meets holds.sound.usable).sound set holds) (λ room. omega (arith, room, lacks)) in
        (refusal_of r.is, first_of r.is, second_of r.is, r.same)

-- 13 on a spoiled store, by each of the seven calls that walk
module _ {words : List ℕ} (usable : UsableStore words) (spoiled : Spoiled words) {a : Answer} where
  module _ {x y : ℕ} (on : HasPixelOn words x y) where
    pub mark_spoiled : {after : List ℕ} → MarkMeets words after x y a → a ≡ refused 13
    mark_spoiled m = (where_holds (where_holds m usable) on).spoiled spoiled

    pub clear_spoiled : {after : List ℕ} → ClearMeets words after x y a → a ≡ refused 13
    clear_spoiled m = (where_holds (where_holds m usable) on).spoiled spoiled

    pub ask_spoiled : AskMeets words x y a → a ≡ refused 13
    ask_spoiled m = (where_holds (where_holds m usable) on).spoiled spoiled

    pub nearest_spoiled : {budget : ℕ} → 1 ≤ budget → NearestMeets words x y budget a → a ≡ refused 13
    nearest_spoiled some m = (where_holds (where_holds (where_holds m usable) on) some).spoiled spoiled

  -- where the window is not wholly off the panel
  module _ {x0 y0 x1 y1 : ℕ} (some : Ordered (part_in words (window_given x0 y0 x1 y1))) where
    pub count_spoiled : CountMeets words x0 y0 x1 y1 a → a ≡ refused 13
    count_spoiled m = (where_holds (where_holds (where_holds m usable) (part_begins (panel_of (sizes_of words)) _ some).ordered) some).spoiled spoiled

    pub list_spoiled : {before after : List ℕ} → ListMeets words x0 y0 x1 y1 before after a → a ≡ refused 13
    list_spoiled m = (where_holds (where_holds (where_holds m usable) (part_begins (panel_of (sizes_of words)) _ some).ordered) some).spoiled spoiled

  pub save_spoiled : {before after : List ℕ} → SaveMeets words before after a → a ≡ refused 13
  save_spoiled m = (where_holds m usable).spoiled spoiled
