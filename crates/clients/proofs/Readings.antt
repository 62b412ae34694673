-- What the calls that only read answer on the first panel: by equation, and worked out.
use Prim.Native.Nat.{ℕ, ◌^◌, ◌≤◌, ◌<◌}
use native.Mathlib.Omega.{arith}
use mathlib.Core.Bool.{true, false}
use mathlib.Core.Path.{◌≡◌, refl, ap, sym, subst, ◌∙◌}
use mathlib.Core.List.{List, [], ◌∷◌, ◌++◌}
use lib.ListN.{length, drop}
use Rattle.morton.specs.Code.{interleave, gather_bits, code_of}
use Rattle.pktree.specs.Panel.{HasPixel}
use Rattle.pktree.specs.PixelSet.{member}
use Rattle.pktree.specs.Elements.{gather}
use Rattle.pktree.specs.Tree.{tree}
use Rattle.pktree.specs.SmallestBlock.{Smallest}
use Rattle.pktree.specs.Window.{Ordered, some_from, every_from, opened_by_pixel}
use Rattle.pktree.specs.Image.{image}
use Rattle.pktree.proofs.Samples.{first_located}
use Rattle.searching.specs.Distance.{squared_distance, block_distance}
use Rattle.searching.specs.Search.{continued}
use Rattle.searching.specs.NearestPromises.{nearest_on}
use Rattle.measures.specs.declared.sizes.Sizes.{Sizes}
use Rattle.measures.specs.Sizes.{panel_of, sizes_of}
use Rattle.promises.specs.Effect.{HasPixelOn}
use Rattle.image.specs.Held.{HasImage}
use Rattle.promises.specs.Answer.{Answer, accepted, searched, located}
use Rattle.promises.specs.Calls.{asked, MarkMeets, ClearMeets, AskMeets, NearestMeets, window_given, CountMeets, ListMeets, SaveMeets, LoadMeets, FillMeets, CheckMeets}
use Rattle.promises.proofs.Answers.{refusal_of}
use Rattle.promises.proofs.Exactly.{image_loaded, set_filled, check_answers}
use Rattle.promises.proofs.OnSound.{mark_already, clear_unmarked, clear_removes, ask_answers, ask_element, count_answers, list_writes, list_short, save_writes, save_short}
use Rattle.promises.proofs.WholePanel.{count_whole}
use Rattle.promises.proofs.Nearest.{nearest_answers}
use Rattle.clients.specs.Known.{first_set, HoldsOf9, HoldsFirst, first_image, PanelAsked, ElementAsked, values, PanelSearched, part_found, part_listed, part_counted, PanelCounted, PanelListed, PanelSaved, ClearedListed, SpoiltOf9}

-- the set is one of the panel, and its image is these bytes, by computation
has_image : HasImage (panel_of (asked 3 3 9)) 9 first_image first_set
unfolding gather
has_image = record {
  on_panel = record {
    ascending = (omega arith, (omega arith, (omega arith, (omega arith, tt))));
    on_panel = (omega arith, (omega arith, (omega arith, (omega arith, tt))));
  };
  room = omega arith;
  is = refl;
}

-- what the definitions say of it, by computation
code_0 : code_of 0 0 ≡ 0
unfolding interleave
code_0 = refl

code_3 : code_of 1 1 ≡ 3
unfolding interleave
code_3 = refl

code_15 : code_of 3 3 ≡ 15
unfolding interleave
code_15 = refl

-- the pixel's answer, with a block
told : ℕ → ℕ → ℕ → Answer
told code level block = located (member first_set code) (opened_by_pixel code (tree (panel_of (asked 3 3 9)) (member first_set))) level block

marked_0 : told 0 1 0 ≡ located true 2 1 0
unfolding gather told
marked_0 = refl

unmarked_3 : told 3 1 0 ≡ located false 2 1 0
unfolding gather told
unmarked_3 = refl

unmarked_15 : told 15 3 0 ≡ located false 1 3 0
unfolding gather told
unmarked_15 = refl

rough_search : nearest_on (panel_of (asked 3 3 9)) first_set (code_of 1 1) 1 ≡ values true 60 50 1 0 false
unfolding interleave gather gather_bits squared_distance block_distance continued
rough_search = refl

whole_search : nearest_on (panel_of (asked 3 3 9)) first_set (code_of 1 1) 9 ≡ values true 1 1 2 1 true
unfolding interleave gather gather_bits squared_distance block_distance continued
whole_search = refl

upper_right : part_counted (window_given 4 4 7 7) first_set (asked 3 3 9) ≡ accepted 1 1
unfolding gather gather_bits some_from every_from
upper_right = refl

-- over the right and the upper edge, to the largest coordinate of a call
over_edges : part_counted (window_given 6 6 9 4294967295) first_set (asked 3 3 9) ≡ accepted 1 1
unfolding gather gather_bits some_from every_from
over_edges = refl

-- the first column goes through the root and the block 1/0, which has pixels on both sides of its edge
across_block : part_counted (window_given 0 0 0 7) first_set (asked 3 3 9) ≡ accepted 2 2
unfolding gather gather_bits some_from every_from
across_block = refl

-- the block 1/0 wholly inside is taken by its number
around_block : part_counted (window_given 0 0 1 7) first_set (asked 3 3 9) ≡ accepted 3 1
unfolding gather gather_bits some_from every_from
around_block = refl

all_codes : part_found (window_given 0 0 7 7) first_set (asked 3 3 9) ≡ first_set
unfolding gather_bits
all_codes = refl

all_found : part_listed (window_given 0 0 7 7) first_set (asked 3 3 9) ≡ accepted 4 2
unfolding gather gather_bits some_from
all_found = refl

image_is : image (panel_of (asked 3 3 9)) first_set ≡ first_image
unfolding gather
image_is = refl

pub marked_first : {start words : List ℕ} → HoldsOf9 first_set start words → HoldsFirst words
marked_first h = record { holds = h.holds; sizes_are = h.sizes_are }

-- 02, P8: the law, of any store
pub element_asked : {words : List ℕ} {x y : ℕ} {a : Answer} → AskMeets words x y a → ElementAsked words x y a
element_asked m = record { exactly = λ set holds on. ask_element holds m on }

-- ask of a pixel whose smallest block is known
asked_at : {a : Answer} {x y : ℕ} (code level block : ℕ) → code_of x y ≡ code → HasPixel (panel_of (asked 3 3 9)) x y → Smallest (panel_of (asked 3 3 9)) (member first_set) code level block
    → PanelAsked x y a → a ≡ told code level block
unfolding told
asked_at {a} {x} {y} code level block e on s p =
    subst (λ (c : ℕ). a ≡ told c level block) e
    (p.says level block on (subst (λ (c : ℕ). Smallest (panel_of (asked 3 3 9)) (member first_set) c level block) (sym e) s))

pub ask_marked : {a : Answer} → PanelAsked 0 0 a → a ≡ located true 2 1 0
ask_marked p = asked_at 0 1 0 code_0 (omega arith, omega arith) first_located.at_0 p ∙ marked_0

pub ask_unmarked : {a : Answer} → PanelAsked 1 1 a → a ≡ located false 2 1 0
ask_unmarked p = asked_at 3 1 0 code_3 (omega arith, omega arith) first_located.at_3 p ∙ unmarked_3

pub ask_root : {a : Answer} → PanelAsked 3 3 a → a ≡ located false 1 3 0
ask_root p = asked_at 15 3 0 code_15 (omega arith, omega arith) first_located.at_15 p ∙ unmarked_15

pub nearest_rough : {a : Answer} → PanelSearched 1 1 1 a → a ≡ searched (values true 60 50 1 0 false)
nearest_rough p = p.says (omega arith, omega arith) (omega arith) ∙ ap searched rough_search

pub nearest_whole : {a : Answer} → PanelSearched 1 1 9 a → a ≡ searched (values true 1 1 2 1 true)
nearest_whole p = p.says (omega arith, omega arith) (omega arith) ∙ ap searched whole_search

pub count_window : {a : Answer} → PanelCounted (window_given 4 4 7 7) a → a ≡ accepted 1 1
count_window p = p.says (record { x_ordered = omega arith; y_ordered = omega arith }) ∙ upper_right

pub count_over_edges : {a : Answer} → PanelCounted (window_given 6 6 9 4294967295) a → a ≡ accepted 1 1
count_over_edges p = p.says (record { x_ordered = omega arith; y_ordered = omega arith }) ∙ over_edges

pub count_across_block : {a : Answer} → PanelCounted (window_given 0 0 0 7) a → a ≡ accepted 2 2
count_across_block p = p.says (record { x_ordered = omega arith; y_ordered = omega arith }) ∙ across_block

pub count_around_block : {a : Answer} → PanelCounted (window_given 0 0 1 7) a → a ≡ accepted 3 1
count_around_block p = p.says (record { x_ordered = omega arith; y_ordered = omega arith }) ∙ around_block

module _ {words : List ℕ} (h : HoldsFirst words) where
  on_9 : {x y : ℕ} → HasPixel (panel_of (asked 3 3 9)) x y → HasPixelOn words x y
  on_9 {x} {y} on = subst (λ (s : Sizes). HasPixel (panel_of s) x y) (sym h.sizes_are) on

  -- its image, of the sizes that it was made with
  image_of_panel : image (panel_of (sizes_of words)) first_set ≡ first_image
  image_of_panel = subst (λ (s : Sizes). image (panel_of s) first_set ≡ first_image) (sym h.sizes_are) image_is

module _ {words : List ℕ} (h : HoldsFirst words) {a : Answer} where
  pub asked_panel : {x y : ℕ} → AskMeets words x y a → PanelAsked x y a
  asked_panel {x} {y} m = record {
    says = λ level block. subst
        (λ (s : Sizes). HasPixel (panel_of s) x y → Smallest (panel_of s) (member first_set) (code_of x y) level block
        → a ≡ located (member first_set (code_of x y)) (opened_by_pixel (code_of x y) (tree (panel_of s) (member first_set))) level block)
        h.sizes_are (ask_answers h.holds m);
  }

  pub searched_panel : {x y budget : ℕ} → NearestMeets words x y budget a → PanelSearched x y budget a
  searched_panel {x} {y} {budget} m = record {
    says = λ on some. subst (λ (s : Sizes). HasPixel (panel_of s) x y → a ≡ searched (nearest_on (panel_of s) first_set (code_of x y) budget)) h.sizes_are (λ on. nearest_answers h.holds m on some) on;
  }

  pub counted_panel : {x0 y0 x1 y1 : ℕ} → CountMeets words x0 y0 x1 y1 a → PanelCounted (window_given x0 y0 x1 y1) a
  counted_panel {x0} {y0} {x1} {y1} m = record {
    says = λ ordered. subst (λ (s : Sizes). a ≡ part_counted (window_given x0 y0 x1 y1) first_set s) h.sizes_are (count_answers h.holds ordered m);
  }

  -- 02, P6: of the whole panel
  pub whole_panel : CountMeets words 0 0 7 7 a → a ≡ accepted 4 0
  whole_panel m =
      let side : 2 ^ (sizes_of words).order ≡ 8 = ap (λ (z : Sizes). 2 ^ z.order) h.sizes_are in
      count_whole h.holds 7 7 (omega (arith, side)) (omega (arith, side)) m

  pub listed_panel : {before after : List ℕ} → ListMeets words 0 0 7 7 before after a → PanelListed before after a
  listed_panel {before} {after} m =
      let ordered : Ordered (window_given 0 0 7 7) = record { x_ordered = omega arith; y_ordered = omega arith } in
      let codes : part_found (window_given 0 0 7 7) first_set (sizes_of words) ≡ first_set = subst (λ (s : Sizes). part_found (window_given 0 0 7 7) first_set s ≡ first_set) (sym h.sizes_are) all_codes in
      record {
        written = λ room. let w = list_writes h.holds ordered m (subst (λ (l : List ℕ). length l ≤ length before) (sym codes) room) in (
          subst (λ (s : Sizes). a ≡ part_listed (window_given 0 0 7 7) first_set s) h.sizes_are w.0 ∙ all_found,
          subst (λ (l : List ℕ). after ≡ l ++ drop (length l) before) codes w.1,
        );
        lacking = λ lacks. let r = list_short h.holds ordered m (subst (λ (l : List ℕ). length before < length l) (sym codes) lacks) in
            (r.0, r.1 ∙ ap length codes, r.3);
      }

  pub saved_panel : {before after : List ℕ} → SaveMeets words before after a → PanelSaved before after a
  saved_panel {before} {after} m =
      let is = image_of_panel h in
      record {
        written = λ room. let w = save_writes h.holds m (subst (λ (b : List ℕ). length b ≤ length before) (sym is) room) in (
          subst (λ (b : List ℕ). a ≡ accepted (length b) 0) is w.0,
          subst (λ (b : List ℕ). after ≡ b ++ drop (length b) before) is w.1,
        );
        lacking = λ lacks. let r = save_short h.holds m (subst (λ (b : List ℕ). length before < length b) (sym is) lacks) in (
          r.0,
          r.1 ∙ ap length is,
          r.3,
        );
      }

  pub checked_panel : CheckMeets words a → a ≡ accepted 1 0
  checked_panel m = (check_answers m).yes.1 (record { placed = h.holds.placed; sound = h.holds.sound })

-- after a clear, and of calls that are refused
module _ {words : List ℕ} (h : HoldsFirst words) {after : List ℕ} {a : Answer} where
  pub marked_again : {r : ℕ} → MarkMeets words after 6 6 a → r ≡ a.refusal → r ≡ 5
  unfolding interleave
  marked_again m e = e ∙ refusal_of (mark_already h.holds (on_9 h (omega arith, omega arith)) m refl).is

  pub not_marked : {r : ℕ} → ClearMeets words after 1 1 a → r ≡ a.refusal → r ≡ 7
  unfolding interleave
  not_marked m e = e ∙ refusal_of (clear_unmarked h.holds (on_9 h (omega arith, omega arith)) m refl).is

  pub cleared_listed : {b : Answer} {before written : List ℕ} → ClearMeets words after 1 0 a → ListMeets after 0 0 7 7 before written b → ClearedListed before written b
  unfolding interleave gather gather_bits some_from
  cleared_listed {b} {before} {written} m l =
      let c = clear_removes h.holds (on_9 h (omega arith, omega arith)) m refl in
      let s = c.sizes_are ∙ h.sizes_are in
      let left : List ℕ = 0 ∷ 2 ∷ 60 ∷ [] in
      let codes : part_found (window_given 0 0 7 7) left (sizes_of after) ≡ left = subst (λ (z : Sizes). part_found (window_given 0 0 7 7) left z ≡ left) (sym s) refl in
      record {
        written = λ room. let w = list_writes c.holds (record { x_ordered = omega arith; y_ordered = omega arith }) l (subst (λ (f : List ℕ). length f ≤ length before) (sym codes) room) in (
          subst (λ (z : Sizes). b ≡ part_listed (window_given 0 0 7 7) left z) s w.0,
          subst (λ (f : List ℕ). written ≡ f ++ drop (length f) before) codes w.1,
        );
      }

first_fits : {words : List ℕ} → SpoiltOf9 words → HasImage (panel_of (sizes_of words)) (sizes_of words).most first_image first_set
first_fits s = subst (λ (z : Sizes). HasImage (panel_of z) z.most first_image first_set) (sym s.sizes_are) has_image

-- a damaged store of these sizes holds the image's set once it is loaded
pub mended_panel : {words after bytes : List ℕ} {a : Answer} → SpoiltOf9 words → bytes ≡ first_image → LoadMeets words after bytes a → HoldsFirst after
mended_panel {words} s e m =
    let has = first_fits s in
    let b = image_loaded m s.usable (subst (λ (l : List ℕ). HasImage (panel_of (sizes_of words)) (sizes_of words).most l first_set) (sym e) has) in
    record { holds = b.holds; sizes_are = b.sizes_are ∙ s.sizes_are }

-- and the codes once it is filled
pub refilled_panel : {words after : List ℕ} {a : Answer} → SpoiltOf9 words → FillMeets words after first_set a → HoldsFirst after
refilled_panel s m =
    let b = set_filled m s.usable (first_fits s).on_panel (first_fits s).room in
    record { holds = b.holds; sizes_are = b.sizes_are ∙ s.sizes_are }
