-- What each way out of save shows, from the numbers of pixels and blocks and a walk from the root.
use Rattle.std.proofs.Common.{◌≡◌, ℕ, ◌+◌, ◌*◌, ◌<◌, ◌≤◌, List, ◌++◌, length, take, drop, refl, ap, ◌∙◌, subst, ap₂, subst₂, inl, inr, append-nil, arith, length-append, length-drop, length-take-le, drop_at}
use lib.Seq.{drop-length}
use Rattle.pktree.specs.Entries.{entries}
use Rattle.pktree.specs.Image.{image, header_length}
use Rattle.pktree.specs.Tree.{blocks}
use Rattle.pktree.proofs.Forests.{length_blocks}
use Rattle.pktree.proofs.Images.{image_length_lem}
use Rattle.pktree.proofs.Absurd.{zero_is_not_one}
use Rattle.measures.specs.declared.sizes.Sizes.{Sizes}
use Rattle.measures.specs.Sizes.{panel_of, UsableStore, sizes_of}
use Rattle.store.specs.Sound.{Holds}
use Rattle.promises.specs.Answer.{accepted, refused, short}
use Rattle.promises.specs.Effect.{effect, passed, stopped}
use Rattle.promises.specs.Walk.{Spoiled}
use Rattle.promises.specs.Calls.{Saves}
use Rattle.promises.proofs.SpoiledRoot.{spoiled_shut}
use Rattle.saving.specs.declared.numbers.Numbers.{Numbers}
use Rattle.store.specs.declared.Damaged.{Damaged}
use Rattle.std.specs.Prelude.{Result, Ok, Err, IsErr}
use Rattle.saving.specs.Numbers.{NumbersAnswer}
use Rattle.image.specs.Held.{most_bytes}
use Rattle.image.specs.Writing.{put_entries, HeaderPut}
use Rattle.saving.specs.Saving.{RoomFor, EntriesPutTo, Ending, done, broken, EndingSaid, ImageWritten, FrontWritten}
use Rattle.image.proofs.EntryWrites.{length_headed}
use Rattle.saving.proofs.Saves.{not_done}
use Rattle.saving.proofs.SavedImage.{entries_counted, image_put}
use Rattle.walks.proofs.RootWalk.{held_tree, root_walked}

-- a walk that broke off says so
pub broken_said : (next : ℕ) {ending : Ending} → ending ≡ broken → (r : Result ℕ Damaged) → IsErr r → EndingSaid next ending r
broken_said next e (Ok _) h = absurd (zero_is_not_one (cc h))
broken_said next e (Err _) h = e

module _ {words : List ℕ} {told : Result Numbers Damaged} (answer : NumbersAnswer words told) where
  -- a sound store says its numbers
  pub no_numbers : {before : List ℕ} → told ≡ Err (record {}) → Saves words (effect (refused 13) before before)
  no_numbers e = record { ends = inr (refl, refl); spoiled = λ s. refl; sound = λ set holds. zero_is_not_one (cc (answer.sound set holds)) }

  -- n and m are what was said; found and opened are the same numbers, widened
  module _ {n m found opened : ℕ} (numbers_are : told ≡ Ok (record { pixels = n; blocks = m })) (found_is : found ≡ n) (opened_is : opened ≡ m) where
    said_numbers : {set : List ℕ} → Holds words set → ◌≡◌ {A = Numbers} (record { pixels = n; blocks = m }) (record { pixels = length set; blocks = length (blocks (held_tree words set)) })
    said_numbers {set} holds = let w = answer.sound set holds in cc

    said_blocks : {set : List ℕ} → Holds words set → m ≡ length (blocks (held_tree words set))
    said_blocks holds = ap (λ (z : Numbers). z.blocks) (said_numbers holds)

    -- 01: an image has n pixels and e entries
    numbers : {set : List ℕ} → Holds words set
        → (n ≡ length set) × (found + opened ≡ length (entries (held_tree words set))) × (header_length + 5 * (found + opened) ≡ length (image (panel_of (sizes_of words)) set))
    numbers {set} holds =
        let f : n ≡ length set = ap (λ (z : Numbers). z.pixels) (said_numbers holds) in
        let o = said_blocks holds in
        omega (arith, o, entries_counted holds, image_length_lem (panel_of (sizes_of words)) set)

    -- a spoiled store has no numbers
    not_spoiled : UsableStore words → Spoiled words → ⊥
    not_spoiled usable s = zero_is_not_one (cc (answer.closed (spoiled_shut words usable s)))

    -- what was said is within the sizes, whatever the words are
    few_bytes : header_length + 5 * (found + opened) ≤ most_bytes words
    few_bytes = let b = rw numbers_are at answer.bounds in omega (arith, b.0, b.1)

    -- the needed length is the image's
    pub too_short : {before : List ℕ} → UsableStore words → length before < header_length + 5 * (found + opened) → Saves words (effect (short (header_length + 5 * (found + opened))) before before)
    too_short usable h =
        record {
          ends = inl (inr (record { returns = record { is = refl; same = refl }; lacks = h; needed_to = few_bytes }));
          spoiled = λ s. absurd (not_spoiled usable s);
          sound = λ set holds. let n = (numbers holds).2 in stopped (λ l. omega (arith, l, n)) (record { is = ap short n; same = refl });
        }

    module _ {sizes : Sizes} {before after : List ℕ} {r : Result ℕ Damaged} (said : sizes ≡ sizes_of words) (room : header_length + 5 * (found + opened) ≤ length before)
        (front : FrontWritten sizes n m (header_length + 5 * (found + opened)) words before after r) where
      abbrev w : ImageWritten sizes n m words (take (header_length + 5 * (found + opened)) before) front.part r
      w = front.written

      walked : {set : List ℕ} → Holds words set → EntriesPutTo w.ending (record { layout = w.layout; entries = n + m }) (w.headed, 0, m) (held_tree words set) (front.part, w.next, w.left)
      walked holds = root_walked said w.laid w.walk.right holds

      there_is_room : {set : List ℕ} → Holds words set → RoomFor (record { layout = w.layout; entries = n + m }) (w.headed, 0, m) (held_tree words set)
      there_is_room {set} holds =
          record { room = omega (arith, (numbers holds).1); few = omega (arith, said_blocks holds, length_blocks (held_tree words set)) }

      -- the walk writes all entries of a sound store
      all_put : {set : List ℕ} → Holds words set → (w.next ≡ found + opened) × (front.part ≡ put_entries (n + m) 0 w.headed (entries (held_tree words set)))
      all_put {set} holds = let p = (walked holds).put.says (there_is_room holds) in (omega (arith, p.0, (numbers holds).1), p.1)

      -- neither the header nor the walk changes the length
      part_long : length front.part ≡ header_length + 5 * (found + opened)
      part_long = w.walk.long ∙ length_headed w.head (omega (arith, length-take-le (header_length + 5 * (found + opened)) before room)) ∙ length-take-le (header_length + 5 * (found + opened)) before room

      same_length : length after ≡ length before
      same_length =
          let rest : List ℕ = drop (header_length + 5 * (found + opened)) before in
          ap length front.is ∙ omega (arith, length-append front.part rest, length-drop (header_length + 5 * (found + opened)) before, part_long)

      -- it does not break off
      pub broke_off : {d : Damaged} → r ≡ Err d → Saves words (effect (refused 13) before after)
      broke_off {d} e =
          let ended : w.ending ≡ broken = subst (EndingSaid w.next w.ending) e w.said in
          record { ends = inr (refl, same_length); spoiled = λ s. refl; sound = λ set holds. absurd (not_done ended ((walked holds).ends (there_is_room holds))) }

      -- nor does it end elsewhere
      pub not_all : {last : ℕ} → r ≡ Ok last → (last ≡ found + opened → ⊥) → Saves words (effect (refused 13) before after)
      not_all {last} e h =
          let ended : (last ≡ w.next) × (w.ending ≡ done) = subst (EndingSaid w.next w.ending) e w.said in
          record { ends = inr (refl, same_length); spoiled = λ s. refl; sound = λ set holds. absurd (h (ended.0 ∙ (all_put holds).0)) }

      -- header and entries are the image
      part_is : {set : List ℕ} → Holds words set → front.part ≡ image (panel_of (sizes_of words)) set
      part_is {set} holds =
          let bytes : List ℕ = image (panel_of (sizes_of words)) set in
          let l : List ℕ = take (header_length + 5 * (found + opened)) before in
          let long : length l ≡ header_length + 5 * (found + opened) = length-take-le (header_length + 5 * (found + opened)) before room in
          let full : length bytes ≡ length l = omega (arith, (numbers holds).2) in
          image_put (panel_of (sizes_of words)) set l w.headed front.part (n + m) (omega (arith, (numbers holds).1)) (omega arith) (subst₂ (λ (z : Sizes) (i : ℕ). HeaderPut l z.order z.k (n + m) i w.headed) said (numbers holds).0 w.head) (all_put holds).1
          ∙ ap (λ (i : ℕ). bytes ++ drop i l) full ∙ ap (λ (b : List ℕ). bytes ++ b) (drop-length l) ∙ append-nil bytes

      pub all_written : UsableStore words → Saves words (effect (accepted (header_length + 5 * (found + opened)) 0) before after)
      all_written usable =
          record {
            ends = inl (inl (record {
              accepts = record { accepted = refl; first_to = few_bytes; second_to = omega arith; no_further = refl };
              room = room;
              rest = ap (drop (header_length + 5 * (found + opened))) front.is ∙ drop_at front.part (drop (header_length + 5 * (found + opened)) before) (header_length + 5 * (found + opened)) part_long;
              long = same_length;
            }));
            spoiled = λ s. absurd (not_spoiled usable s);
            sound = λ set holds.
                let n = (numbers holds).2 in
                passed (omega (arith, n))
                (record { is = ap (λ (i : ℕ). accepted i 0) n; wrote = front.is ∙ ap₂ (λ (p : List ℕ) (i : ℕ). p ++ drop i before) (part_is holds) n });
          }
